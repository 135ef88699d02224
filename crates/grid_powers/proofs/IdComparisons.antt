-- The comparison of ids that finds, as a test.
use Rattle.std.proofs.Common.{◌≡◌, ap, ℕ, List}
use Rattle.std.specs.Ordering.{nat_cmp, is_eq}
use Rattle.std.specs.Cmp.Lexicographic.{slice_cmp}
use Rattle.std.specs.Map.{lookup, remove_entry}
use Rattle.std.proofs.lemmas.Map.Text.{is_eq-slice_cmp}
use Rattle.grid_ids.specs.Name.{same_id}
use Rattle.grid_powers.specs.Listed.{Listed, value_in, without_value}

same_test : (id : List ℕ) → (λ k. is_eq (slice_cmp nat_cmp id k)) ≡ same_id id
same_test id = λ i k. is_eq-slice_cmp id k i

pub value_found : (id : List ℕ) (pairs : Listed) → lookup (λ k. is_eq (slice_cmp nat_cmp id k)) pairs ≡ value_in pairs id
value_found id pairs = ap (λ test. lookup test pairs) (same_test id)

pub value_gone : (id : List ℕ) (pairs : Listed) → remove_entry (λ k. is_eq (slice_cmp nat_cmp id k)) pairs ≡ without_value id pairs
value_gone id pairs = ap (λ test. remove_entry test pairs) (same_test id)
