-- Ids that are the same, and lists that have an id.
use Rattle.std.proofs.Common.{Bool, List, Some, [], false, refl, suc, sym, true, zero, ℕ, ◌++◌, ◌+◌, ◌||◌, ◌∙◌, ◌∷◌, ◌≡◌}
use Rattle.std.proofs.lemmas.Bool.{false≢true}
use Rattle.std.proofs.lemmas.List.Folds.{list_any-append}
use Rattle.std.proofs.lemmas.Slice.Eq.{bytes_eq-Decides}
use Rattle.std.specs.List.{list_any}
use Rattle.std.specs.Prelude.{slice_get}
use Rattle.std.specs.Str.{bytes_eq}
use Rattle.grid_ids.specs.Name.{has_id, same_id}

pub has_join : (ids more : List (List ℕ)) (q : List ℕ) → has_id (ids ++ more) q ≡ (has_id ids q || has_id more q)
unfolding has_id
has_join ids more q = list_any-append (bytes_eq q) ids more

pub stands : (names : List (List ℕ)) (k : ℕ) (name : List ℕ) → slice_get names k ≡ Some name → has_id names name ≡ true
unfolding has_id
stands [] k name is = cc
stands (n ∷ ns) zero name is =
    let same : n ≡ name = cc in
    rw (same, (bytes_eq-Decides name name).1 refl) refl
stands (n ∷ ns) (suc k) name is = either (same_id name n) (stands ns k name is)
  where
    either : (b : Bool) → list_any (same_id name) ns ≡ true → (b || list_any (same_id name) ns) ≡ true
    either true h = refl
    either false h = h

pub same_swap : (a b : List ℕ) → same_id a b ≡ false → same_id b a ≡ false
same_swap a b h = by (same_id b a) refl
  where
    by : (t : Bool) → same_id b a ≡ t → t ≡ false
    by true e = absurd (false≢true (sym h ∙ (bytes_eq-Decides a b).1 (sym ((bytes_eq-Decides b a).0 e))))
    by false e = refl

pub same_is : (a b : List ℕ) → same_id a b ≡ true → a ≡ b
same_is a b e = (bytes_eq-Decides a b).0 e

pub same_itself : (a : List ℕ) → same_id a a ≡ true
same_itself a = (bytes_eq-Decides a a).1 refl
