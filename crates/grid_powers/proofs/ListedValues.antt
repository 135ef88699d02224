-- What is listed after a change, whatever the order of the pairs.
use Rattle.std.proofs.Common.{◌≡◌, refl, sym, ap, ◌∙◌, ℕ, ℤ, List, [], ◌∷◌, Bool, true, false, Some, cond}
use Rattle.std.specs.Ordering.{nat_cmp, is_eq, match_ordering}
use Rattle.std.specs.declared.cmp.Ordering.{Ordering}
use Rattle.std.specs.declared.cmp.Ordering.TheVariants.{Less, Equal, Greater}
use Rattle.std.specs.Cmp.Lexicographic.{slice_cmp}
use Rattle.std.proofs.lemmas.Map.Text.{is_eq-slice_cmp}
use Rattle.grid_ids.specs.Name.{same_id}
use Rattle.grid_ids.proofs.Alike.{same_is, same_itself}
use Rattle.grid_powers.specs.Listed.{Listed, value_in, with_value, without_value}

-- ---- without a value

without_others : (id other : List ℕ) (t : Bool) (e : List ℕ × ℤ) (es : Listed) → same_id id e.0 ≡ t → same_id other id ≡ false
    → value_in (without_value id es) other ≡ value_in es other
    → value_in (cond t es (e ∷ without_value id es)) other ≡ cond (same_id other e.0) (Some e.1) (value_in es other)
without_others id other true e es here apart rest =
    let differs : same_id other e.0 ≡ false = ap (same_id other) (sym (same_is id e.0 here)) ∙ apart in
    rw differs refl
without_others id other false e es here apart rest = ap (cond (same_id other e.0) (Some e.1)) rest

-- the other ids keep their values
pub value_without : (id other : List ℕ) (pairs : Listed) → same_id other id ≡ false → value_in (without_value id pairs) other ≡ value_in pairs other
value_without id other [] apart = refl
value_without id other (e ∷ es) apart = without_others id other (same_id id e.0) e es refl apart (value_without id other es apart)

-- ---- with a value

with_others : (id other : List ℕ) (watts : ℤ) (o : Ordering) (e : List ℕ × ℤ) (es : Listed) → slice_cmp nat_cmp id e.0 ≡ o → same_id other id ≡ false
    → value_in (with_value id watts es) other ≡ value_in es other
    → value_in (match_ordering o ((id, watts) ∷ e ∷ es) ((e.0, watts) ∷ es) (e ∷ with_value id watts es)) other ≡ value_in (e ∷ es) other
with_others id other watts Less e es here apart rest = rw apart refl
with_others id other watts Equal e es here apart rest =
    let same : same_id id e.0 ≡ true = sym (is_eq-slice_cmp id e.0) ∙ ap is_eq here in
    let differs : same_id other e.0 ≡ false = ap (same_id other) (sym (same_is id e.0 same)) ∙ apart in
    rw differs refl
with_others id other watts Greater e es here apart rest = ap (cond (same_id other e.0) (Some e.1)) rest

-- the other ids keep their values
pub value_with-other : (id other : List ℕ) (watts : ℤ) (pairs : Listed) → same_id other id ≡ false → value_in (with_value id watts pairs) other ≡ value_in pairs other
value_with-other id other watts [] apart = rw apart refl
value_with-other id other watts (e ∷ es) apart = with_others id other watts (slice_cmp nat_cmp id e.0) e es refl apart (value_with-other id other watts es apart)

with_own : (id : List ℕ) (watts : ℤ) (o : Ordering) (e : List ℕ × ℤ) (es : Listed) → slice_cmp nat_cmp id e.0 ≡ o
    → value_in (with_value id watts es) id ≡ Some watts
    → value_in (match_ordering o ((id, watts) ∷ e ∷ es) ((e.0, watts) ∷ es) (e ∷ with_value id watts es)) id ≡ Some watts
with_own id watts Less e es here rest = rw (same_itself id) refl
with_own id watts Equal e es here rest =
    let same : same_id id e.0 ≡ true = sym (is_eq-slice_cmp id e.0) ∙ ap is_eq here in
    rw same refl
with_own id watts Greater e es here rest =
    let differs : same_id id e.0 ≡ false = sym (is_eq-slice_cmp id e.0) ∙ ap is_eq here in
    rw differs rest

-- the id has the new value
pub value_with-own : (id : List ℕ) (watts : ℤ) (pairs : Listed) → value_in (with_value id watts pairs) id ≡ Some watts
value_with-own id watts [] = rw (same_itself id) refl
value_with-own id watts (e ∷ es) = with_own id watts (slice_cmp nat_cmp id e.0) e es refl (value_with-own id watts es)
