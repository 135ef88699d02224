-- Copies of levels by their places.
use Rattle.std.proofs.Common.{◌≡◌, refl, sym, ap, ◌∙◌, ℕ, arith, Bool, true, false, cond, List, [], Option, Some, None}
use Rattle.std.specs.Prelude.{◌==◌, slice_get}
use Rattle.std.specs.Ordering.{nat_cmp, is_eq}
use Rattle.std.specs.Map.{lookup}
use Rattle.std.proofs.lemmas.Bool.{eqb-true, eq-eqb, false≢true}
use Rattle.grid_level.specs.VoltageLevel.{VoltageLevel}
use Rattle.grid_structure.specs.Network.{Network}
use Rattle.grid_structure.specs.Sites.{levels}
use Rattle.grid_islands.specs.Kept.{LeavesOthers}
use Rattle.grid_core.specs.Copied.{Copied, copy_at, Puts, AreCopies}

equal_test : (a b : ℕ) → is_eq (nat_cmp a b) ≡ (a == b)
equal_test a b = grind arith

-- the test by which a place is found
same_place : (place : ℕ) → ◌≡◌ {A = ℕ → Bool} (λ other. is_eq (nat_cmp place other)) (λ other. place == other)
same_place place = λ i other. equal_test place other i

pub found_at : (place : ℕ) (copies : Copied) → lookup (λ other. is_eq (nat_cmp place other)) copies ≡ copy_at copies place
found_at place copies = ap (λ test. lookup test copies) (same_place place)

-- what a map's call tells of its entries
pub put_at : (place : ℕ) (copy : Option VoltageLevel) (old new : Copied)
    → ((other : ℕ) → lookup (λ z. is_eq (nat_cmp other z)) new ≡ cond (is_eq (nat_cmp place other)) copy (lookup (λ z. is_eq (nat_cmp other z)) old)) → Puts place copy old new
put_at place copy old new h other = sym (found_at other new) ∙ h other ∙ rw (equal_test place other, found_at other old) refl

-- ---- copies of a structure's levels

pub no_copies : (net : Network) (copies : Copied) → copies ≡ [] → AreCopies net copies
no_copies net copies none place level at = let some : None ≡ Some level = ap (λ (z : Copied). copy_at z place) (sym none) ∙ at in absurd (cc)

-- what is of a network is of one with the same levels
pub copies_same : (net next : Network) (copies : Copied) → levels next ≡ levels net → AreCopies net copies → AreCopies next copies
copies_same net next copies same are place level at = ap (λ (ls : List VoltageLevel). slice_get ls place) same ∙ are place level at

-- one more level of the structure
pub copies_with : (net : Network) (place : ℕ) (level : VoltageLevel) (old new : Copied) → slice_get (levels net) place ≡ Some level → Puts place (Some level) old new → AreCopies net old → AreCopies net new
copies_with net place level old new there puts are other own at = by (place == other) refl (sym (puts other) ∙ at)
  where
    by : (t : Bool) → (place == other) ≡ t → cond t (Some level) (copy_at old other) ≡ Some own → slice_get (levels net) other ≡ Some own
    by true e is = ap (slice_get (levels net)) (sym (eqb-true place other e)) ∙ there ∙ is
    by false e is = are other own is

-- without the copy of a level that changes
pub copies_less : (net next : Network) (place : ℕ) (old new : Copied) → LeavesOthers net next place → Puts place None old new → AreCopies net old → AreCopies next new
copies_less net next place old new others puts are other own at = by (place == other) refl (sym (puts other) ∙ at)
  where
    by : (t : Bool) → (place == other) ≡ t → cond t None (copy_at old other) ≡ Some own → slice_get (levels next) other ≡ Some own
    by true e is = absurd (cc)
    by false e is = others other (λ same. false≢true (sym e ∙ eq-eqb place other (sym same))) ∙ are other own is
