-- What is kept by slot.
use Rattle.std.proofs.Common.{◌≡◌, refl, sym, ap, ◌∙◌, subst, arith, ℕ, zero, suc, ◌+◌, ◌⊎◌, inl, inr, ◌<◌, ◌≤◌, Bool, Some, List, [], ◌∷◌, ◌++◌, length, get_or}
use Rattle.std.specs.Prelude.{slice_get, slice_set}
use Rattle.std.proofs.lemmas.Bool.Decides.{eqb_tells, leb_tells}
use Rattle.std.proofs.lemmas.Option.{same_Some, slice_get_within}
use Rattle.grid_lemmas.proofs.Lists.{get_there, get_set, get_other}
use Rattle.grid_structure.specs.Network.{Network}
use Rattle.grid_states.specs.Rows.{Rows}
use Rattle.grid_slots.specs.Variant.{Variant}
use Rattle.grid_slots.specs.Variants.{rows_at}
use Rattle.grid_core.specs.declared.kept.SlotKept.{SlotKept}
use Rattle.grid_core.specs.declared.kept.Kept.{Kept}
use Rattle.grid_core.specs.declared.kept_levels.KeptLevels.{KeptLevels}
use Rattle.grid_core.specs.Kept.{AreSlotBuses, AreBySlot, IsKept}
use Rattle.grid_core.proofs.LevelCopies.{no_copies}

-- ---- items by place

got_of : {X : Type 0} (xs : List X) (x : X) (k : ℕ) (y : X) → slice_get (xs ++ x ∷ []) k ≡ Some y → (slice_get xs k ≡ Some y) ⊎ (y ≡ x)
got_of [] x zero y h = let same : x ≡ y = cc in inr (sym same)
got_of [] x (suc k) y h = absurd (cc)
got_of (z ∷ xs) x zero y h = inl h
got_of (z ∷ xs) x (suc k) y h = got_of xs x k y h

got_set : {X : Type 0} (xs : List X) (k j : ℕ) (y z : X) → slice_get (slice_set xs k y) j ≡ Some z → (slice_get xs j ≡ Some z) ⊎ ((j ≡ k) × (z ≡ y))
got_set [] k j y z h = inl h
got_set (x ∷ xs) zero zero y z h = let same : y ≡ z = cc in inr (refl, sym same)
got_set (x ∷ xs) zero (suc j) y z h = inl h
got_set (x ∷ xs) (suc k) zero y z h = inl h
got_set (x ∷ xs) (suc k) (suc j) y z h = by (got_set xs k j y z h)
  where
    by : (slice_get xs j ≡ Some z) ⊎ ((j ≡ k) × (z ≡ y)) → (slice_get xs j ≡ Some z) ⊎ ((suc j ≡ suc k) × (z ≡ y))
    by (inl there) = inl there
    by (inr same) = inr (ap suc same.0, same.1)

-- ---- all slots

pub none_so : (net : Network) (variants : List Variant) (all : List SlotKept) → all ≡ [] → AreBySlot net variants all
none_so net variants all is slot own at = let some : slice_get [] slot ≡ Some own = ap (λ (z : List SlotKept). slice_get z slot) (sym is) ∙ at in absurd (cc)

-- nothing is kept
pub nothing_so : (net : Network) (variants : List Variant) (all : Kept) → all.slots.items ≡ [] → all.copies ≡ [] → IsKept net variants all
nothing_so net variants all slots copies = record { slots = none_so net variants all.slots.items slots; copies = no_copies net all.copies copies }

pub one_more_so : (net : Network) (variants : List Variant) (all new : List SlotKept) (more : SlotKept) → new ≡ all ++ more ∷ [] → ((net : Network) (opened : List (List Bool)) → AreSlotBuses net opened more) → AreBySlot net variants all → AreBySlot net variants new
one_more_so net variants all new more is fits k slot own at = by (got_of all more slot own (ap (λ (z : List SlotKept). slice_get z slot) (sym is) ∙ at))
  where
    by : (slice_get all slot ≡ Some own) ⊎ (own ≡ more) → AreSlotBuses net (rows_at variants slot).opened own
    by (inl there) = k slot own there
    by (inr same) = subst (λ (z : SlotKept). AreSlotBuses net (rows_at variants slot).opened z) (sym same) (fits net (rows_at variants slot).opened)

-- a slot's bench is of no account
pub bench_left : (net : Network) (variants : List Variant) (all : List SlotKept) (slot : ℕ) (own : SlotKept) (levels : KeptLevels) → slot < length all → own ≡ get_or all slot own → AreBySlot net variants all
    → AreBySlot net variants (slice_set all slot (record own { levels = levels }))
bench_left net variants all slot own levels lt is k j some at = by (got_set all slot j (record own { levels = levels }) some at)
  where
    by : (slice_get all j ≡ Some some) ⊎ ((j ≡ slot) × (some ≡ record own { levels = levels })) → AreSlotBuses net (rows_at variants j).opened some
    by (inl there) = k j some there
    by (inr same) =
        let was = k j own (ap (slice_get all) same.0 ∙ get_there all slot own lt is) in
        subst (λ (z : SlotKept). AreSlotBuses net (rows_at variants j).opened z) (sym same.1) (record { made = was.made; known = was.known })

-- ---- slots that follow one after the other

-- those before one are of the network that comes next, and the others are as they were
abbrev pub FollowedTo : Network → List Variant → List SlotKept → ℕ → List SlotKept → Type 0
FollowedTo next after all count now = (slot : ℕ) (own : SlotKept) → slice_get now slot ≡ Some own → (slot < count → AreSlotBuses next (rows_at after slot).opened own) × (count ≤ slot → slice_get all slot ≡ Some own)

pub none_followed : (next : Network) (after : List Variant) (all : List SlotKept) → FollowedTo next after all 0 all
none_followed next after all slot own at = (λ lt. absurd (omega (arith, lt)), λ le. at)

pub one_follows : (next : Network) (after : List Variant) (all now new : List SlotKept) (count : ℕ) (own : SlotKept) → count < length now → new ≡ slice_set now count own → AreSlotBuses next (rows_at after count).opened own
    → FollowedTo next after all count now → FollowedTo next after all (count + 1) new
one_follows next after all now new count own lt set fits before slot some at =
    elim (eqb_tells slot count) [
      | inl e ↦ (let same : own ≡ some = same_Some own some (sym (get_set now count own lt) ∙ sym (ap (λ (z : List SlotKept). slice_get z count) set) ∙ ap (slice_get new) (sym e.1) ∙ at) in (
        λ below. subst (λ (z : SlotKept). AreSlotBuses next (rows_at after slot).opened z) same (subst (λ (n : ℕ). AreSlotBuses next (rows_at after n).opened own) (sym e.1) fits),
        λ past. absurd (omega (arith, past, e.1)),
      ))
      | inr n ↦ (let was = before slot some (sym (get_other now count slot own (λ e. n.1 (sym e))) ∙ sym (ap (λ (z : List SlotKept). slice_get z slot) set) ∙ at) in
          (λ below. was.0 (omega (arith, below, n.1)), λ past. was.1 (omega (arith, past))))
    ]

-- the next one is as it was
pub one_left : (net next : Network) (olds after : List Variant) (all now : List SlotKept) (count : ℕ) (own : SlotKept) → count < length now → own ≡ get_or now count own → AreBySlot net olds all → FollowedTo next after all count now
    → AreSlotBuses net (rows_at olds count).opened own
one_left net next olds after all now count own lt at k before = k count own ((before count own (get_there now count own lt at)).1 (omega arith))

pub all_followed : (next : Network) (after : List Variant) (all now : List SlotKept) (count : ℕ) → length all ≤ count → FollowedTo next after all count now → AreBySlot next after now
all_followed next after all now count past before slot own at =
    elim (leb_tells count slot) [
      | inl le ↦ absurd (omega (arith, past, le.1, slice_get_within all slot own ((before slot own at).1 le.1)))
      | inr lt ↦ (before slot own at).0 lt.1
    ]

-- ---- what is lent of one slot

module _ (net : Network) (variants : List Variant) (slot : ℕ) (rows : Rows) (is : rows ≡ rows_at variants slot) where
  pub lent_so : (all : List SlotKept) (own : SlotKept) → AreBySlot net variants all → slot < length all → own ≡ get_or all slot own → AreSlotBuses net rows.opened own
  lent_so all own k lt at = subst (λ (r : Rows). AreSlotBuses net r.opened own) (sym is) (k slot own (get_there all slot own lt at))

  pub given_back_so : (all new : List SlotKept) (own : SlotKept) → new ≡ slice_set all slot own → AreSlotBuses net rows.opened own → AreBySlot net variants all → AreBySlot net variants new
  given_back_so all new own set fits k j some at = by (got_set all slot j own some (ap (λ (z : List SlotKept). slice_get z j) (sym set) ∙ at))
    where
      by : (slice_get all j ≡ Some some) ⊎ ((j ≡ slot) × (some ≡ own)) → AreSlotBuses net (rows_at variants j).opened some
      by (inl there) = k j some there
      by (inr same) =
          subst (λ (z : SlotKept). AreSlotBuses net (rows_at variants j).opened z) (sym same.1)
          (subst (λ (n : ℕ). AreSlotBuses net (rows_at variants n).opened own) (sym same.0)
          (subst (λ (r : Rows). AreSlotBuses net r.opened own) is fits))
