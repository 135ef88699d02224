-- What an edit of the table at a place makes of it.
use Rattle.std.proofs.Common.{◌≡◌, refl, sym, ap, ◌∙◌, subst, ℕ, zero, suc, ◌<◌, Bool, true, false, not, ◌||◌, List, [], ◌∷◌, ◌++◌, length, take, drop, set, Some, None, arith, unwrap_or}
use Rattle.std.specs.Prelude.{find, insert, remove, ◌==◌, Result, Ok, Err, OnOk}
use Rattle.std.specs.List.{list_any, list_all}
use Rattle.std.specs.Option.{option_map}
use Rattle.std.proofs.lemmas.List.{take-append-drop, set-get_or}
use Rattle.std.proofs.lemmas.Bool.{and_parts, and_from, eq-eqb, not_from_false, not-true}
use Rattle.std.proofs.lemmas.List.Folds.{list_any-append}
use Rattle.grid_lemmas.proofs.Bools.{not_either}
use Rattle.grid_ids.specs.Name.{same_id, id_below}
use Rattle.grid_ids.proofs.Alike.{same_itself}
use Rattle.grid_states.specs.Rows.{Rows, no_rows}
use Rattle.grid_slots.specs.Variant.{Variant}
use Rattle.grid_slots.specs.Names.{initial_state, names_rise, with_name, without_name}
use Rattle.grid_slots.specs.Variants.{names, slots, is_live, variant_of, slot_of, rows_of, has_slot, rows_at, with_rows, changed, with_variant, without_variant, numbers_differ, IsTable}
use Rattle.grid_slots.specs.Places.{variant, variant_at, IsAt, IsSlotAt, IsGapFor}
use Rattle.grid_slots.proofs.Order.{not_back, above_differs}
use Rattle.grid_slots.proofs.ListParts.{parts}
use Rattle.grid_slots.proofs.RisingNames.{Before, Behind, NoneIs, Apart, rise_less, with_name-gap, with_variant-gap, before_differ, behind_differ, without_one, names-without, found_none, found_one, live_none, live_one}
use Rattle.grid_slots.proofs.RowChanges.{NonePass, set-changed, names-changed}
use Rattle.grid_slots.proofs.Tables.{no_other_slot, more_table, less_table}

below_itself : (a : List ℕ) → id_below a a ≡ false
below_itself a = pick (id_below a a) refl
  where
    pick : (t : Bool) → id_below a a ≡ t → t ≡ false
    pick true e = sym e ∙ not_back a a e
    pick false e = refl

-- a name that is there stays once
with_name-there : (front back : List Variant) (v : Variant) → Before front v.name → with_name v.name (names (front ++ v ∷ back)) ≡ names (front ++ v ∷ back)
unfolding names with_name
with_name-there [] back v before = rw (below_itself v.name, same_itself v.name) refl
with_name-there (f ∷ front) back v before =
    let first = and_parts (id_below f.name v.name) (list_all (λ u. id_below u.name v.name) front) before in
    rw (not_back f.name v.name first.0, above_differs f.name v.name first.0) (ap (λ rest. f.name ∷ rest) (with_name-there front back v first.1))

-- ---- at a name

module _ (vs : List Variant) (rise : names_rise (names vs) ≡ true) (n : List ℕ) (i : ℕ) (at : IsAt vs n i) where
  split : vs ≡ take i vs ++ variant_at vs i ∷ drop (suc i) vs
  split = parts vs i (variant [] 0 no_rows) at.below

  apart : Apart (take i vs) (drop (suc i) vs) (variant_at vs i)
  apart = rise_less (take i vs) (drop (suc i) vs) (variant_at vs i) (sym (ap (λ z. names_rise (names z)) split) ∙ rise)

  before : NoneIs n (take i vs)
  before = before_differ (take i vs) n (subst (Before (take i vs)) at.named apart.before)

  behind : NoneIs n (drop (suc i) vs)
  behind = behind_differ (drop (suc i) vs) n (subst (λ m. Behind m (drop (suc i) vs)) at.named apart.behind)

  pub found_at : variant_of vs n ≡ Some (variant_at vs i)
  found_at = ap (λ z. variant_of z n) split ∙ found_one n (take i vs) (drop (suc i) vs) (variant_at vs i) at.named before

  pub slot_at : slot_of vs n ≡ Some (variant_at vs i).slot
  unfolding slot_of
  slot_at = ap (option_map (λ v. v.slot)) found_at

  pub rows_at_name : rows_of vs n ≡ (variant_at vs i).rows
  unfolding rows_of
  rows_at_name = ap (λ o. unwrap_or (option_map (λ v. v.rows) o) no_rows) found_at

  pub live_at : is_live vs n ≡ true
  live_at = ap (λ z. is_live z n) split ∙ live_one n (take i vs) (drop (suc i) vs) (variant_at vs i) at.named

  pub remove_at : remove vs i ≡ without_variant n vs
  remove_at = sym (ap (without_variant n) split ∙ without_one n (take i vs) (drop (suc i) vs) (variant_at vs i) at.named before behind)

  pub removed_names : names (remove vs i) ≡ without_name n (names vs)
  removed_names = ap names remove_at ∙ names-without n vs

  pub set_at : (rows : Rows) → set vs i (with_rows (variant_at vs i) rows) ≡ changed (λ v. same_id n v.name) (λ _. rows) vs
  set_at rows =
      let same : same_id n (variant_at vs i).name ≡ true = rw at.named (same_itself n) in
      set-changed (λ v. same_id n v.name) (λ _. rows) vs i (variant [] 0 no_rows) at.below same before behind

  pub named_already : with_name n (names vs) ≡ names vs
  named_already =
      ap (λ z. with_name n (names z)) split
      ∙ subst (λ m. with_name m (names (take i vs ++ variant_at vs i ∷ drop (suc i) vs)) ≡ names (take i vs ++ variant_at vs i ∷ drop (suc i) vs)) at.named
      (with_name-there (take i vs) (drop (suc i) vs) (variant_at vs i) apart.before)
      ∙ sym (ap names split)

  pub set_names : (rows : Rows) → names (set vs i (with_rows (variant_at vs i) rows)) ≡ with_name n (names vs)
  set_names rows = ap names (set_at rows) ∙ names-changed (λ v. same_id n v.name) (λ _. rows) vs ∙ sym named_already

-- ---- in a gap

-- a variant that is given its own rows
pub onto_itself : (vs : List Variant) → names_rise (names vs) ≡ true → (from to : List ℕ) (i j : ℕ) → IsAt vs from i → IsAt vs to j → from ≡ to
    → set vs j (with_rows (variant_at vs j) (variant_at vs i).rows) ≡ vs
unfolding with_rows
onto_itself vs rise from to i j at_i at_j same =
    let rows : (variant_at vs i).rows ≡ (variant_at vs j).rows = sym (rows_at_name vs rise from i at_i) ∙ ap (rows_of vs) same ∙ rows_at_name vs rise to j at_j in
    ap (λ r. set vs j (with_rows (variant_at vs j) r)) rows ∙ set-get_or vs j (variant [] 0 no_rows)

module _ (vs : List Variant) (n : List ℕ) (i : ℕ) (gap : IsGapFor vs n i) where
  none_before : NoneIs n (take i vs)
  none_before = before_differ (take i vs) n gap.before

  none : NoneIs n vs
  none = subst (NoneIs n) (take-append-drop i vs) (both (take i vs) (drop i vs) none_before (behind_differ (drop i vs) n gap.behind))
    where
      both : (front back : List Variant) → NoneIs n front → NoneIs n back → NoneIs n (front ++ back)
      both [] back e f = f
      both (v ∷ front) back e f =
          let parted = and_parts (not (same_id n v.name)) (list_all (λ u. not (same_id n u.name)) front) e in and_from _ _ parted.0 (both front back parted.1 f)

  pub found_gap : variant_of vs n ≡ None
  found_gap = found_none n vs none

  pub slot_gap : slot_of vs n ≡ None
  unfolding slot_of
  slot_gap = ap (option_map (λ v. v.slot)) found_gap

  pub live_gap : is_live vs n ≡ false
  live_gap = live_none n vs none

  module _ (v : Variant) (named : v.name ≡ n) where
    before_v : Before (take i vs) v.name
    before_v = subst (Before (take i vs)) (sym named) gap.before

    behind_v : Behind v.name (drop i vs)
    behind_v = subst (λ m. Behind m (drop i vs)) (sym named) gap.behind

    pub insert_gap : insert vs i v ≡ with_variant v vs
    insert_gap = sym (with_variant-gap (take i vs) (drop i vs) v before_v behind_v) ∙ ap (with_variant v) (take-append-drop i vs)

    pub inserted_names : names (insert vs i v) ≡ with_name n (names vs)
    inserted_names =
        sym (with_name-gap (take i vs) (drop i vs) v before_v behind_v) ∙ ap (λ z. with_name v.name (names z)) (take-append-drop i vs) ∙ ap (λ m. with_name m (names vs)) named

    pub inserted_table : has_slot vs v.slot ≡ false → v.slot < 64 → length vs < 64 → IsTable vs → IsTable (insert vs i v)
    inserted_table free low room is =
        let same = take-append-drop i vs in
        more_table (take i vs) (drop i vs) v before_v behind_v (ap (λ z. has_slot z v.slot) same ∙ free) low
        (subst (λ z. length z < 64) (sym same) room) (subst IsTable (sym same) is)

-- ---- at a slot

-- no variant has the slot
pub none_slot : (vs : List Variant) (s : ℕ) → has_slot vs s ≡ false → NonePass (λ v. v.slot == s) vs
unfolding has_slot
none_slot [] s e = refl
none_slot (v ∷ vs) s e = let both = not_either (v.slot == s) (list_any (λ u. u.slot == s) vs) e in and_from _ _ (not_from_false _ both.0) (none_slot vs s both.1)

has_slot_parts : (front back : List Variant) (s : ℕ) → has_slot (front ++ back) s ≡ false → (has_slot front s ≡ false) × (has_slot back s ≡ false)
unfolding has_slot
has_slot_parts front back s e = not_either _ _ (sym (list_any-append (λ u. u.slot == s) front back) ∙ e)

first_slot : (front back : List Variant) (v : Variant) (s : ℕ) → (v.slot == s) ≡ true → NonePass (λ u. u.slot == s) front → find (λ u. u.slot == s) (front ++ v ∷ back) ≡ Some v
first_slot [] back v s e none_pass = rw e refl
first_slot (f ∷ front) back v s e none_pass =
    let both = and_parts (not (f.slot == s)) (list_all (λ u. not (u.slot == s)) front) none_pass in rw (not-true _ both.0) (first_slot front back v s e both.1)

module _ (vs : List Variant) (table : IsTable vs) (s i : ℕ) (at : IsSlotAt vs s i) where
  split_slot : vs ≡ take i vs ++ variant_at vs i ∷ drop (suc i) vs
  split_slot = parts vs i (variant [] 0 no_rows) at.below

  no_others : (has_slot (take i vs) s ≡ false) × (has_slot (drop (suc i) vs) s ≡ false)
  no_others = has_slot_parts (take i vs) (drop (suc i) vs) s
      (subst (λ m. has_slot (take i vs ++ drop (suc i) vs) m ≡ false) at.numbered
      (no_other_slot (take i vs) (drop (suc i) vs) (variant_at vs i) (sym (ap (λ z. numbers_differ (slots z)) split_slot) ∙ table.differ)))

  here : ((variant_at vs i).slot == s) ≡ true
  here = eq-eqb (variant_at vs i).slot s at.numbered

  pub rows_at_slot : rows_at vs s ≡ (variant_at vs i).rows
  unfolding rows_at
  rows_at_slot = ap (λ o. unwrap_or (option_map (λ v. v.rows) o) no_rows)
      (ap (find (λ u. u.slot == s)) split_slot ∙ first_slot (take i vs) (drop (suc i) vs) (variant_at vs i) s here (none_slot (take i vs) s no_others.0))

  pub set_slot : (change : Rows → Rows)
      → set vs i (with_rows (variant_at vs i) (change (variant_at vs i).rows)) ≡ changed (λ v. v.slot == s) change vs
  set_slot change = set-changed (λ v. v.slot == s) change vs i (variant [] 0 no_rows) at.below here (none_slot (take i vs) s no_others.0) (none_slot (drop (suc i) vs) s no_others.1)

pub on_ok : {X E P Q : Type 0} (r : Result X E) → (P → Q) → OnOk r P → OnOk r Q
on_ok (Ok x) go p = go p
on_ok (Err e) go p = p

-- ---- a slot that is looked for

-- it is still ahead
pub slot_ahead : (vs : List Variant) (i s : ℕ) → has_slot (drop i vs) s ≡ true → i < length vs
unfolding has_slot
slot_ahead [] zero s e = absurd (cc)
slot_ahead [] (suc i) s e = absurd (cc)
slot_ahead (v ∷ vs) zero s e = omega arith
slot_ahead (v ∷ vs) (suc i) s e = let lt = slot_ahead vs i s e in omega (arith, lt)

-- and further on, where it is not here
pub slot_next : (vs : List Variant) (i s : ℕ) → has_slot (drop i vs) s ≡ true → ((variant_at vs i).slot == s) ≡ false → has_slot (drop (suc i) vs) s ≡ true
unfolding has_slot
slot_next [] zero s e ne = absurd (cc)
slot_next [] (suc i) s e ne = absurd (cc)
slot_next (v ∷ vs) zero s e ne = sym (ap (λ t. t || list_any (λ u. u.slot == s) vs) ne) ∙ e
slot_next (v ∷ vs) (suc i) s e ne = slot_next vs i s e ne

-- ---- taken out

pub removed_table : (vs : List Variant) (i : ℕ) → i < length vs → same_id initial_state (variant_at vs i).name ≡ false → IsTable vs → IsTable (remove vs i)
removed_table vs i below other is =
    less_table (take i vs) (drop (suc i) vs) (variant_at vs i) other (subst IsTable (parts vs i (variant [] 0 no_rows) below) is)
