-- Names and slots, and rows beside them, seen as variants.
use Rattle.std.proofs.Common.{◌≡◌, refl, sym, ap, ◌∙◌, subst, ℕ, zero, suc, ◌<◌, ◌≤◌, List, [], ◌∷◌, length, map, get_or, set, arith, length-set, Some}
use Rattle.std.specs.Prelude.{insert, remove, All, is_some, ◌||◌, ◌==◌, Result, Ok, Err, OnOk, OnErr}
use Rattle.std.specs.List.{list_any, slice_get}
use Rattle.std.specs.Option.{option_map}
use Rattle.std.proofs.lemmas.Option.{slice_get-map, slice_get-get_or}
use Rattle.std.proofs.lemmas.List.{length-map}
use Rattle.std.proofs.lemmas.List.Edits.{length-insert, length-remove}
use Rattle.std.proofs.lemmas.List.Elements.{All-get_or, All-from_get_or}
use Rattle.grid_states.specs.Pairs.{value_at}
use Rattle.grid_states.specs.Rows.{Rows, no_rows, pairs_at}
use Rattle.grid_slots.specs.declared.slots.Named.{Named}
use Rattle.grid_slots.specs.Variant.{Variant}
use Rattle.grid_slots.specs.Names.{initial_state}
use Rattle.grid_slots.specs.Variants.{names, slots, has_slot, rows_at, with_rows, changed, all_changed, with_each_rows, any_lists, IsTable}
use Rattle.grid_slots.specs.Kept.{rows_in_place, any_rows_list}
use Rattle.grid_slots.specs.Places.{variant, variant_at, IsSlotAt}
use Rattle.grid_slots.specs.Shown.{shown}
use Rattle.grid_slots.proofs.Tables.{same_table, first_table}
use Rattle.grid_slots.proofs.TableEdits.{rows_at_slot, set_slot}

-- as many rows as names
abbrev pub Beside : List Rows → List Named → Type 0
Beside all named = length all ≡ length named

pub shown_long : (named : List Named) (all : List Rows) → Beside all named → length (shown named all) ≡ length named
unfolding shown
shown_long [] [] e = refl
shown_long [] (rows ∷ all) e = absurd (omega (arith, e))
shown_long (n ∷ named) [] e = absurd (omega (arith, e))
shown_long (n ∷ named) (rows ∷ all) e = ap suc (shown_long named all (omega (arith, e)))

pub shown_names : (named : List Named) (all : List Rows) → Beside all named
    → names (shown named all) ≡ map (λ n. n.name) named
unfolding shown names
shown_names [] [] e = refl
shown_names [] (rows ∷ all) e = absurd (omega (arith, e))
shown_names (n ∷ named) [] e = absurd (omega (arith, e))
shown_names (n ∷ named) (rows ∷ all) e = ap (λ rest. n.name ∷ rest) (shown_names named all (omega (arith, e)))

pub shown_slots : (named : List Named) (all : List Rows) → Beside all named
    → slots (shown named all) ≡ map (λ n. n.slot) named
unfolding shown slots
shown_slots [] [] e = refl
shown_slots [] (rows ∷ all) e = absurd (omega (arith, e))
shown_slots (n ∷ named) [] e = absurd (omega (arith, e))
shown_slots (n ∷ named) (rows ∷ all) e = ap (λ rest. n.slot ∷ rest) (shown_slots named all (omega (arith, e)))

-- ---- one of them

abbrev pub nobody : Named
nobody = record { name = []; slot = 0 }

module _ (d : Named) where
  shown_at_d : (named : List Named) (all : List Rows) (i : ℕ) → Beside all named → i < length named
      → variant_at (shown named all) i ≡ variant (get_or named i d).name (get_or named i d).slot (rows_in_place all i)
  unfolding shown
  shown_at_d [] all i e lt = absurd (omega (arith, lt))
  shown_at_d (n ∷ named) [] i e lt = absurd (omega (arith, e))
  shown_at_d (n ∷ named) (rows ∷ all) zero e lt = refl
  shown_at_d (n ∷ named) (rows ∷ all) (suc i) e lt = shown_at_d named all i (omega (arith, e)) (omega (arith, lt))

pub shown_at : (named : List Named) (all : List Rows) (i : ℕ) (n : Named) → Beside all named → i < length named
    → n ≡ get_or named i n
    → variant_at (shown named all) i ≡ variant n.name n.slot (rows_in_place all i)
shown_at named all i n e lt read = shown_at_d n named all i e lt
    ∙ ap (λ (m : Named). variant m.name m.slot (rows_in_place all i)) (sym read)

pub shown_name : (named : List Named) (all : List Rows) (i : ℕ) → Beside all named → i < length named
    → (variant_at (shown named all) i).name ≡ (get_or named i nobody).name
shown_name named all i e lt = ap (λ (v : Variant). v.name) (shown_at_d nobody named all i e lt)

pub name_got : (named : List Named) (all : List Rows) (self : List Variant) (i : ℕ) (n : Named)
    → shown named all ≡ self → Beside all named → i < length self → n ≡ get_or named i n
    → slice_get (names self) i ≡ Some n.name
name_got named all self i n same e lt read =
    let long = shown_long named all e in
    let size = ap length same in
    ap (λ z. slice_get (names z) i) (sym same) ∙ ap (λ z. slice_get z i) (shown_names named all e)
    ∙ slice_get-map (λ m. m.name) named i
    ∙ ap (option_map (λ m. m.name))
    (slice_get-get_or named i n (omega (arith, lt, long, size)) ∙ ap (λ m. Some m) (sym read))

pub shown_set : (named : List Named) (all : List Rows) (i : ℕ) (rows : Rows) → Beside all named
    → shown named (set all i rows) ≡ set (shown named all) i (with_rows (variant_at (shown named all) i) rows)
unfolding shown with_rows
shown_set [] [] i rows e = refl
shown_set [] (r ∷ all) i rows e = absurd (omega (arith, e))
shown_set (n ∷ named) [] i rows e = absurd (omega (arith, e))
shown_set (n ∷ named) (r ∷ all) zero rows e = refl
shown_set (n ∷ named) (r ∷ all) (suc i) rows e = ap (λ rest. variant n.name n.slot r ∷ rest)
    (shown_set named all i rows (omega (arith, e)))

pub shown_insert : (named : List Named) (all : List Rows) (i : ℕ) (n : Named) (rows : Rows) → Beside all named
    → i ≤ length named
    → shown (insert named i n) (insert all i rows) ≡ insert (shown named all) i (variant n.name n.slot rows)
unfolding shown
shown_insert [] [] zero n rows e le = refl
shown_insert [] [] (suc i) n rows e le = absurd (omega (arith, le))
shown_insert [] (r ∷ all) i n rows e le = absurd (omega (arith, e))
shown_insert (m ∷ named) [] i n rows e le = absurd (omega (arith, e))
shown_insert (m ∷ named) (r ∷ all) zero n rows e le = refl
shown_insert (m ∷ named) (r ∷ all) (suc i) n rows e le = ap (λ rest. variant m.name m.slot r ∷ rest)
    (shown_insert named all i n rows (omega (arith, e)) (omega (arith, le)))

pub shown_remove : (named : List Named) (all : List Rows) (i : ℕ) → Beside all named
    → shown (remove named i) (remove all i) ≡ remove (shown named all) i
unfolding shown
shown_remove [] [] zero e = refl
shown_remove [] [] (suc i) e = refl
shown_remove [] (r ∷ all) i e = absurd (omega (arith, e))
shown_remove (m ∷ named) [] i e = absurd (omega (arith, e))
shown_remove (m ∷ named) (r ∷ all) zero e = refl
shown_remove (m ∷ named) (r ∷ all) (suc i) e = ap (λ rest. variant m.name m.slot r ∷ rest)
    (shown_remove named all i (omega (arith, e)))

-- ---- all of them

pub shown_changed : (change : Rows → Rows) (named : List Named) (all : List Rows)
    → shown named (map change all) ≡ all_changed change (shown named all)
unfolding shown all_changed with_rows
shown_changed change [] all = refl
shown_changed change (n ∷ named) [] = refl
shown_changed change (n ∷ named) (rows ∷ all) = ap (λ rest. variant n.name n.slot (change rows) ∷ rest)
    (shown_changed change named all)

pub shown_each : (named : List Named) (all more : List Rows) → Beside all named → Beside more named
    → shown named more ≡ with_each_rows (shown named all) more
unfolding shown with_each_rows with_rows
shown_each [] [] [] e f = refl
shown_each [] [] (rows ∷ more) e f = absurd (omega (arith, f))
shown_each [] (r ∷ all) more e f = absurd (omega (arith, e))
shown_each (n ∷ named) [] more e f = absurd (omega (arith, e))
shown_each (n ∷ named) (r ∷ all) [] e f = absurd (omega (arith, f))
shown_each (n ∷ named) (r ∷ all) (rows ∷ more) e f = ap (λ rest. variant n.name n.slot rows ∷ rest)
    (shown_each named all more (omega (arith, e)) (omega (arith, f)))

pub shown_rows : (f : Rows → Rows) (named : List Named) (all : List Rows) → Beside all named
    → map (λ v. f v.rows) (shown named all) ≡ map f all
unfolding shown
shown_rows f [] [] e = refl
shown_rows f [] (rows ∷ all) e = absurd (omega (arith, e))
shown_rows f (n ∷ named) [] e = absurd (omega (arith, e))
shown_rows f (n ∷ named) (rows ∷ all) e = ap (λ rest. f rows ∷ rest) (shown_rows f named all (omega (arith, e)))

pub shown_lists : (named : List Named) (all : List Rows) (level node : ℕ) → Beside all named
    → any_lists (shown named all) level node ≡ any_rows_list all level node
unfolding shown any_lists any_rows_list
shown_lists [] [] level node e = refl
shown_lists [] (rows ∷ all) level node e = absurd (omega (arith, e))
shown_lists (n ∷ named) [] level node e = absurd (omega (arith, e))
shown_lists (n ∷ named) (rows ∷ all) level node e = ap (λ t. is_some (value_at node (pairs_at rows.watts level)) || t)
    (shown_lists named all level node (omega (arith, e)))

pub shown_slot : (named : List Named) (all : List Rows) (slot : ℕ) → Beside all named
    → has_slot (shown named all) slot ≡ list_any (λ n. n.slot == slot) named
unfolding shown has_slot
shown_slot [] [] slot e = refl
shown_slot [] (rows ∷ all) slot e = absurd (omega (arith, e))
shown_slot (n ∷ named) [] slot e = absurd (omega (arith, e))
shown_slot (n ∷ named) (rows ∷ all) slot e = ap (λ t. (n.slot == slot) || t)
    (shown_slot named all slot (omega (arith, e)))

-- ---- under the name that a contract has for the variants

module _ (named : List Named) (all : List Rows) (self : List Variant) (same : shown named all ≡ self)
    (e : Beside all named) where
  pub self_named : length self ≡ length named
  self_named = sym (ap length same) ∙ shown_long named all e

  pub self_beside : length self ≡ length all
  self_beside = self_named ∙ sym e

  pub rows_shown : (i : ℕ) → i < length self → (variant_at self i).rows ≡ rows_in_place all i
  rows_shown i lt = ap (λ z. (variant_at z i).rows) (sym same)
      ∙ ap (λ (v : Variant). v.rows) (shown_at_d nobody named all i e (omega (arith, lt, self_named)))

  -- what is so of each variant's rows is so of all rows
  pub all_shown : (P : Rows → Type 0) → All (λ v. P v.rows) self → All P all
  all_shown P holds = All-from_get_or P all no_rows (λ i lt.
      let below : i < length self = omega (arith, lt, self_beside) in
      let d : Variant = variant [] 0 no_rows in
      subst P (rows_shown i below) (All-get_or (λ (v : Variant). P v.rows) self i d below holds))

  module _ (i : ℕ) (n : Named) (lt : i < length self) (read : n ≡ get_or named i n) where
    variant_is : variant_at self i ≡ variant n.name n.slot (rows_in_place all i)
    variant_is = ap (λ z. variant_at z i) (sym same) ∙ shown_at named all i n e (omega (arith, lt, self_named)) read

    pub slot_shown : (variant_at self i).slot ≡ n.slot
    slot_shown = ap (λ (v : Variant). v.slot) variant_is

  -- other rows for one variant
  pub set_shown : (i : ℕ) (rows : Rows) → shown named (set all i rows) ≡ set self i (with_rows (variant_at self i) rows)
  set_shown i rows = shown_set named all i rows e ∙ ap (λ z. set z i (with_rows (variant_at z i) rows)) same

  pub changed_shown : (change : Rows → Rows) (more : List Rows) → more ≡ map change all
      → shown named more ≡ all_changed change self
  changed_shown change more made = ap (shown named) made ∙ shown_changed change named all ∙ ap (all_changed change) same

  pub put_shown : (made more : List Rows) → made ≡ more → length more ≡ length self
      → shown named made ≡ with_each_rows self more
  put_shown made more is long =
      ap (shown named) is ∙ shown_each named all more e (omega (arith, long, self_named))
      ∙ ap (λ vs. with_each_rows vs more) same

  pub rows_mapped : (f : Rows → Rows) → map (λ v. f v.rows) self ≡ map f all
  rows_mapped f = ap (map (λ (v : Variant). f v.rows)) (sym same) ∙ shown_rows f named all e

  pub lists_shown : (level node : ℕ) → any_lists self level node ≡ any_rows_list all level node
  lists_shown level node = ap (λ vs. any_lists vs level node) (sym same) ∙ shown_lists named all level node e

-- what a table keeps says nothing of the rows
pub rows_beside : (named : List Named) (all more : List Rows) → Beside all named → IsTable (shown named all)
    → length more ≡ length all → IsTable (shown named more) × (length more ≡ length named)
rows_beside named all more e table long =
    let also : length more ≡ length named = long ∙ e in (
      same_table (shown named all) (shown named more) (shown_names named more also ∙ sym (shown_names named all e))
          (shown_slots named more also ∙ sym (shown_slots named all e)) table,
      also,
    )

-- ---- at a slot

module _ (named : List Named) (all : List Rows) (self : List Variant) (same : shown named all ≡ self)
    (e : Beside all named) (table : IsTable (shown named all)) (slot i : ℕ) (at : IsSlotAt self slot i) where
  table_self : IsTable self
  table_self = subst IsTable same table

  pub in_kept : i < length all
  in_kept = let below = at.below in omega (arith, below, self_beside named all self same e)

  pub slot_rows : rows_at self slot ≡ rows_in_place all i
  slot_rows = rows_at_slot self table_self slot i at ∙ rows_shown named all self same e i at.below

  pub slot_written : (change : Rows → Rows) (was rows : Rows) → was ≡ rows_in_place all i → rows ≡ change was
      → shown named (set all i rows) ≡ changed (λ v. v.slot == slot) change self
  slot_written change was rows read made =
      set_shown named all self same e i rows
      ∙ ap (λ r. set self i (with_rows (variant_at self i) r))
      (made ∙ ap change (read ∙ sym (rows_shown named all self same e i at.below)))
      ∙ set_slot self table_self slot i at change

  pub slot_table : (rows : Rows) → IsTable (shown named (set all i rows)) × (length (set all i rows) ≡ length named)
  slot_table rows = rows_beside named all (set all i rows) e table (length-set all i rows)

-- ---- the first variant

module _ (named : List Named) (all : List Rows) (n : Named) (rows : Rows) (made : named ≡ n ∷ [])
    (kept : all ≡ rows ∷ []) (is_name : n.name ≡ initial_state) (is_slot : n.slot ≡ 0) where
  pub first_shown : shown named all ≡ variant initial_state 0 rows ∷ []
  unfolding shown
  first_shown = ap (λ z. shown z all) made ∙ ap (shown (n ∷ [])) kept ∙ ap (λ m. variant m n.slot rows ∷ []) is_name
      ∙ ap (λ s. variant initial_state s rows ∷ []) is_slot

  pub first_kept : IsTable (shown named all) × (length all ≡ length named)
  first_kept = (
    subst IsTable (sym first_shown) (first_table (variant initial_state 0 rows) refl refl),
    ap length kept
        ∙ sym (ap length made),
  )

-- ---- one more, and one less

module _ (named : List Named) (all : List Rows) (self : List Variant) (same : shown named all ≡ self)
    (e : Beside all named) (i : ℕ) where
  pub inserted_shown : (more : List Named) (with : List Rows) (n : Named) (source : ℕ) → i ≤ length self
      → source < length self
      → more ≡ insert named i n → with ≡ insert all i (rows_in_place all source)
      → shown more with ≡ insert self i (variant n.name n.slot (variant_at self source).rows)
  inserted_shown more with n source le lt made put =
      let long = self_named named all self same e in
      ap (λ z. shown z with) made ∙ ap (shown (insert named i n)) put
      ∙ shown_insert named all i n (rows_in_place all source) e (omega (arith, le, long))
      ∙ ap (λ z. insert z i (variant n.name n.slot (rows_in_place all source))) same
      ∙ ap (λ r. insert self i (variant n.name n.slot r)) (sym (rows_shown named all self same e source lt))

  pub inserted_beside : (more : List Named) (with : List Rows) (n : Named) (rows : Rows) → i ≤ length self
      → more ≡ insert named i n → with ≡ insert all i rows → length with ≡ length more
  inserted_beside more with n rows le made put =
      let long = self_named named all self same e in
      let one = ap length made ∙ length-insert named i n (omega (arith, le, long)) in
      let other = ap length put ∙ length-insert all i rows (omega (arith, le, long, e)) in
      omega (arith, one, other, e)

  pub removed_shown : (less : List Named) (without : List Rows) → less ≡ remove named i → without ≡ remove all i
      → shown less without ≡ remove self i
  removed_shown less without gone left = ap (λ z. shown z without) gone ∙ ap (shown (remove named i)) left
      ∙ shown_remove named all i e ∙ ap (λ z. remove z i) same

  pub removed_beside : (less : List Named) (without : List Rows) → i < length self → less ≡ remove named i
      → without ≡ remove all i → length without ≡ length less
  removed_beside less without lt gone left =
      let long = self_named named all self same e in
      let one = length-remove named i (omega (arith, lt, long)) in
      let other = length-remove all i (omega (arith, lt, long, e)) in
      let less_is = ap length gone in
      let without_is = ap length left in
      omega (arith, one, other, e, less_is, without_is)

-- as many rows, whether a call was done or not
pub as_many : {X E : Type 0} (r : Result X E) (change : Rows → Rows) (old new : List Rows)
    → OnOk r (new ≡ map change old) → OnErr r (new ≡ old) → length new ≡ length old
as_many (Ok x) change old new made same = ap length made ∙ length-map old change
as_many (Err x) change old new made same = ap length same

-- what holds anyhow
pub on_err : {X E P : Type 0} (r : Result X E) → P → OnErr r P
on_err (Ok x) p = tt
on_err (Err x) p = p
