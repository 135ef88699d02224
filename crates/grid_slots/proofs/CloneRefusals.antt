-- When a clone is refused, and that the names are asked in one way.
use Rattle.std.proofs.Common.{◌≡◌, refl, sym, ap, ◌∙◌, ℕ, ◌<◌, ◌≤◌, Bool, true, false, List, length, Some, None}
use Rattle.std.proofs.lemmas.Bool.{lt-ltb, le-ltb}
use Rattle.grid_states.specs.Rows.{Rows}
use Rattle.grid_slots.specs.Variant.{Variant}
use Rattle.grid_slots.specs.declared.slots.SlotFault.TheVariants.{NoVariant, TargetExists, TooManyVariants}
use Rattle.grid_slots.specs.Names.{with_name}
use Rattle.grid_slots.specs.Variants.{names, is_live, rows_of, with_variant}
use Rattle.grid_slots.specs.Answers.{clone_fault, IsClone}
use Rattle.grid_slots.specs.declared.slots.Cloned.{Cloned}
use Rattle.grid_slots.specs.declared.slots.Cloned.TheVariants.{Created, Overwritten}
use Rattle.grid_slots.specs.Places.{variant, IsGapFor, IsMadeAt}
use Rattle.grid_slots.proofs.TableEdits.{live_gap, insert_gap, inserted_names}

module _ (vs : List Variant) (from to : List ℕ) where
  pub no_source : (overwrite : Bool) → is_live vs from ≡ false → clone_fault vs from to overwrite ≡ Some NoVariant
  unfolding clone_fault
  no_source overwrite e = rw e refl

  pub there : (overwrite : Bool) → is_live vs from ≡ true → is_live vs to ≡ true → overwrite ≡ true → clone_fault vs from to overwrite ≡ None
  unfolding clone_fault
  there overwrite e f o = rw (e, f, o) refl

  pub exists : (overwrite : Bool) → is_live vs from ≡ true → is_live vs to ≡ true → overwrite ≡ false → clone_fault vs from to overwrite ≡ Some TargetExists
  unfolding clone_fault
  exists overwrite e f o = rw (e, f, o) refl

  pub too_many : (overwrite : Bool) → is_live vs from ≡ true → is_live vs to ≡ false → 64 ≤ length vs → clone_fault vs from to overwrite ≡ Some TooManyVariants
  unfolding clone_fault
  too_many overwrite e f le = rw (e, f, le-ltb (length vs) 64 le) refl

  pub room : (overwrite : Bool) → is_live vs from ≡ true → is_live vs to ≡ false → length vs < 64 → clone_fault vs from to overwrite ≡ None
  unfolding clone_fault
  room overwrite e f lt = rw (e, f, lt-ltb (length vs) 64 lt) refl

-- ---- a variant that was made

module _ (old new : List Variant) (from to : List ℕ) (rows : Rows) (place : ℕ) (gap : IsGapFor old to place) where
  pub made_clone : (cloned : Cloned) → rows_of old from ≡ rows → IsMadeAt old new to rows place cloned → IsClone old new from to cloned
  made_clone (Created slot) same (free, is) = (
    live_gap old to place gap,
    free,
    is ∙ insert_gap old to place gap (variant to slot rows) refl ∙ ap (λ r. with_variant (variant to slot r) old) (sym same),
  )
  made_clone (Overwritten slot) same none = absurd none

  pub made_names : (cloned : Cloned) → IsMadeAt old new to rows place cloned → names new ≡ with_name to (names old)
  made_names (Created slot) (free, is) = ap names is ∙ inserted_names old to place gap (variant to slot rows) refl
  made_names (Overwritten slot) none = absurd none

-- ---- asked of the names alone
