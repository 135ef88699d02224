-- What stands of a state, by one level.
use Rattle.std.proofs.Common.{◌≡◌, refl, sym, ap, ◌∙◌, ℕ, ℤ, ◌<◌, arith, Bool, List, length, Some}
use Rattle.std.specs.Prelude.{◌↔◌, IsTrue, slice_get, option_map}
use Rattle.grid_lemmas.proofs.Options.{some_is}
use Rattle.grid_level.specs.VoltageLevel.{VoltageLevel}
use Rattle.grid_structure.specs.Network.{Network}
use Rattle.grid_structure.specs.Sites.{levels}
use Rattle.grid_states.specs.Rows.{Rows, row_at, pairs_at}
use Rattle.grid_watts.specs.Watts.{level_watts}
use Rattle.grid_watts.specs.Nodes.{listed_row}
use Rattle.grid_bench.specs.declared.base.BaseLevel.{BaseLevel}
use Rattle.grid_core.specs.Solo.{State, level_at}
use Rattle.grid_core.specs.Fitting.{StateFits}
use Rattle.grid_core.proofs.VariantViews.{row_listed}
use Rattle.grid_core.proofs.Ranges.{rows_of_levels}
use Rattle.grid_board.specs.Current.{IsSeen}
use Rattle.grid_board.specs.Questions.{part_with, part_of, base_of}

module _ (state : State) (net : Network) (rows : Rows) (seen : IsSeen state net rows) where
  -- there is a row for each level
  pub row_there : StateFits state → (place : ℕ) → place < length (levels net) → place < length rows.opened
  row_there fits place below =
      let long : length state.opened ≡ length (levels state.structure) = rows_of_levels state.structure state.opened fits.opened in
      let same_rows : length rows.opened ≡ length state.opened = ap (λ (r : Rows). length r.opened) seen.rows_are in
      let same_levels : length (levels net) ≡ length (levels state.structure) = ap (λ (n : Network). length (levels n)) seen.structure_is in
      omega (arith, below, long, same_rows, same_levels)

  module _ (place : ℕ) (level : VoltageLevel) (there : slice_get (levels net) place ≡ Some level) where
    pub level_here : slice_get (levels state.structure) place ≡ Some level
    level_here = ap (λ (n : Network). slice_get (levels n) place) (sym seen.structure_is) ∙ there

    -- the watts that are listed
    pub pairs_here : pairs_at rows.watts place ≡ listed_row state.powers level
    pairs_here = ap (λ (r : Rows). pairs_at r.watts place) seen.rows_are ∙ row_listed state.structure state.powers place level level_here

    -- the part, of these flags and watts
    pub part_here : (opened retained : List Bool) (powers : List ℤ) → opened ≡ row_at rows.opened place → retained ≡ row_at rows.retained place → powers ≡ level_watts state.powers level
        → base_of state place ≡ Some (record { level = level; states = opened; retained = retained; powers = powers })
    unfolding base_of level_at part_of part_with
    part_here opened retained powers op re po =
        ap (option_map (part_of state place)) level_here
        ∙ ap (λ (z : List Bool). Some (record { level = level; states = z; retained = row_at state.retained place; powers = level_watts state.powers level })) (sym (op ∙ ap (λ (r : Rows). row_at r.opened place) seen.rows_are))
        ∙ ap (λ (z : List Bool). Some (record { level = level; states = opened; retained = z; powers = level_watts state.powers level })) (sym (re ∙ ap (λ (r : Rows). row_at r.retained place) seen.rows_are))
        ∙ ap (λ (z : List ℤ). Some (record { level = level; states = opened; retained = retained; powers = z })) (sym po)

    here_now : base_of state place ≡ Some (record { level = level; states = row_at rows.opened place; retained = row_at rows.retained place; powers = level_watts state.powers level })
    here_now = part_here (row_at rows.opened place) (row_at rows.retained place) (level_watts state.powers level) refl refl refl

    -- what a part has that stands there
    pub part_fields : (part : BaseLevel) → base_of state place ≡ Some part → (row_at rows.opened place ≡ part.states) × ((row_at rows.retained place ≡ part.retained) × (level ≡ part.level))
    part_fields part at =
        let same : ◌≡◌ {A = BaseLevel} (record { level = level; states = row_at rows.opened place; retained = row_at rows.retained place; powers = level_watts state.powers level }) part = some_is _ part (sym here_now ∙ at) in
        (ap (λ (p : BaseLevel). p.states) same, (ap (λ (p : BaseLevel). p.retained) same, ap (λ (p : BaseLevel). p.level) same))

    -- where all but its watts are the level's, the watts tell
    pub part_same : (part : BaseLevel) (result : Bool) → (row_at rows.opened place ≡ part.states) × ((row_at rows.retained place ≡ part.retained) × (level ≡ part.level)) → IsTrue result ↔ (level_watts state.powers level ≡ part.powers)
        → IsTrue result ↔ (base_of state place ≡ Some part)
    part_same part result fields h = (
      λ t.
          here_now ∙ ap (λ (z : List Bool). Some (record { level = level; states = z; retained = row_at rows.retained place; powers = level_watts state.powers level })) fields.0
          ∙ ap (λ (z : List Bool). Some (record { level = level; states = part.states; retained = z; powers = level_watts state.powers level })) fields.1.0
          ∙ ap (λ (z : List ℤ). Some (record { level = level; states = part.states; retained = part.retained; powers = z })) (h.0 t)
          ∙ ap (λ (z : VoltageLevel). Some (record { level = z; states = part.states; retained = part.retained; powers = part.powers })) fields.1.1,
      λ at. h.1 (ap (λ (p : BaseLevel). p.powers) (some_is _ part (sym here_now ∙ at))),
    )
