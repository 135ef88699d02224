use Rattle.std.proofs.Common.{◌≡◌, sym, ◌∙◌}
use Rattle.grid_states.specs.Rows.{row_at}
use Rattle.grid_board.proofs.ListEquality.{refuted}
use Rattle.grid_board.proofs.Seen.{pairs_here, part_same, part_fields}
use Rattle.grid_board.proofs.comparing.is_part.Goals as goal
use Rattle.grid_board.proofs.comparing.is_part.Goals.{then-same_flags, else-same_flags, then-same_flags-2, else-same_flags-2}

pub returns-then-is_level : goal.returns-then-is_level
returns-then-is_level c = λ state seen.
    let level = c.level-level.result.now in
    let fields : (row_at c.args.states.now.opened c.args.place ≡ c.args.part.now.states) × ((row_at c.args.states.now.retained c.args.place ≡ c.args.part.now.retained) × (level ≡ c.args.part.now.level)) = elim c.if-same_flags-2.branch [
      | then-same_flags-2 w ↦ elim c.if-same_flags.branch [
        | then-same_flags v ↦ (
          sym c.opened_row.ensures ∙ c.same_flags.ensures.0 v.if-same_flags.true ∙ c.slice.ensures,
          (sym v.retained_row.ensures ∙ v.same_flags-then-same_flags.ensures.0 (sym v.value-is ∙ w.if-same_flags-2.true) ∙ v.slice-then-same_flags.ensures, w.is_level.ensures.0 (sym w.value-is ∙ c.if-is_level.true) ∙ w.get.ensures),
        )
        | else-same_flags v ↦ cc (v.value-is, w.if-same_flags-2.true)
      ]
      | else-same_flags-2 w ↦ cc (w.value-is, c.if-is_level.true)
    ] in
    let told = c.same_watts.ensures state.powers (c.watts_row.ensures.pairs ∙ pairs_here state c.args.structure.now c.args.states.now seen c.args.place level c.level-level.ensures) in
    part_same state c.args.structure.now c.args.states.now seen c.args.place level c.level-level.ensures c.args.part.now c.same_watts.result fields (λ t. told.0 t ∙ c.slice-then-is_level.ensures, λ e. told.1 (e ∙ sym c.slice-then-is_level.ensures))

pub returns-else-is_level : goal.returns-else-is_level
returns-else-is_level c = λ state seen. refuted c.if-is_level.false (λ e.
    let level = c.level-level.result.now in
    let fields = part_fields state c.args.structure.now c.args.states.now seen c.args.place level c.level-level.ensures c.args.part.now e in
    elim c.if-same_flags-2.branch [
      | then-same_flags-2 w ↦ cc (w.is_level.ensures.1 (fields.1.1 ∙ sym w.get.ensures), sym w.value-is ∙ c.if-is_level.false)
      | else-same_flags-2 w ↦ elim c.if-same_flags.branch [
        | then-same_flags v ↦ cc (v.same_flags-then-same_flags.ensures.1 (v.retained_row.ensures ∙ fields.1.0 ∙ sym v.slice-then-same_flags.ensures), sym v.value-is ∙ w.if-same_flags-2.false)
        | else-same_flags v ↦ cc (c.same_flags.ensures.1 (c.opened_row.ensures ∙ fields.0 ∙ sym c.slice.ensures), v.if-same_flags.false)
      ]
    ])
