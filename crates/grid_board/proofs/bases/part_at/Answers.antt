use Rattle.std.proofs.Common.{◌∙◌, ap, sym}
use Rattle.grid_watts.specs.Watts.{level_watts}
use Rattle.grid_watts.specs.Nodes.{listed_row}
use Rattle.grid_board.proofs.Seen.{pairs_here, part_here}
use Rattle.grid_board.proofs.bases.part_at.Goals as goal

pub returns : goal.returns
returns c = λ state net seen there.
    part_here state net c.args.states.now seen c.args.place c.args.level there c.in_ok-opened.opened c.in_ok-retained.retained c.in_ok-powers.powers
    (c.in_ok-opened.ensures ∙ c.opened_row.ensures) (c.in_ok-retained.ensures ∙ c.retained_row.ensures)
    (c.in_ok-powers.ensures state.powers (c.watts_row.ensures.pairs ∙ pairs_here state net c.args.states.now seen c.args.place c.args.level there ∙ ap (listed_row state.powers) (sym c.get.ensures))
    ∙ ap (level_watts state.powers) c.get.ensures)
