use Rattle.std.proofs.Common.{sym, ap, ◌∙◌, subst}
use Rattle.grid_states.specs.Rows.{HasRoom, rows_in, shifted}
use Rattle.grid_core.proofs.Starts.{pages_room, pages_seen}
use Rattle.grid_core.proofs.starting.record_states.Goals as goal

pub shift-requires-clause-room : goal.shift-requires-clause-room
shift-requires-clause-room c = subst HasRoom (sym c.in_ok-states.ensures) (pages_room _)

pub returns-clause-states : goal.returns-clause-states
returns-clause-states c =
    c.shift.ensures ∙ ap (shifted c.record_sums.result) (c.in_ok-states.ensures ∙ ap rows_in c.as_slice.ensures.value)
    ∙ pages_seen c.args.structure.now c.in_ok-pages.pages.items c.record_sums.result c.in_ok-pages.ensures c.record_sums.ensures.sums
