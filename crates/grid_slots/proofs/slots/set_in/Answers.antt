use Rattle.std.proofs.Common.{sym, subst, ap, ◌∙◌}
use Rattle.grid_states.specs.Rows.{HasRoom, shifted}
use Rattle.grid_slots.proofs.VariantSums.{room_with}
use Rattle.grid_slots.proofs.slots.set_in.Goals as goal

pub shift-requires-clause-room : goal.shift-requires-clause-room
shift-requires-clause-room c = subst HasRoom (sym c.in_ok-set_watts.ensures.ok) (room_with c.args.states.now c.args.level c.args.pair.node _ c.requires.room)

pub returns-clause-ok : goal.returns-clause-ok
returns-clause-ok c = c.shift.ensures ∙ ap (shifted c.args.by) c.in_ok-set_watts.ensures.ok
