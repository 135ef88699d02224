use Rattle.std.proofs.Common.{ap, ◌∙◌}
use Rattle.grid_states.specs.Rows.{shifted, HasRoom}
use Rattle.grid_slots.specs.Kept.{kept_rows}
use Rattle.grid_slots.proofs.SharedRows.{all_states, rows_changed}
use Rattle.grid_slots.proofs.kept.Kept.shift_all.Goals as goal

pub shift_each-requires-clause-room : goal.shift_each-requires-clause-room
shift_each-requires-clause-room c = all_states c.self.inside.numbers.items c.self.inside.states.items c.args.self.now
    c.self.invariant c.self.view_is HasRoom c.requires.room

pub returns : goal.returns
returns c =
    ap (kept_rows c.self.inside.numbers.items) c.shift_each.ensures
    ∙ rows_changed c.self.inside.numbers.items c.self.inside.states.items c.args.self.now c.self.invariant
    c.self.view_is (shifted c.args.by)
