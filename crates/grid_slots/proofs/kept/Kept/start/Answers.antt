use Rattle.grid_slots.proofs.SharedRows.{first_rows}
use Rattle.grid_slots.proofs.kept.Kept.start.Goals as goal

pub returns : goal.returns
returns c =
    first_rows c.new-numbers.result.items c.push.new.self.items c.new-states.result.items c.push-2.new.self.items
    c.args.initial c.new-numbers.ensures.items c.in_ok-push.ensures.items c.new-states.ensures.items
    c.in_ok-push-2.ensures.items
