use Rattle.grid_value.proofs.NodeSpellings.{items_end, items_next}
use Rattle.grid_value.proofs.value.Items.next.Goals as goal

pub returns-in-None : goal.returns-in-None
returns-in-None c = items_end c.args.self.now.nodes.now c.in-None.ensures

pub returns-in-Some : goal.returns-in-Some
returns-in-Some c = items_next c.args.self.now.nodes.now c.in-Some.value c.in-Some.rest.now c.in-Some.ensures
