use Rattle.grid_jsonl.specs.Commands.{fields_behind_node}
use Rattle.grid_jsonl.proofs.command.put_behind_node.Goals as goal

pub returns-in-Generator : goal.returns-in-Generator
unfolding fields_behind_node
returns-in-Generator c = rw c.in-Generator.is c.put_two-in-Generator.ensures

pub returns-in-Battery : goal.returns-in-Battery
unfolding fields_behind_node
returns-in-Battery c = rw c.in-Battery.is c.put_two-in-Battery.ensures
