use Rattle.std.proofs.Common.{append-nil}
use Rattle.grid_jsonl.specs.Commands.{fields_before_node}
use Rattle.grid_jsonl.proofs.command.put_before_node.Goals as goal

pub returns-in-ShuntCompensator : goal.returns-in-ShuntCompensator
unfolding fields_before_node
returns-in-ShuntCompensator c = rw c.in-ShuntCompensator.is (simp append-nil c.put_whole.ensures)
