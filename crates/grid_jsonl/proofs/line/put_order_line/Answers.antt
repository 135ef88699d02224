use Rattle.grid_jsonl.proofs.Objects.{begun, line_ends, more}
use Rattle.grid_jsonl.specs.Outcomes.{order_object}
use Rattle.grid_jsonl.proofs.line.put_order_line.Goals as goal

pub returns : goal.returns
unfolding order_object
returns c = line_ends (more _ _ (begun _ _ _ c.in_ok-open_with.ensures.ok) c.in_ok-put_order_member.ensures.ok) c.put.ensures
