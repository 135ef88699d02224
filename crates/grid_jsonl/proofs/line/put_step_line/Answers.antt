use Rattle.grid_jsonl.proofs.Objects.{begun, line_ends, more_in}
use Rattle.grid_jsonl.specs.Steps.{step_fields}
use Rattle.grid_jsonl.specs.Outcomes.{command_object}
use Rattle.grid_jsonl.proofs.line.put_step_line.Goals as goal

pub returns : goal.returns
unfolding command_object step_fields
returns c = line_ends (more_in _ _ _ _ (begun _ _ _ c.in_ok-open_with.ensures.ok) c.in_ok-put.ensures.ok c.in_ok-put_step.ensures.ok) c.put-2.ensures
