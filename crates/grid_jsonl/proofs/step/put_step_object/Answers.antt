use Rattle.grid_jsonl.specs.Steps.{step_fields}
use Rattle.grid_jsonl.proofs.Objects.{begun_with, ends}
use Rattle.grid_jsonl.proofs.step.put_step_object.Goals as goal

pub returns : goal.returns
unfolding step_fields
returns c = ends (begun_with _ _ _ _ _ c.in_ok-put.ensures.ok c.in_ok-put_step.ensures.ok) c.put-2.ensures
