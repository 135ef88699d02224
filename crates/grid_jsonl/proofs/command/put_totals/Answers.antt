use Rattle.grid_jsonl.proofs.Objects.{begun, ends}
use Rattle.grid_jsonl.proofs.command.put_totals.Goals as goal

pub returns : goal.returns
returns c = ends (begun _ _ _ c.in_ok-open_with.ensures.ok) c.put.ensures
