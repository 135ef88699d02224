use Rattle.grid_jsonl.proofs.Objects.{begun, ends, more}
use Rattle.grid_jsonl.proofs.command.put_clone.Goals as goal

pub returns : goal.returns
returns c = ends (more _ _ (more _ _ (more _ _ (begun _ _ _ c.in_ok-open_with.ensures.ok) c.in_ok-put_id.ensures.ok) c.in_ok-put_flag.ensures.ok) c.in_ok-put_id-2.ensures.ok) c.put.ensures
