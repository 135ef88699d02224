use Rattle.grid_jsonl.proofs.Objects.{begun, ends, more}
use Rattle.grid_jsonl.proofs.reply.put_components.Goals as goal

pub returns : goal.returns
returns c = ends (more _ _ (begun _ _ _ c.in_ok-open_with.ensures.ok) c.in_ok-put_components_of.ensures.ok) c.put.ensures
