use Rattle.grid_jsonl.proofs.Objects.{begun, ends}
use Rattle.grid_jsonl.proofs.reply.put_word.Goals as goal

pub returns : goal.returns
returns c = ends (begun _ _ _ c.in_ok-open_with.ensures.ok) c.put.ensures
