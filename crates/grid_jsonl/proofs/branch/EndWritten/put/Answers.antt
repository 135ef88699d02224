use Rattle.grid_jsonl.proofs.Objects.{begun, ends, more}
use Rattle.grid_jsonl.proofs.Commands.{end_is}
use Rattle.grid_jsonl.proofs.branch.EndWritten.put.Goals as goal

pub returns : goal.returns
returns c = rw (end_is c.args.self.now) (ends (more _ _ (begun _ _ _ c.in_ok-open_id.ensures.ok) c.in_ok-put_whole.ensures.ok) c.put.ensures)
