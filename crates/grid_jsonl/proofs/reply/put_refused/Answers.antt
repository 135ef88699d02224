use Rattle.grid_jsonl.proofs.Objects.{begun, ends, more}
use Rattle.grid_jsonl.proofs.reply.put_refused.Goals as goal

pub returns : goal.returns
returns c = rw (c.refusal_number.ensures) at (ends (more _ _ (more _ _ (begun _ _ _ c.in_ok-open_with.ensures.ok) c.in_ok-put_number.ensures.ok) c.in_ok-put_why.ensures.ok) c.put.ensures)
