use Rattle.grid_jsonl.proofs.Objects.{begun, ends, more}
use Rattle.grid_jsonl.proofs.reply.put_totals.Goals as goal

pub returns : goal.returns
returns c = ends (more _ _ (more _ _ (begun _ _ _ c.in_ok-open_with.ensures.ok) c.in_ok-put_sum_of.ensures.ok) c.in_ok-put_sum_of-2.ensures.ok) c.put.ensures
