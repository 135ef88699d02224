use Rattle.grid_jsonl.proofs.Objects.{first_member, next_member, last_member}
use Rattle.grid_jsonl.proofs.step.put_asked_step.Goals as goal

pub returns : goal.returns
returns c =
    rw (c.from.ensures) at (last_member _ (next_member _ _ (next_member _ _ (next_member _ _ (first_member _ _ _ c.in_ok-put_first_number.ensures.ok) c.in_ok-put_number.ensures.ok) c.in_ok-put_number-2.ensures.ok) c.in_ok-put_id.ensures.ok) c.put_asked.ensures)
