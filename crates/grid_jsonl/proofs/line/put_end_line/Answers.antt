use Rattle.grid_jsonl.proofs.Objects.{begun, line_ends, more}
use Rattle.grid_jsonl.specs.Outcomes.{end_of}
use Rattle.grid_jsonl.proofs.line.put_end_line.Goals as goal

pub returns : goal.returns
unfolding end_of
returns c = rw (c.from.ensures) at (line_ends (more _ _ (more _ _ (more _ _ (more _ _ (more _ _ (begun _ _ _ c.in_ok-open_with.ensures.ok) c.in_ok-put_number.ensures.ok) c.in_ok-put_number-2.ensures.ok) c.in_ok-put_number-3.ensures.ok) c.in_ok-put_number-4.ensures.ok) c.in_ok-put_number-5.ensures.ok) c.put.ensures)
