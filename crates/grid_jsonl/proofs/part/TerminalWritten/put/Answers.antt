use Rattle.grid_jsonl.proofs.Objects.{begun, ends, more}
use Rattle.grid_jsonl.specs.Parts.{terminal_value}
use Rattle.grid_jsonl.proofs.part.TerminalWritten.put.Goals as goal

pub returns : goal.returns
unfolding terminal_value
returns c = rw (c.from.ensures) at (ends (more _ _ (begun _ _ _ c.in_ok-open_id.ensures.ok) c.in_ok-put_number.ensures.ok) c.put.ensures)
