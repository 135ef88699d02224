use Rattle.grid_jsonl.proofs.Objects.{begun, ends, more}
use Rattle.grid_jsonl.specs.Parts.{component_value}
use Rattle.grid_jsonl.proofs.part.BusComponentWrittenIn.put_in.Goals as goal

pub returns : goal.returns
unfolding component_value
returns c = rw (c.from.ensures, c.from-2.ensures, c.from-3.ensures) at (ends (more _ _ (more _ _ (begun _ _ _ c.in_ok-open_bus.ensures.ok) c.in_ok-put_number.ensures.ok) c.in_ok-put_number-2.ensures.ok) c.put.ensures)
