use Rattle.grid_jsonl.proofs.Objects.{begun, ends, more}
use Rattle.grid_jsonl.specs.Parts.{view_bus_value}
use Rattle.grid_jsonl.proofs.part.ViewBusWrittenIn.put_in.Goals as goal

pub returns : goal.returns
unfolding view_bus_value
returns c = rw (c.from.ensures, c.slice.ensures, c.slice-2.ensures) at (ends (more _ _ (more _ _ (more _ _ (more _ _ (begun _ _ _ c.in_ok-open_bus.ensures.ok) c.in_ok-put_array.ensures.ok) c.in_ok-put_array-2.ensures.ok) c.in_ok-put_sum_of.ensures.ok) c.in_ok-put_sum_of-2.ensures.ok) c.put.ensures)
