use Rattle.grid_jsonl.proofs.Objects.{begun, ends, more}
use Rattle.grid_configured.specs.Lines.{bus_value}
use Rattle.grid_configured.proofs.lined.ConfiguredBusWrittenIn.put_in.Goals as goal

pub returns : goal.returns
unfolding bus_value
returns c = rw (c.slice.ensures, c.slice-2.ensures) at (ends (more _ _ (more _ _ (more _ _ (more _ _ (begun _ _ _ c.in_ok-open_bus.ensures.ok) c.in_ok-put_array.ensures.ok) c.in_ok-put_array-2.ensures.ok) c.in_ok-put_sum_of.ensures.ok) c.in_ok-put_sum_of-2.ensures.ok) c.put.ensures)
