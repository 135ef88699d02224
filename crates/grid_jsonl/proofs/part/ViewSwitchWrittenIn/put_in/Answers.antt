use Rattle.grid_jsonl.proofs.Objects.{begun, ends, more}
use Rattle.grid_jsonl.specs.Parts.{switch_value}
use Rattle.grid_jsonl.proofs.part.ViewSwitchWrittenIn.put_in.Goals as goal

pub returns : goal.returns
unfolding switch_value
returns c = rw (c.from.ensures, c.from-2.ensures) at (ends (more _ _ (more _ _ (more _ _ (begun _ _ _ c.in_ok-open_id.ensures.ok) c.in_ok-put_flag.ensures.ok) c.in_ok-put_bus.ensures.ok) c.in_ok-put_bus-2.ensures.ok) c.put.ensures)
