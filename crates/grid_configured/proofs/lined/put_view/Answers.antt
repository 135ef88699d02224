use Rattle.grid_jsonl.proofs.Objects.{begun, ends, more}
use Rattle.grid_configured.proofs.lined.put_view.Goals as goal

pub returns : goal.returns
returns c = rw (c.slice.ensures) at (ends (more _ _ (begun _ _ _ c.in_ok-open_with.ensures.ok) c.in_ok-put_array_in.ensures.ok) c.put.ensures)
