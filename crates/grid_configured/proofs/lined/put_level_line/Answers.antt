use Rattle.grid_jsonl.proofs.Objects.{begun, line_ends, more}
use Rattle.grid_configured.specs.Lines.{level_object}
use Rattle.grid_configured.proofs.lined.put_level_line.Goals as goal

pub returns : goal.returns
unfolding level_object
returns c = rw (c.slice.ensures) at (line_ends (more _ _ (more _ _ (more _ _ (begun _ _ _ c.in_ok-open_with.ensures.ok) c.in_ok-put_id.ensures.ok) c.in_ok-put_id-2.ensures.ok) c.in_ok-put_array_in.ensures.ok) c.put.ensures)
