use Rattle.grid_jsonl.proofs.Objects.{begun, line_ends, more}
use Rattle.grid_hvdc.specs.Lines.{bus_object}
use Rattle.grid_hvdc.proofs.lines.put_bus_line.Goals as goal

pub returns : goal.returns
unfolding bus_object
returns c =
    rw (c.from.ensures, c.from-2.ensures, c.from-3.ensures, c.from-4.ensures, c.from-5.ensures) at (line_ends
    (more _ _ (more _ _ (more _ _ (more _ _ (more _ _ (more _ _ (more _ _ (begun _ _ _ c.in_ok-open_with.ensures.ok) c.in_ok-put_id.ensures.ok) c.in_ok-put_id-2.ensures.ok) c.in_ok-put_bus.ensures.ok)
    c.in_ok-put_number.ensures.ok) c.in_ok-put_number-2.ensures.ok) c.in_ok-put_number-3.ensures.ok) c.in_ok-put_number-4.ensures.ok) c.put.ensures)
