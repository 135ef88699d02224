use Rattle.grid_jsonl.proofs.Objects.{begun, line_ends, more, more_of}
use Rattle.grid_screen.specs.Lines.{contingency_object}
use Rattle.grid_screen.proofs.line.put_finding_line.Goals as goal

pub returns : goal.returns
unfolding contingency_object
returns c =
    line_ends (more_of _ _ (more _ _ (more _ _ (begun _ _ _ c.in_ok-open_with.ensures.ok) c.in_ok-put_number.ensures.ok) c.in_ok-put_id.ensures.ok) c.in_ok-put_found.ensures.ok) c.put.ensures
