use Rattle.grid_jsonl.proofs.Objects.{begun, line_ends, more, more_of}
use Rattle.grid_jsonl.specs.Outcomes.{event_object}
use Rattle.grid_jsonl.proofs.line.put_heard.Goals as goal

pub returns : goal.returns
unfolding event_object
returns c = rw (c.from.ensures) at (line_ends (more_of _ _ (more _ _ (more _ _ (more _ _ (more _ _ (begun _ _ _ c.in_ok-open_with.ensures.ok) c.in_ok-put_number.ensures.ok) c.in_ok-put_number-2.ensures.ok) c.in_ok-put_number-3.ensures.ok) c.in_ok-put_number-4.ensures.ok) c.in_ok-put_event.ensures.ok) c.put.ensures)
