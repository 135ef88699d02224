use Rattle.grid_jsonl.specs.Steps.{state_value}
use Rattle.grid_jsonl.proofs.Objects.{begun, line_ends, more, more_of}
use Rattle.grid_jsonl.proofs.step.put_state.Goals as goal

pub returns : goal.returns
unfolding state_value
returns c =
    rw (c.refused_count.ensures) at (line_ends (more_of _ _ (more _ _ (more _ _ (begun _ _ _ c.in_ok-open_with.ensures.ok) c.in_ok-put_number.ensures.ok) c.in_ok-put_number-2.ensures.ok) c.in_ok-put_first_refused.ensures.ok) c.put.ensures)
