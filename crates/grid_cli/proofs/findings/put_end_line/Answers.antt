use Rattle.grid_jsonl.proofs.Objects.{begun, line_ends, more, more_of}
use Rattle.grid_cli.specs.Findings.{end_object}
use Rattle.grid_cli.proofs.findings.put_end_line.Goals as goal

pub returns : goal.returns
unfolding end_object
returns c =
    line_ends (more_of _ _ (more _ _ (begun _ _ _ c.in_ok-open_with.ensures.ok) c.in_ok-put_number.ensures.ok) c.in_ok-put_left_out.ensures.ok) c.put.ensures
