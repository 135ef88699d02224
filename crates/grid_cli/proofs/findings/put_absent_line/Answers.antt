use Rattle.grid_jsonl.proofs.Objects.{begun, line_ends, more}
use Rattle.grid_cli.specs.Findings.{absent_object}
use Rattle.grid_cli.proofs.findings.put_absent_line.Goals as goal

pub returns : goal.returns
unfolding absent_object
returns c = line_ends (more _ _ (begun _ _ _ c.in_ok-open_with.ensures.ok) c.in_ok-put_id.ensures.ok) c.put.ensures
