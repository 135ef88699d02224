use Rattle.grid_told_forms.proofs.Findings.{findings_are_read_back, findings_are_told}
use Rattle.grid_told_forms.proofs.laws.findings_are_told.Goals as goal

pub returns-clause-read : goal.returns-clause-read
returns-clause-read c = findings_are_read_back

pub returns-clause-told : goal.returns-clause-told
returns-clause-told c = findings_are_told
