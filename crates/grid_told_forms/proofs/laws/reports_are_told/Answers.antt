use Rattle.grid_told_forms.proofs.Reports.{reports_are_read_back, reports_are_told}
use Rattle.grid_told_forms.proofs.laws.reports_are_told.Goals as goal

pub returns-clause-read : goal.returns-clause-read
returns-clause-read c = reports_are_read_back

pub returns-clause-told : goal.returns-clause-told
returns-clause-told c = reports_are_told
