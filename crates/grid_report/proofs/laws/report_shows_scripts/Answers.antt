use Rattle.grid_report.proofs.Scripts.{scripts_shown}
use Rattle.grid_report.proofs.laws.report_shows_scripts.Goals as goal

pub returns : goal.returns
returns c = scripts_shown
