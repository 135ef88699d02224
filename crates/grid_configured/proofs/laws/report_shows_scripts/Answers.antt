use Rattle.grid_configured.proofs.Shown.{shows_scripts}
use Rattle.grid_configured.proofs.laws.report_shows_scripts.Goals as goal

pub returns : goal.returns
returns c = shows_scripts
