use Rattle.grid_configured.proofs.Shown.{shows_order}
use Rattle.grid_configured.proofs.laws.report_shows_order.Goals as goal

pub returns : goal.returns
returns c = shows_order
