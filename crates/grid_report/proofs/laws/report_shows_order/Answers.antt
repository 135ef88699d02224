use Rattle.grid_report.proofs.JournalReports.{shows}
use Rattle.grid_report.proofs.laws.report_shows_order.Goals as goal

pub returns : goal.returns
returns c = shows
