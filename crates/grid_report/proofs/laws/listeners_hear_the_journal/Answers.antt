use Rattle.grid_report.proofs.JournalReports.{hears}
use Rattle.grid_report.proofs.laws.listeners_hear_the_journal.Goals as goal

pub returns : goal.returns
returns c = hears
