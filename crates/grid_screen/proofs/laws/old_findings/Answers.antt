use Rattle.grid_screen.proofs.ContingencyLists.{old_findings}
use Rattle.grid_screen.proofs.laws.old_findings.Goals as goal

pub returns : goal.returns
returns c = old_findings
