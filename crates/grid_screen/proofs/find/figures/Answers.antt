use Rattle.std.proofs.Common.{[]}
use Rattle.std.proofs.lemmas.Result.{IfOk-weaker}
use Rattle.grid_screen.specs.Outages.{state_without}
use Rattle.grid_screen.specs.Findings.{AreFigures}
use Rattle.grid_screen.specs.Kept.{AreFiguresWithout}
use Rattle.grid_screen.proofs.find.figures.Goals as goal

pub returns : goal.returns
unfolding state_without
returns c = IfOk-weaker c.figures_without.result (AreFiguresWithout c.args.case.now []) (AreFigures c.args.case.now) (λ figures e. e) c.figures_without.ensures
