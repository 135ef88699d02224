use Rattle.std.proofs.Common.{arith}
use Rattle.grid_workers.proofs.ScriptRuns.{finishes_none}
use Rattle.grid_workers.proofs.finished.run_scripts.Goals as goal

pub returns-then-workers-eq0 : goal.returns-then-workers-eq0
returns-then-workers-eq0 g c =
    finishes_none c.args.structure c.args.scripts.now c.in_ok-board.board c.in_ok-board.ensures (omega (arith, c.len-workers.ensures, c.requires, c.if-workers-eq0.true))
