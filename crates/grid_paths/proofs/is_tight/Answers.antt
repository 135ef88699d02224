use Rattle.std.proofs.Common.{arith}
use Rattle.grid_paths.proofs.Nexts.{step_positive}
use Rattle.grid_paths.proofs.is_tight.Goals as goal

pub returns-then-beyond-here-clause-no : goal.returns-then-beyond-here-clause-no
returns-then-beyond-here-clause-no g c same (weight, weighs, tight) =
    let positive = step_positive (g.N.PathNet.edges c.args.net.now) c.args.next.edge weight weighs in
    absurd (omega (arith, positive, tight, c.if-beyond-here.true))
