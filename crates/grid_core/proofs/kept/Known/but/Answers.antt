use Rattle.std.proofs.Common.{subst, ℕ}
use Rattle.grid_islands.specs.Kept.{AreKeptBut}
use Rattle.grid_core.specs.Kept.{AreKnown}
use Rattle.grid_core.proofs.RowMoves.{all_but, but_still}
use Rattle.grid_core.proofs.kept.Known.but.Goals as goal

pub returns-in-All : goal.returns-in-All
unfolding AreKnown
returns-in-All c net was opened buses move k = all_but net was opened c.args.level buses move (subst (AreKnown net was buses) c.in-All.is k)

pub returns-then-other-level : goal.returns-then-other-level
unfolding AreKnown
returns-then-other-level c net was opened buses move k =
    but_still net was opened c.args.level buses move (subst (λ (n : ℕ). AreKeptBut net was n buses) c.if-other-level.true (subst (AreKnown net was buses) c.in-AllBut.is k))

pub returns-else-other-level : goal.returns-else-other-level
unfolding AreKnown
returns-else-other-level c net was opened buses move k = tt

pub returns-in-Nothing : goal.returns-in-Nothing
unfolding AreKnown
returns-in-Nothing c net was opened buses move k = tt
