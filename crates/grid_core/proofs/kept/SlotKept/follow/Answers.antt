use Rattle.std.proofs.Common.{subst}
use Rattle.grid_core.specs.Kept.{AreKnown}
use Rattle.grid_core.specs.Touched.{IsTouch}
use Rattle.grid_core.proofs.kept.SlotKept.follow.Goals as goal

pub returns-in-Level : goal.returns-in-Level
unfolding AreKnown
returns-in-Level c net next was opened touch k = record {
  made = c.let_go.ensures net next (subst (IsTouch net next) c.in-Level.is touch) k.made;
  known = tt;
}

pub returns-in-Ends : goal.returns-in-Ends
unfolding AreKnown
returns-in-Ends c net next was opened touch k =
    let t = subst (IsTouch net next) c.in-Ends.is touch in
    record {
      made = c.let_go-in-Ends-3.ensures t.1 next t.4 (c.let_go-in-Ends-2.ensures t.0 t.1 t.3 (c.let_go-in-Ends.ensures net t.0 t.2 k.made));
      known = tt;
    }

pub returns-in-All : goal.returns-in-All
unfolding AreKnown
returns-in-All c net next was opened touch k = record { made = c.empty.ensures next; known = tt }
