use Rattle.std.proofs.Common.{subst, ℕ, Option}
use Rattle.grid_core.specs.Kept.{AreKnown, IsRowMove}
use Rattle.grid_core.proofs.kept.SlotKept.doubt.Goals as goal

pub returns-in-Some : goal.returns-in-Some
unfolding IsRowMove
returns-in-Some c net was opened move k = record {
  made = k.made;
  known = c.but-self.ensures net was opened c.args.self.now.buses (subst (λ (m : Option ℕ). IsRowMove m was opened) c.in-Some.is move) k.known;
}

pub returns-in-None : goal.returns-in-None
unfolding AreKnown
returns-in-None c net was opened move k = record { made = k.made; known = tt }
