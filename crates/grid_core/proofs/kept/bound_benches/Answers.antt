use Rattle.std.proofs.Common.{sym, subst}
use Rattle.grid_core.specs.Copied.{AreCopies}
use Rattle.grid_core.proofs.kept.bound_benches.Goals as goal

pub returns : goal.returns
returns c net variants k = record {
  slots = c.empty_benches.ensures net variants k.slots;
  copies = subst (AreCopies net) (sym c.count_anew.ensures) k.copies;
}
