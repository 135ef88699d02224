use Rattle.std.proofs.Common.{subst}
use Rattle.grid_structure.specs.Soundness.{IsSound}
use Rattle.grid_core.specs.History.{History, IsHistory}
use Rattle.grid_core.proofs.WorldVariants.{all_listing}
use Rattle.grid_core.proofs.world.World.keeps.Goals as goal

pub returns-clause-origin : goal.returns-clause-origin
returns-clause-origin c = subst (λ (h : History). IsSound h.origin) c.self.view_is c.self.invariant.0.held.parts.sound

pub returns-clause-workers : goal.returns-clause-workers
returns-clause-workers c = subst IsHistory c.self.view_is c.self.invariant.0.by_workers

pub returns-clause-listing : goal.returns-clause-listing
returns-clause-listing c = all_listing c.args.self.now c.self.inside.origin.value c.self.inside.machine c.self.inside.journal.items c.self.view_is c.self.invariant.0
