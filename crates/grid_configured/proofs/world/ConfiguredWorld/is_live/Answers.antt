use Rattle.std.proofs.Common.{sym, true, false}
use Rattle.grid_configured.proofs.WorldReadings.{worker_lives}
use Rattle.grid_configured.proofs.world.ConfiguredWorld.is_live.Goals as goal

pub returns-in-Some : goal.returns-in-Some
returns-in-Some c = sym (worker_lives c.self.inside.network c.self.inside.world c.args.self.now c.self.view_is c.self.invariant c.args.worker true c.in-Some.ensures.0)

pub returns-in-None : goal.returns-in-None
returns-in-None c = sym (worker_lives c.self.inside.network c.self.inside.world c.args.self.now c.self.view_is c.self.invariant c.args.worker false c.in-None.ensures)
