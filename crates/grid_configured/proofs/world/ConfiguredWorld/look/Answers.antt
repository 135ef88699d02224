use Rattle.std.proofs.Common.{sym, ap, ◌∙◌}
use Rattle.grid_configured.specs.Histories.{reply, reply_to}
use Rattle.grid_configured.proofs.world.ConfiguredWorld.look.Goals as goal

pub returns-clause-reply : goal.returns-clause-reply
unfolding reply
returns-clause-reply c = c.in_ok-reply.ensures ∙ ap (reply_to c.args.self.now.network c.args.self.now.steps c.args.worker) (sym c.requires.view)
