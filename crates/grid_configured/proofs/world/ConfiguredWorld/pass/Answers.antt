use Rattle.std.proofs.Common.{◌∙◌}
use Rattle.grid_configured.proofs.WorldReadings.{worker_told, passed_parts}
use Rattle.grid_configured.proofs.world.ConfiguredWorld.pass.Goals as goal

pub returns-clause-reply : goal.returns-clause-reply
returns-clause-reply c =
    let parts = passed_parts c.args.self.now.network c.args.request.now c.requires.asked in
    c.tell_reply.ensures ∙ worker_told c.self.inside.network c.self.inside.world c.args.self.now c.self.view_is c.self.invariant c.args.worker c.args.request.now c.in_ok-step.field-0 c.requires.plain parts.0 parts.1 c.in_ok-step.ensures.reply
