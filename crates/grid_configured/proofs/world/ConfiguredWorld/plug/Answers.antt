use Rattle.std.proofs.Common.{ap, ◌∙◌, cond}
use Rattle.grid_configured.specs.Told.{bus_refusal}
use Rattle.grid_configured.proofs.WorldReadings.{worker_plugged, asked_parts}
use Rattle.grid_configured.proofs.world.ConfiguredWorld.plug.Goals as goal

pub returns-clause-reply : goal.returns-clause-reply
returns-clause-reply c =
    let parts = asked_parts c.args.self.now.network c.args.id.now c.args.request.now c.requires.asked in
    c.refuse_bus.ensures ∙ ap (cond c.is_bus-bus.result (bus_refusal c.is_live-live.result)) c.tell_reply-told.ensures
    ∙ worker_plugged c.self.inside.network c.self.inside.world c.args.self.now c.self.view_is c.self.invariant c.args.worker c.args.request.now c.args.id.now c.in_ok-step.field-0 c.is_bus-bus.result c.is_live-live.result c.requires.plain parts.0 parts.1 c.is_bus-bus.ensures c.is_live-live.ensures c.in_ok-step.ensures.reply
