use Rattle.std.proofs.Common.{sym, ap, ◌∙◌}
use Rattle.grid_states.specs.Rows.{Rows}
use Rattle.grid_structure.specs.Sites as sites
use Rattle.grid_core.specs.Worlds.{worker_state}
use Rattle.grid_configured.proofs.WorldReadings.{now_structure, level_outside, worker_alive, rows_fit, worker_view, worker_dead, worker_lost}
use Rattle.grid_configured.proofs.world.ConfiguredWorld.reply_view.Goals as goal

pub returns-then-not-is_live : goal.returns-then-not-is_live
returns-then-not-is_live c = worker_dead c.self.inside.network c.self.inside.world c.args.self.now c.self.view_is c.self.invariant c.args.worker c.args.level.now (sym c.is_live.ensures ∙ c.if-not-is_live.true)

pub states-requires-clause-live : goal.states-requires-clause-live
states-requires-clause-live c = worker_alive c.self.inside.network c.self.inside.world c.args.self.now c.self.view_is c.self.invariant c.args.worker (sym c.is_live.ensures ∙ c.if-not-is_live.false)

pub seen-requires-clause-inside : goal.seen-requires-clause-inside
seen-requires-clause-inside c = level_outside c.self.inside.network c.self.inside.world c.args.self.now c.self.view_is c.self.invariant c.structure-structure.result.now c.structure-structure.ensures c.in-Some.place c.in-Some.ensures.below

pub seen-requires-clause-rows : goal.seen-requires-clause-rows
seen-requires-clause-rows c = rows_fit c.self.inside.network c.self.inside.world c.args.self.now c.self.view_is c.self.invariant (worker_state c.self.inside.world c.args.worker) c.states.result.now.opened (ap (λ (rows : Rows). rows.opened) c.states.ensures.value) c.states.ensures.structure c.states.ensures.fits

pub returns-in_ok-seen-in-Some : goal.returns-in_ok-seen-in-Some
returns-in_ok-seen-in-Some c =
    sym (worker_view c.self.inside.network c.self.inside.world c.args.self.now c.self.view_is c.self.invariant c.args.worker c.args.level.now c.in-Some.place c.states.result.now.opened c.in_ok-seen-in-Some.field-0 (sym c.is_live.ensures ∙ c.if-not-is_live.false)
    (ap (λ z. sites.find_level z c.args.level.now) (sym (now_structure c.self.inside.network c.self.inside.world c.args.self.now c.self.view_is c.self.invariant c.structure-structure.result.now c.structure-structure.ensures)) ∙ sym c.find_level.ensures.place ∙ c.in-Some.is)
    (level_outside c.self.inside.network c.self.inside.world c.args.self.now c.self.view_is c.self.invariant c.structure-structure.result.now c.structure-structure.ensures c.in-Some.place c.in-Some.ensures.below) (ap (λ (rows : Rows). rows.opened) c.states.ensures.value) c.in_ok-seen-in-Some.ensures)

pub returns-in-None : goal.returns-in-None
returns-in-None c =
    worker_lost c.self.inside.network c.self.inside.world c.args.self.now c.self.view_is c.self.invariant c.args.worker c.args.level.now (sym c.is_live.ensures ∙ c.if-not-is_live.false)
    (ap (λ z. sites.find_level z c.args.level.now) (sym (now_structure c.self.inside.network c.self.inside.world c.args.self.now c.self.view_is c.self.invariant c.structure-structure.result.now c.structure-structure.ensures)) ∙ sym c.find_level.ensures.place ∙ c.in-None.is)
