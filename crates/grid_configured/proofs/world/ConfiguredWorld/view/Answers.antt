use Rattle.std.proofs.Common.{◌≡◌, Some, ap}
use Rattle.std.proofs.lemmas.Result.{IfOk-weaker}
use Rattle.grid_states.specs.Rows.{Rows}
use Rattle.grid_core.specs.Replies.{state_of}
use Rattle.grid_configured.specs.Viewed.{seen_at}
use Rattle.grid_configured.specs.Histories as configured
use Rattle.grid_configured.proofs.WorldReadings.{rows_fit, named_view}
use Rattle.grid_configured.proofs.world.ConfiguredWorld.view.Goals as goal

pub seen-requires-clause-rows : goal.seen-requires-clause-rows
seen-requires-clause-rows c =
    rows_fit c.self.inside.network c.self.inside.world c.args.self.now c.self.view_is c.self.invariant (state_of c.self.inside.world.origin c.self.inside.world.steps c.args.name.now) c.states_in.result.now.opened (ap (λ (rows : Rows). rows.opened) c.states_in.ensures.value) c.states_in.ensures.structure c.states_in.ensures.fits

pub returns : goal.returns
returns c =
    IfOk-weaker c.seen.result (λ view. seen_at c.args.self.now.network c.states_in.result.now.opened c.args.level ≡ Some view) (λ view. configured.view c.args.self.now.network c.args.self.now.steps c.args.name.now c.args.level ≡ Some view)
    (λ view e. named_view c.self.inside.network c.self.inside.world c.args.self.now c.self.view_is c.self.invariant c.args.name.now c.args.level c.states_in.result.now.opened view c.requires.level (ap (λ (rows : Rows). rows.opened) c.states_in.ensures.value) e)
    c.seen.ensures
