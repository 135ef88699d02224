use Rattle.std.proofs.Common.{sym, ap, ◌∙◌, subst, ℕ, List}
use Rattle.std.specs.Prelude.{IsTrue}
use Rattle.grid_core.specs.History.{is_live}
use Rattle.grid_core.specs.Solo.{state_rows}
use Rattle.grid_core.specs.Replies.{state_of}
use Rattle.grid_core.specs.Fitting.{StateFits}
use Rattle.grid_core.specs.Worlds.{worker_live, worker_state}
use Rattle.grid_core.proofs.world.World.states.Goals as goal

pub states_in-requires : goal.states_in-requires
unfolding worker_live
states_in-requires c = subst (λ (n : List ℕ). IsTrue (is_live c.args.self.now.steps n)) (sym c.working_name.ensures) c.requires.live

pub returns-clause-value : goal.returns-clause-value
unfolding worker_state
returns-clause-value c = c.states_in.ensures.value ∙ ap (λ (n : List ℕ). state_rows (state_of c.args.self.now.origin c.args.self.now.steps n)) c.working_name.ensures

pub returns-clause-structure : goal.returns-clause-structure
unfolding worker_state
returns-clause-structure c = c.states_in.ensures.structure ∙ ap (λ (n : List ℕ). (state_of c.args.self.now.origin c.args.self.now.steps n).structure) c.working_name.ensures

pub returns-clause-fits : goal.returns-clause-fits
unfolding worker_state
returns-clause-fits c = subst (λ (n : List ℕ). StateFits (state_of c.args.self.now.origin c.args.self.now.steps n)) c.working_name.ensures c.states_in.ensures.fits
