use Rattle.std.proofs.Common.{ap}
use Rattle.grid_cli.specs.Layouts.{outcome_text}
use Rattle.grid_cli.specs.Orders.{replay_text}
use Rattle.grid_cli.proofs.Written.{handing, unbegun}
use Rattle.grid_cli.proofs.replay.ReplayJobForm.write.Goals as goal

pub returns-clause-written : goal.returns-clause-written
unfolding replay_text
returns-clause-written g c = handing c.write_outcome-written.result _ _ _ _ (ap (outcome_text c.args.self.now.layout) c.in_ok-outcome.ensures.outcome) c.write_outcome-written.ensures.ok c.write_outcome-written.ensures.err

pub returns-in_err-outcome-clause-written : goal.returns-in_err-outcome-clause-written
returns-in_err-outcome-clause-written g c = unbegun _ _ _ c.from_residual.ensures.0
