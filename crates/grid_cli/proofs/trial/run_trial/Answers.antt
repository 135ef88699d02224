use Rattle.std.proofs.Common.{rules}
use Rattle.grid_cli.specs.Trials.{trial_of, operated_in, buses_in}
use Rattle.grid_cli.proofs.trial.run_trial.Goals as goal

pub returns : goal.returns
unfolding trial_of operated_in buses_in
returns c = search rules
