use Rattle.std.proofs.Common.{append_assoc}
use Rattle.grid_cli.specs.Trials.{trial_line}
use Rattle.grid_cli.proofs.trial.TrialShown.show.Goals as goal

pub returns : goal.returns
unfolding trial_line
returns c =
    let last = c.in_ok-put_counted-3.ensures.ok in
    record { ok = simp append_assoc (simp (c.in_ok-put_counted-2.ensures.ok, c.in_ok-put_counted.ensures.ok, c.in_ok-put_head.ensures.ok, append_assoc) at last); err = tt }
