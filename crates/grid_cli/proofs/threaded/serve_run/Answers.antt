use Rattle.std.proofs.Common.{◌∙◌, refl}
use Rattle.grid_cli.proofs.Written.{served, calm}
use Rattle.grid_cli.proofs.threaded.serve_run.Goals as goal

pub returns-in-Ok-clause-outcome : goal.returns-in-Ok-clause-outcome
returns-in-Ok-clause-outcome g c = rw c.status_of.ensures (served _ _ _ _ _ _ c.in-Ok.job c.write_run.result c.in-Ok.ensures.job c.write_run.ensures.written)

pub returns-in-Ok-clause-warning : goal.returns-in-Ok-clause-warning
returns-in-Ok-clause-warning g c is = (c.in-Ok.job, c.in-Ok.ensures.job, refl)

pub returns-in-Ok-clause-writes_stay : goal.returns-in-Ok-clause-writes_stay
returns-in-Ok-clause-writes_stay g c other = calm c.write_run.result _ _ c.write_run.ensures.stays (λ told. other (c.status_of.ensures ∙ told))
