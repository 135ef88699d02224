use Rattle.std.proofs.Common.{sym, ◌∙◌}
use Rattle.grid_cli.proofs.Written.{served, calm, done_after}
use Rattle.grid_cli.proofs.serving.serve.Goals as goal

pub returns-in-Ok-clause-outcome : goal.returns-in-Ok-clause-outcome
returns-in-Ok-clause-outcome g c = rw c.status_of.ensures (served _ _ _ _ _ _ c.in-Ok.job c.write.result c.in-Ok.ensures.job c.write.ensures.written)

pub returns-in-Ok-clause-warning : goal.returns-in-Ok-clause-warning
returns-in-Ok-clause-warning g c is = (c.in-Ok.job, c.in-Ok.ensures.job, done_after c.write.result c.write.ensures.warning (sym c.status_of.ensures ∙ is))

pub returns-in-Ok-clause-writes_stay : goal.returns-in-Ok-clause-writes_stay
returns-in-Ok-clause-writes_stay g c other = calm c.write.result _ _ c.write.ensures.stays (λ told. other (c.status_of.ensures ∙ told))
