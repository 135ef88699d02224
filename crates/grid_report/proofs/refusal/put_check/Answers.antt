use Rattle.grid_report.specs.Refusals.{check_reason}
use Rattle.grid_report.proofs.refusal.put_check.Goals as goal

pub returns-in-NominalNotPositive : goal.returns-in-NominalNotPositive
unfolding check_reason
returns-in-NominalNotPositive c = rw c.in-NominalNotPositive.is c.put_bound.ensures

pub returns-in-VoltageLimits : goal.returns-in-VoltageLimits
unfolding check_reason
returns-in-VoltageLimits c = rw c.in-VoltageLimits.is c.put_bound-in-VoltageLimits.ensures

pub returns-in-PowerLimits : goal.returns-in-PowerLimits
unfolding check_reason
returns-in-PowerLimits c = rw c.in-PowerLimits.is c.put_bound-in-PowerLimits.ensures

pub returns-in-Sections : goal.returns-in-Sections
unfolding check_reason
returns-in-Sections c = rw c.in-Sections.is c.put_bound-in-Sections.ensures

pub returns-in-RatedNotPositive : goal.returns-in-RatedNotPositive
unfolding check_reason
returns-in-RatedNotPositive c = rw c.in-RatedNotPositive.is c.put_bound-in-RatedNotPositive.ensures
