-- A made job is run in its workers' turn.
use Rattle.std.proofs.Common.{◌≡◌, ap, sym, subst, ℕ, length, None, arith}
use Rattle.grid_json.specs.declared.whole.Job.{Job}
use Rattle.grid_make.specs.MadeJob.{made_job}
use Rattle.grid_report.specs.Histories.{IsOrder, chosen_order}
use Rattle.grid_report.proofs.Turns.{turns_are_order}
use Rattle.grid_cli.specs.Orders.{order_of, IsScheduled}

pub made_is_scheduled : (seed size : ℕ) (job : Job) → job ≡ made_job seed size → length job.scripts ≡ 4 → IsScheduled job
unfolding made_job order_of chosen_order
made_is_scheduled seed size job is four =
    let none : job.order ≡ None = ap (λ (j : Job). j.order) is in
    record { few = omega (arith, four); ordered = subst (λ order. IsOrder job.scripts (chosen_order job.scripts order)) (sym none) (turns_are_order job.scripts) }
