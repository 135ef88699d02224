use Rattle.std.proofs.Common.{sym, ap, ◌∙◌, subst, refl}
use Rattle.std.proofs.lemmas.Result.{on_ok_weaker}
use Rattle.grid_core.specs.Kept.{leaves}
use Rattle.grid_core.proofs.RowMoves.{on_ok, same_flags}
use Rattle.grid_core.proofs.machine.Machine.step.Goals as goal

pub returns-in-UseVariant-clause-slots : goal.returns-in-UseVariant-clause-slots
returns-in-UseVariant-clause-slots c = on_ok c.use_variant.result (λ h. same_flags c.args.self.now.slots c.use_variant.new.self.slots c.use_variant.ensures.slots)

pub returns-in-SetPower-clause-slots : goal.returns-in-SetPower-clause-slots
returns-in-SetPower-clause-slots c = on_ok_weaker c.set_power.result (λ flags h. flags) c.set_power.ensures.flags

pub returns-in-Totals-clause-slots : goal.returns-in-Totals-clause-slots
returns-in-Totals-clause-slots c = on_ok c.ask_totals.result (λ h slot. refl)

pub returns-in-Change-clause-slots : goal.returns-in-Change-clause-slots
unfolding leaves
returns-in-Change-clause-slots c =
    on_ok_weaker c.change.result (λ stays h. same_flags c.args.self.now.slots c.change.new.self.slots (stays (ap leaves (sym c.in-Change.is) ∙ h))) c.change.ensures.slots
