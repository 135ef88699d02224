use Rattle.std.proofs.Common.{subst}
use Rattle.std.specs.Prelude.{MatchOption}
use Rattle.grid_core.specs.Machines.{IsDead}
use Rattle.grid_core.specs.Verdicts.{Decides}
use Rattle.grid_core.proofs.MachineSteps.{each_ok}
use Rattle.grid_core.proofs.VariantSteps.{dead_made}
use Rattle.grid_core.proofs.RequestKinds.{asks_variant}
use Rattle.grid_core.proofs.machine.Machine.ask.Goals as goal

pub returns-in-None-clause-made : goal.returns-in-None-clause-made
returns-in-None-clause-made c =
    each_ok c.answer.result c.answer.ensures (λ made is. dead_made c.args.self.now c.args.worker c.args.variant.now c.args.request.now made (asks_variant c.args.request.now c.requires.asks) c.requires.works (subst (λ o. MatchOption o (IsDead c.args.self.now c.args.variant.now) (Decides c.args.self.now c.args.variant.now c.args.request.now)) c.in-None.is c.in_ok-verdict.ensures.decided) is)
