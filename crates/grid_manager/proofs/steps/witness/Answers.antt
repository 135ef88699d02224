use Rattle.std.proofs.Common.{[], sym, ap, ◌∙◌, arith}
use Rattle.grid_manager.specs.Views.{caller, grown, newcomer}
use Rattle.grid_manager.proofs.RuleSteps.{splits_new}
use Rattle.grid_manager.proofs.steps.witness.Goals as goal

pub split_seat-requires : goal.split_seat-requires
split_seat-requires c =
    let k = c.requires.keeper in
    (k.0, omega (arith, c.requires.word), splits_new _ _ k.1)

pub returns : goal.returns
returns c =
    let k = c.requires.keeper in
    let s = c.split_seat.ensures in
    let t = s.4 ∙ ap (λ m. (newcomer m.0, [])) k.2 in
    record {
      keeper = (s.0, s.1 ∙ k.1, s.2 ∙ ap (λ m. (grown m.0, m.1)) k.2);
      table = s.3 ∙ k.0;
      knows = t ∙ ap (λ own. (caller own, [])) (sym (ap (λ m. m.0.own) t));
      seen = ap (λ m. m.0.own.seen) t;
    }
