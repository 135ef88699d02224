use Rattle.std.proofs.Common.{[], ◌∷◌, sym, ap, ◌∙◌, subst, arith}
use Rattle.std.specs.Prelude.{All}
use Rattle.std.proofs.lemmas.List.Elements.{All-head}
use Rattle.grid_manager.specs.declared.view.Known.{Known}
use Rattle.grid_manager.specs.Rules.{Fits}
use Rattle.grid_manager.proofs.RuleSteps.{joins, leaves, sees}
use Rattle.grid_manager.proofs.CallTokens.{hosted, left}
use Rattle.grid_manager.proofs.steps.recall.Goals as goal

pub join_seat-requires : goal.join_seat-requires
join_seat-requires c =
    let k = c.requires.keeper in
    let w = c.requires.token in
    (k.0, w.0, ap (λ m. m.1) w.1, omega (arith, c.requires.word), joins _ _ _ _ k.1 (ap (λ m. m.0.calls) w.1))

pub load-requires : goal.load-requires
load-requires c =
    let k = c.requires.keeper in
    let j = c.join_seat.ensures in
    (j.0 ∙ k.0, omega (arith, c.requires.word), sees _ _ _ (j.1 ∙ k.1))

pub split_seat-requires : goal.split_seat-requires
split_seat-requires c =
    let k = c.requires.keeper in
    let j = c.join_seat.ensures in
    let l = c.load.ensures in
    let m = l.2.0 ∙ hosted _ _ c.args.token.me.0 _ _ _ k.2 j.2 in
    (l.0 ∙ (j.0 ∙ k.0), omega (arith, c.requires.word), leaves _ _ _ _ (l.1 ∙ (j.1 ∙ k.1)) (ap (λ x. x.0.guests) m))

pub returns : goal.returns
returns c =
    let k = c.requires.keeper in
    let j = c.join_seat.ensures in
    let l = c.load.ensures in
    let s = c.split_seat.ensures in
    let own : Known = c.args.token.me.0.own in
    let H = c.args.keeper.now.me.0.own.seen in
    let host = hosted _ _ c.args.token.me.0 _ _ _ k.2 j.2 in
    let m = l.2.0 ∙ host in
    let fits : All (Fits H) (own ∷ []) = subst (λ x. All (Fits x.0.own.seen) x.0.guests) host l.2.1 in
    record {
      keeper = (s.0 ∙ (l.0 ∙ j.0), s.1 ∙ (l.1 ∙ (j.1 ∙ k.1)), left _ _ own _ _ _ m s.2 ∙ sym k.2);
      front = let f : Fits H own = All-head (Fits H) own [] fits in f.seen;
    }
