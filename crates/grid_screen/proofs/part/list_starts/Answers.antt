use Rattle.std.proofs.Common.{◌≡◌, sym, ap, ◌∙◌, ◌+◌, subst, take, ◌++◌, [], ◌∷◌}
use Rattle.std.proofs.lemmas.List.{take_more}
use Rattle.grid_screen.specs.Started.{AreStarts}
use Rattle.grid_screen.proofs.ContingencyOutages.{starts_more}
use Rattle.grid_screen.proofs.part.list_starts.Goals as goal

pub loop-contingency-preserved : goal.loop-contingency-preserved
loop-contingency-preserved c =
    let case = c.args.case.now in
    let kept = c.args.kept.now in
    let part = c.args.part.now in
    let i = c.loop-contingency.contingency-index in
    let x = c.contingency-item.result in
    let outages = c.loop-contingency.outages.items in
    let ends = c.loop-contingency.ends.items in
    let start = c.in_ok-start.start in
    let next : take (i + 1) part ≡ take i part ++ x ∷ [] = take_more part i x c.loop-contingency-test.true ∙ ap (λ z. take i part ++ z ∷ []) (sym c.contingency-item.is) in
    let all = starts_more case kept (take i part) outages ends x start.outage start.end c.loop-contingency.invariant c.in_ok-start.ensures in
    subst (λ z. AreStarts case kept z c.push.new.self.items c.push-in-loop-contingency.new.self.items) (sym next)
    (subst (λ z. AreStarts case kept (take i part ++ x ∷ []) z c.push-in-loop-contingency.new.self.items) (sym c.in_ok-push.ensures.items)
    (subst (AreStarts case kept (take i part ++ x ∷ []) (outages ++ start.outage ∷ [])) (sym c.in_ok-push-2.ensures.items) all))
