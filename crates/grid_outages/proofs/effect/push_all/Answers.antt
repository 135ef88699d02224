use Rattle.std.proofs.Common.{ap, ◌∙◌, ◌++◌}
use Rattle.std.proofs.lemmas.List.{take_all}
use Rattle.grid_outages.proofs.effect.push_all.Goals as goal

pub returns : goal.returns
returns c = c.loop-place.invariant ∙ ap (λ z. c.args.places.now ++ z) (take_all c.loop-place.place-index c.args.more.now c.loop-place-test.false)
