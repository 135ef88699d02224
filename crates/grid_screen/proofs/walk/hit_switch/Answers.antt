use Rattle.std.proofs.Common.{sym, subst, ap, ◌∙◌}
use Rattle.std.specs.Prelude.{slice_get}
use Rattle.std.proofs.lemmas.Result.{on_ok_weaker}
use Rattle.grid_structure.specs.Network.{Network}
use Rattle.grid_structure.specs.Sites.{levels}
use Rattle.grid_screen.specs.Walks.{Grows}
use Rattle.grid_screen.proofs.WalkSteps.{grows_both}
use Rattle.grid_screen.proofs.Sitings.{first_is_node, second_is_node, two_sites}
use Rattle.grid_screen.proofs.walk.hit_switch.Goals as goal

pub hit-requires-clause-site : goal.hit-requires-clause-site
hit-requires-clause-site c =
    let net = c.args.scene.now.net in
    let there = ap (λ (z : Network). slice_get (levels z) c.args.at.level) (sym c.structure.ensures) ∙ c.level.ensures in
    first_is_node net c.args.at c.level.result.now c.switch-switch.result.now c.keeps.ensures.sound there c.switch-switch.ensures

pub hit-requires-2-clause-site : goal.hit-requires-2-clause-site
hit-requires-2-clause-site c =
    let net = c.args.scene.now.net in
    let there = ap (λ (z : Network). slice_get (levels z) c.args.at.level) (sym c.structure.ensures) ∙ c.level.ensures in
    second_is_node net c.args.at c.level.result.now c.switch-switch.result.now c.keeps.ensures.sound there c.switch-switch.ensures

pub returns : goal.returns
returns c =
    let g = c.args.scene.now in
    let there = ap (λ (z : Network). slice_get (levels z) c.args.at.level) (sym c.structure.ensures) ∙ c.level.ensures in
    on_ok_weaker c.hit-2.result (λ r. subst (Grows g c.args.walk.now c.hit-2.new.walk) (sym (two_sites g.net c.args.at c.level.result.now c.switch-switch.result.now c.keeps.ensures.sound there c.switch-switch.ensures)) (grows_both g c.args.walk.now c.hit.new.walk c.hit-2.new.walk _ _ c.in_ok-hit.ensures r)) c.hit-2.ensures
