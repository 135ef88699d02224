use Rattle.std.proofs.Common.{◌≡◌, refl, ap, ◌∙◌, [], ◌∷◌, ◌++◌, append_assoc}
use Rattle.std.specs.Prelude.{codes}
use Rattle.grid_configured.specs.Translation.{substation_id}
use Rattle.grid_configured.proofs.translation.house.Goals as goal

pub returns : goal.returns
unfolding substation_id
returns c =
    let id : c.in_ok-id.id ≡ substation_id c.args.level.lists.id = c.in_ok-id.ensures ∙ append_assoc c.args.level.lists.id (codes "!") (codes "S") in
    let levels : c.push.new.self ≡ c.args.level.lists ∷ [] = c.in_ok-push.ensures.ok ∙ ap (λ z. z ++ c.args.level.lists ∷ []) c.empty-levels.ensures in
    let none : c.empty.result ≡ [] = c.empty.ensures in
    rw (id, levels, none) refl
