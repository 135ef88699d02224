use Rattle.std.proofs.Common.{◌≡◌, sym, ap, ◌∙◌, subst, ℕ, ◌<◌, map}
use Rattle.std.proofs.lemmas.Result.{IfOk-weaker}
use Rattle.std.proofs.lemmas.List.Elements.{All-map}
use Rattle.grid_graph.specs.Graph.{EndsBelow}
use Rattle.grid_outages.specs.Effects.{levels_at}
use Rattle.grid_outages.specs.Tables.{end_places}
use Rattle.grid_outages.proofs.screening.list_joined_ends.Goals as goal

pub places_by_level-requires : goal.places_by_level-requires
places_by_level-requires c =
    subst (λ z. EndsBelow z c.args.count) (sym (c.deref.ensures.value ∙ c.in_ok-levels.ensures)) (All-map (λ (pair : ℕ × ℕ). (pair.0 < c.args.count) × (pair.1 < c.args.count)) levels_at c.args.joined.now c.requires)

pub returns : goal.returns
returns c =
    IfOk-weaker c.places_by_level.result (λ ends. ends ≡ end_places c.args.count c.deref.result.now) (λ ends. ends ≡ end_places c.args.count (map levels_at c.args.joined.now)) (λ ends e. e ∙ ap (end_places c.args.count) (c.deref.ensures.value ∙ c.in_ok-levels.ensures)) c.places_by_level.ensures
