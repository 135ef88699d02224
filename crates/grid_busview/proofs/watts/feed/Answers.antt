use Rattle.std.proofs.Common.{◌≡◌, ap, ◌∙◌, ℤ, List, [], ◌∷◌, ◌++◌, rules}
use Rattle.std.specs.Prelude.{if◌then◌else◌, ◌+ℤ◌}
use Rattle.std.proofs.lemmas.Int.{to_z-of_z}
use mir.Syntax.{w64, w128}
use mir.Val.{SFits, to_z, of_z}
use Rattle.grid_level.specs.declared.Terminal.{Terminal}
use Rattle.grid_busview.specs.declared.ViewBus.{ViewBus}
use Rattle.grid_busview.specs.Views.{is_load, is_generation}
use Rattle.grid_busview.specs.Labelled.{with_fed}
use Rattle.grid_busview.proofs.watts.feed.Goals as goal

pub returns : goal.returns
unfolding with_fed
returns c =
    let bus = c.args.bus.now in
    let w = c.args.watts in
    let stand = c.args.placed.now.stand in
    let r = c.add_if-bus.result in
    let s = c.add_if-bus-2.result in
    let r_wide : SFits w128 r = search rules in
    let s_wide : SFits w128 s = search rules in
    let own : to_z w64 (of_z w64 w) ≡ w = to_z-of_z w64 w c.ranges.watts in
    let load_fits : SFits w128 bus.load = search rules in
    let generation_fits : SFits w128 bus.generation = search rules in
    let load_is : to_z w128 (of_z w128 bus.load) ≡ bus.load = to_z-of_z w128 bus.load load_fits in
    let generation_is : to_z w128 (of_z w128 bus.generation) ≡ bus.generation = to_z-of_z w128 bus.generation generation_fits in
    let load : to_z w128 (of_z w128 r) ≡ (if is_load stand then bus.load +ℤ w else bus.load) =
    to_z-of_z w128 r r_wide ∙ c.add_if-bus.ensures ∙ ap (λ z. if c.is_load.result then z +ℤ to_z w64 (of_z w64 w) else z) load_is ∙ ap (λ z. if c.is_load.result then bus.load +ℤ z else bus.load) own ∙ ap (λ t. if t then bus.load +ℤ w else bus.load) c.is_load.ensures in
    let generation : to_z w128 (of_z w128 s) ≡ (if is_generation stand then bus.generation +ℤ w else bus.generation) =
    to_z-of_z w128 s s_wide ∙ c.add_if-bus-2.ensures ∙ ap (λ z. if c.is_generation.result then z +ℤ to_z w64 (of_z w64 w) else z) generation_is ∙ ap (λ z. if c.is_generation.result then bus.generation +ℤ z else bus.generation) own ∙ ap (λ t. if t then bus.generation +ℤ w else bus.generation) c.is_generation.ensures in
    let made : List Terminal → ℤ → ℤ → ViewBus = λ ts x y. record { least = bus.least; nodes = bus.nodes; terminals = ts; load = x; generation = y } in
    let ts : List Terminal = bus.terminals ++ c.args.placed.now.terminal ∷ [] in
    ap (λ z. made z (to_z w128 (of_z w128 r)) (to_z w128 (of_z w128 s))) (c.in_ok-push.ensures.ok ∙ ap (λ z. bus.terminals ++ z ∷ []) c.in_ok-copy.ensures)
    ∙ ap (λ z. made ts z (to_z w128 (of_z w128 s))) load
    ∙ ap (made ts (if is_load stand then bus.load +ℤ w else bus.load)) generation
