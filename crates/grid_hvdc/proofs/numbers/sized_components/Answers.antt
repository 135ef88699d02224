use Rattle.std.proofs.Common.{◌≡◌, ap, ◌∙◌, sym, arith, length, map, get_or}
use Rattle.std.proofs.lemmas.Result.{IfOk-weaker}
use Rattle.std.specs.Prelude.{count_by}
use Rattle.grid_graph.specs.Components.{places}
use Rattle.grid_components.specs.Ranks.{is_key}
use Rattle.grid_hvdc.specs.Numbers.{sized, sized_at}
use Rattle.grid_islands.proofs.Numbers.{numbers_long, numbers_below}
use Rattle.grid_hvdc.proofs.ComponentNumbers.{sized_as}
use Rattle.grid_hvdc.proofs.numbers.sized_components.Goals as goal

pub component_sizes-requires-clause-below : goal.component_sizes-requires-clause-below
component_sizes-requires-clause-below c = numbers_below c.args.count c.args.pairs.now c.requires c.slice.result.now (c.slice.ensures ∙ c.in_ok-numbers.ensures)

pub component_sizes-requires-clause-few : goal.component_sizes-requires-clause-few
component_sizes-requires-clause-few c =
    let long = numbers_long c.args.count c.args.pairs.now c.requires c.slice.result.now (c.slice.ensures ∙ c.in_ok-numbers.ensures) in
    omega (arith, long, c.ranges.count)

pub with_sizes-requires : goal.with_sizes-requires
with_sizes-requires c k lt =
    let below = numbers_below c.args.count c.args.pairs.now c.requires c.slice-2.result.now (c.slice-2.ensures ∙ c.in_ok-numbers.ensures) in
    omega (arith, below k lt, ap length c.deref.ensures.value, c.in_ok-sizes.ensures.long, ap length c.slice.ensures, ap length c.slice-2.ensures)

pub returns : goal.returns
returns c =
    let numbers = c.slice-2.result.now in
    let sizes = c.deref.result.now in
    let same : c.slice.result.now ≡ numbers = c.slice.ensures ∙ sym c.slice-2.ensures in
    IfOk-weaker c.with_sizes.result (λ list. list ≡ map (sized sizes) numbers) (λ list. list ≡ map (sized_at c.args.count c.args.pairs.now) (places c.args.count))
    (λ list e. e ∙ sized_as c.args.count c.args.pairs.now c.requires numbers sizes (c.slice-2.ensures ∙ c.in_ok-numbers.ensures)
    (λ s lt. ap (λ z. get_or z s 0) c.deref.ensures.value ∙ c.in_ok-sizes.ensures.each s (omega (arith, lt, ap length same)) ∙ ap (count_by (is_key s)) same)) c.with_sizes.ensures
