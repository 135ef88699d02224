use Rattle.std.proofs.Common.{◌≡◌, ap, ◌∙◌, sym, subst, ◌++◌, map}
use Rattle.std.proofs.lemmas.Result.{IfOk-weaker}
use Rattle.std.specs.Prelude.{zip}
use Rattle.grid_graph.specs.Components.{places}
use Rattle.grid_graph.specs.Graph.{EndsBelow}
use Rattle.grid_hvdc.specs.Numbers as numbers
use Rattle.grid_hvdc.specs.Numbers.{sized_at, side_by_side, hvdc_number, hvdc_numbers}
use Rattle.grid_hvdc.proofs.ComponentNumbers.{ends_of_both, both_made}
use Rattle.grid_hvdc.proofs.numbers.hvdc_numbers.Goals as goal

pub sized_components-requires : goal.sized_components-requires
sized_components-requires c = c.requires.branches

pub sized_components-requires-2 : goal.sized_components-requires-2
sized_components-requires-2 c =
    subst (λ z. EndsBelow z c.args.count) (sym (c.slice.ensures ∙ c.in_ok-both.ensures)) (ends_of_both c.args.count c.args.branches.now c.args.links.now c.requires.branches c.requires.links)

pub returns : goal.returns
unfolding hvdc_numbers hvdc_number
returns c =
    let count = c.args.count in
    let branches = c.args.branches.now in
    let both = c.slice.result.now in
    let over_all = c.slice-2.ensures ∙ c.in_ok-connected.ensures ∙ ap (λ z. map (sized_at count z) (places count)) (c.slice.ensures ∙ c.in_ok-both.ensures) in
    let over_branches = c.slice-3.ensures ∙ c.in_ok-synchronous.ensures in
    IfOk-weaker c.pair_up.result (λ list. list ≡ map side_by_side (zip c.slice-2.result.now c.slice-3.result.now)) (λ list. list ≡ numbers.hvdc_numbers count branches c.args.links.now)
    (λ list e. e ∙ ap (λ z. map side_by_side (zip z c.slice-3.result.now)) over_all ∙ ap (λ z. map side_by_side (zip (map (sized_at count (branches ++ c.args.links.now)) (places count)) z)) over_branches
    ∙ both_made (sized_at count (branches ++ c.args.links.now)) (sized_at count branches) side_by_side (places count)) c.pair_up.ensures
