use Rattle.std.proofs.Common.{◌≡◌, sym, ap, ◌∙◌, subst, ℕ, ◌<◌, length, map, get_or, Some, None}
use Rattle.std.proofs.lemmas.List.{length-map}
use Rattle.grid_level.specs.Passing.{nodes, positioned}
use Rattle.grid_groups.proofs.PassingEdges.{nodes-positioned}
use Rattle.grid_busview.specs.declared.NodeBuses.{NodeBuses}
use Rattle.grid_busview.specs.Views.{bus_leasts, bus_place, node_buses_of}
use Rattle.grid_islands.proofs.LevelNumbers.{places_fit}
use Rattle.grid_sums.specs.Sums.{sums_of}
use Rattle.grid_sums.proofs.BusSums.{all_sums}
use Rattle.grid_sums.proofs.summing.level_buses.Goals as goal

pub sum_buses-requires-clause-long : goal.sum_buses-requires-clause-long
unfolding node_buses_of
sum_buses-requires-clause-long c =
    let here = positioned c.args.level.now c.args.opened.now in
    ap length (c.slice.ensures ∙ ap (λ z. z.places) c.in_ok-buses.ensures) ∙ length-map (nodes here) (bus_place here) ∙ ap length (nodes-positioned c.args.level.now c.args.opened.now)

pub sum_buses-requires-clause-below : goal.sum_buses-requires-clause-below
sum_buses-requires-clause-below c k place at =
    let here = positioned c.args.level.now c.args.opened.now in
    let fits = places_fit here k place (ap (λ z. get_or z k None) (sym (c.slice.ensures ∙ ap (λ z. z.places) c.in_ok-buses.ensures)) ∙ at) in
    subst (λ z. place < z) (sym (c.len-count.ensures ∙ ap (λ (z : NodeBuses). length z.leasts) c.in_ok-buses.ensures)) fits

pub returns-clause-sums : goal.returns-clause-sums
unfolding node_buses_of
returns-clause-sums c =
    let level = c.args.level.now in
    let opened = c.args.opened.now in
    let many = c.len-count.ensures ∙ ap (λ (z : NodeBuses). length z.leasts) c.in_ok-buses.ensures in
    c.from_vec.ensures ∙ all_sums c.args.powers.now.listed level opened c.keeps.ensures c.requires c.slice.result.now (c.slice.ensures ∙ ap (λ z. z.places) c.in_ok-buses.ensures) c.in_ok-sums.sums.items (c.in_ok-sums.ensures.long ∙ many)
    (λ place lt. c.in_ok-sums.ensures.each place (subst (λ z. place < z) (sym many) lt))
