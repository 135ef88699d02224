use Rattle.std.proofs.Common.{ap, ◌∙◌, length}
use Rattle.grid_core.proofs.VariantViews.{flags_fit}
use Rattle.grid_core.proofs.Ranges.{rows_of_levels}
use Rattle.grid_islands.proofs.LevelComponents.{total, joining, count_as, rows_long, pairs_made, ends_made}
use Rattle.grid_hvdc.specs.Numbers.{hvdc_numbers}
use Rattle.grid_hvdc.proofs.StationSites.{links_made, links_ends}
use Rattle.grid_hvdc.proofs.write.number_buses.Goals as goal

pub list_buses-requires-clause-rows : goal.list_buses-requires-clause-rows
list_buses-requires-clause-rows c = rows_of_levels c.args.structure.now c.args.states.now.opened c.requires

pub list_buses-requires-clause-flags : goal.list_buses-requires-clause-flags
list_buses-requires-clause-flags c = flags_fit c.args.structure.now c.args.states.now.opened c.requires

pub bus_pairs-requires : goal.bus_pairs-requires
bus_pairs-requires c = ap length c.slice.ensures ∙ rows_long c.args.structure.now c.args.states.now.opened c.args.states.now.opened c.in_ok-all.all.numbered c.in_ok-all.ensures.numbered

pub link_pairs-requires : goal.link_pairs-requires
link_pairs-requires c = ap length c.slice-2.ensures ∙ rows_long c.args.structure.now c.args.states.now.opened c.args.states.now.opened c.in_ok-all.all.numbered c.in_ok-all.ensures.numbered

pub hvdc_numbers-requires-clause-branches : goal.hvdc_numbers-requires-clause-branches
hvdc_numbers-requires-clause-branches c =
    let net = c.args.structure.now in
    let opened = c.args.states.now.opened in
    let made = c.in_ok-all.all.numbered in
    let joined = pairs_made net opened opened made c.in_ok-all.ensures.numbered c.slice.result.now c.in_ok-branches.branches c.slice-3.result.now c.slice.ensures c.in_ok-branches.ensures c.slice-3.ensures in
    ends_made net opened opened made c.in_ok-all.ensures.numbered c.slice-3.result.now joined

pub hvdc_numbers-requires-clause-links : goal.hvdc_numbers-requires-clause-links
hvdc_numbers-requires-clause-links c =
    let opened = c.args.states.now.opened in
    links_ends c.args.structure.now opened opened c.in_ok-all.all.numbered c.in_ok-all.ensures.numbered c.args.lines.now c.slice-2.result.now c.slice-4.result.now c.slice-2.ensures (c.slice-4.ensures ∙ c.in_ok-links.ensures)

pub returns-clause-numbers : goal.returns-clause-numbers
returns-clause-numbers c retained =
    let net = c.args.structure.now in
    let opened = c.args.states.now.opened in
    let made = c.in_ok-all.all.numbered in
    let as_numbered = c.in_ok-all.ensures.numbered in
    let branches = c.slice-3.result.now in
    let links = c.slice-4.result.now in
    let joined = pairs_made net opened retained made as_numbered c.slice.result.now c.in_ok-branches.branches branches c.slice.ensures c.in_ok-branches.ensures c.slice-3.ensures in
    let linked = links_made net opened retained made as_numbered c.args.lines.now c.slice-2.result.now links c.slice-2.ensures (c.slice-4.ensures ∙ c.in_ok-links.ensures) in
    c.in_ok-numbers.ensures ∙ ap (λ z. hvdc_numbers z branches links) (count_as net opened retained made as_numbered)
    ∙ ap (λ z. hvdc_numbers (total net opened retained) z links) joined ∙ ap (hvdc_numbers (total net opened retained) (joining net opened retained)) linked
