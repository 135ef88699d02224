use Rattle.std.proofs.Common.{ap, ◌∙◌, length}
use Rattle.std.proofs.lemmas.List.{length-map}
use Rattle.grid_core.proofs.VariantViews.{flags_fit}
use Rattle.grid_core.proofs.Ranges.{rows_of_levels}
use Rattle.grid_islands.specs.Islands.{network_buses}
use Rattle.grid_hvdc.proofs.BusNames.{name_of, names_as}
use Rattle.grid_hvdc.proofs.lines.count_buses.Goals as goal

pub list_buses-requires-clause-rows : goal.list_buses-requires-clause-rows
list_buses-requires-clause-rows c = rows_of_levels c.args.structure.now c.args.states.now.opened c.requires

pub list_buses-requires-clause-flags : goal.list_buses-requires-clause-flags
list_buses-requires-clause-flags c = flags_fit c.args.structure.now c.args.states.now.opened c.requires

pub returns : goal.returns
returns c retained =
    let net = c.args.structure.now in
    let opened = c.args.states.now.opened in
    c.len.ensures ∙ ap length (c.in_ok-all.ensures.names ∙ names_as opened retained net) ∙ length-map (network_buses net opened retained) name_of
