use Rattle.std.proofs.Common.{sym, ◌∙◌, arith}
use Rattle.std.proofs.lemmas.Result.{on_ok_weaker}
use Rattle.grid_structure.specs.Sites.{levels, find_switch}
use Rattle.grid_structure.proofs.SwitchRemovals.{from_nowhere, from_spot}
use Rattle.grid_outages.specs.Changes.{shown_levels, shown_rows}
use Rattle.grid_outages.specs.Steps.{levels_with_out, rows_with_out}
use Rattle.grid_outages.proofs.OutageChanges.{switch_in, switch_out, equipment_out, shows_as}
use Rattle.grid_outages.proofs.outage.put_out.Goals as goal
use Rattle.std.proofs.lemmas.Option.{slice_get_within}

pub open_switch-requires-clause-level : goal.open_switch-requires-clause-level
open_switch-requires-clause-level c =
    let net = c.args.structure.now in
    let there = switch_in net c.args.id.now c.in-Some.at.level c.in-Some.at.place (from_spot (find_switch net c.args.id.now) c.in-Some.at (sym c.in-Some.is ∙ c.find_switch.ensures)) in
    slice_get_within (levels net) c.in-Some.at.level there.level there.at

pub open_switch-requires-clause-place : goal.open_switch-requires-clause-place
open_switch-requires-clause-place c =
    let net = c.args.structure.now in
    let there = switch_in net c.args.id.now c.in-Some.at.level c.in-Some.at.place (from_spot (find_switch net c.args.id.now) c.in-Some.at (sym c.in-Some.is ∙ c.find_switch.ensures)) in
    omega (arith, there.inside, c.requires.flags_fit c.in-Some.at.level there.level there.at)

pub returns-in-Some : goal.returns-in-Some
returns-in-Some c =
    let net = c.args.structure.now in
    let id = c.args.id.now in
    let new = c.open_switch.new.changes in
    let ls = shown_levels c.args.changes.now (levels net) in
    let rows = shown_rows c.args.changes.now c.args.states.now.opened in
    let at = c.in-Some.at in
    let out = switch_out net id at.level at.place ls rows (from_spot (find_switch net id) at (sym c.in-Some.is ∙ c.find_switch.ensures)) in
    on_ok_weaker c.open_switch.result
    (λ s. shows_as (levels net) c.args.states.now.opened new ls (levels_with_out net ls id) _ (rows_with_out net rows id) s (sym out.0) (sym out.1)) c.open_switch.ensures

pub returns-in-None : goal.returns-in-None
returns-in-None c =
    let net = c.args.structure.now in
    let id = c.args.id.now in
    let new = c.take_out.new.changes in
    let ls = shown_levels c.args.changes.now (levels net) in
    let rows = shown_rows c.args.changes.now c.args.states.now.opened in
    let out = equipment_out net id ls rows (from_nowhere (find_switch net id) (sym c.in-None.is ∙ c.find_switch.ensures)) in
    on_ok_weaker c.take_out.result
    (λ s. shows_as (levels net) c.args.states.now.opened new _ (levels_with_out net ls id) rows (rows_with_out net rows id) s (sym out.0) (sym out.1)) c.take_out.ensures
