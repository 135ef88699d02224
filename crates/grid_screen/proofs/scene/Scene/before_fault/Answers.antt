use Rattle.std.proofs.Common.{subst, ℕ, List}
use Rattle.grid_core.proofs.Ranges.{rows_of_levels}
use Rattle.grid_core.proofs.VariantViews.{flags_fit}
use Rattle.grid_json.specs.Seen.{Knows}
use Rattle.grid_structure.specs.Sites.{levels}
use Rattle.grid_outages.specs.Steps.{Shows, levels_after, rows_after}
use Rattle.grid_screen.proofs.FaultScenes.{is_ground, is_scene}
use Rattle.grid_screen.proofs.scene.Scene.before_fault.Goals as goal

pub changes_without-requires-clause-rows : goal.changes_without-requires-clause-rows
changes_without-requires-clause-rows c = rows_of_levels c.args.case.now.structure c.args.case.now.states.opened c.requires

pub changes_without-requires-clause-flags : goal.changes_without-requires-clause-flags
changes_without-requires-clause-flags c = flags_fit c.args.case.now.structure c.args.case.now.states.opened c.requires

pub invariant_of-result : goal.invariant_of-result
invariant_of-result c =
    let case = c.args.case.now in
    let net = case.structure in
    let shows = subst (λ (z : List (List ℕ)). Shows (levels net) case.states.opened c.in_ok-changes.changes (levels_after net z (levels net)) (rows_after net z case.states.opened)) c.slice.ensures c.in_ok-changes.ensures in
    let known = subst (Knows c.in_ok-stuck.stuck) c.slice-2.ensures c.in_ok-stuck.ensures in
    (shows.long, rows_of_levels net case.states.opened c.requires, is_ground case c.args.fault.now c.in_ok-changes.changes c.in_ok-stuck.stuck c.keeps.ensures shows known)

pub returns : goal.returns
returns c =
    let case = c.args.case.now in
    let net = case.structure in
    let shows = subst (λ (z : List (List ℕ)). Shows (levels net) case.states.opened c.in_ok-changes.changes (levels_after net z (levels net)) (rows_after net z case.states.opened)) c.slice.ensures c.in_ok-changes.ensures in
    let known = subst (Knows c.in_ok-stuck.stuck) c.slice-2.ensures c.in_ok-stuck.ensures in
    is_scene case c.args.fault.now c.in_ok-changes.changes c.in_ok-stuck.stuck c.keeps.ensures shows known
