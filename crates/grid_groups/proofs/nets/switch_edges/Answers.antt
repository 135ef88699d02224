use Rattle.std.proofs.Common.{refl, sym, ap, ap₂, subst, ◌∙◌, [], ◌∷◌, ◌++◌, Bool, false, get_or, length}
use Rattle.std.specs.Prelude.{map, IsTrue}
use Rattle.grid_level.specs.VoltageLevel.{VoltageLevel}
use Rattle.grid_level.specs.Kept.{among}
use Rattle.std.specs.List.{zip}
use Rattle.std.proofs.lemmas.List.{take_all}
use Rattle.grid_level.specs.declared.Switch.{Switch}
use Rattle.grid_level.specs.Passing.{nodes}
use Rattle.grid_groups.proofs.Steps.{switch_at, zip_at, zip_within, zip_over, map_next}
use Rattle.grid_queue.specs.declared.net.NetEdge.{NetEdge}
use Rattle.grid_groups.specs.Nets.{switch_net_edge, switch_net_edges}
use Rattle.grid_groups.proofs.nets.switch_edges.Goals as goal
use Rattle.grid_groups.proofs.nets.switch_edges.Goals.{After-switch-item}

-- a switch's ends are nodes
ends_here : (c : After-switch-item) → IsTrue (among (nodes c.args.indices.now) c.switch-item.result.node1) × IsTrue (among (nodes c.args.indices.now) c.switch-item.result.node2)
ends_here c =
    let P : VoltageLevel → Type 0 = λ z. IsTrue (among (nodes z) c.switch-item.result.node1) × IsTrue (among (nodes z) c.switch-item.result.node2) in
    subst P c.level-level.ensures
    (switch_at c.level-level.result.now c.switches-switch-items.result.now c.loop-place.place c.switch-item.result c.keeps.ensures.ends_are_nodes c.switches-switch-items.ensures c.loop-place-test.true c.switch-item.is)

pub switch_edge-requires-clause-first : goal.switch_edge-requires-clause-first
switch_edge-requires-clause-first c = (ends_here (goal.at.switch_edge-requires-clause-first c).After-switch-item).0

pub switch_edge-requires-clause-second : goal.switch_edge-requires-clause-second
switch_edge-requires-clause-second c = (ends_here (goal.at.switch_edge-requires-clause-second c).After-switch-item).1

pub loop-place-preserved : goal.loop-place-preserved
loop-place-preserved c =
    let ss = c.switches-switch-items.result.now in
    let flags = c.args.passes.now in
    let i = c.loop-place.place in
    let s = c.switch-item.result in
    let f = get_or flags i false in
    let long = c.requires ∙ ap (λ z. length z) (sym (c.switches-switch-items.ensures ∙ ap (λ (l : VoltageLevel). l.switches) c.level-level.ensures)) in
    let edge : Switch × Bool → NetEdge = λ pair. switch_net_edge (nodes c.args.indices.now) pair.0 pair.1 in
    c.in_ok-push.ensures.items
    ∙ ap₂ (λ zs z. zs ++ z ∷ []) c.loop-place.invariant c.switch_edge.ensures
    ∙ map_next edge (zip ss flags) i (s, f) (zip_within ss flags i c.loop-place-test.true long) (zip_at ss flags i s f c.loop-place-test.true long c.switch-item.is refl)

pub returns : goal.returns
unfolding switch_net_edges
returns c =
    let ss = c.switches-switch-items.result.now in
    let flags = c.args.passes.now in
    let edge : Switch × Bool → NetEdge = λ pair. switch_net_edge (nodes c.args.indices.now) pair.0 pair.1 in
    c.loop-place.invariant
    ∙ ap (map edge) (take_all c.loop-place.place (zip ss flags) (zip_over ss flags c.loop-place.place c.loop-place-test.false) ∙ ap (λ z. zip z flags) (c.switches-switch-items.ensures ∙ ap (λ (l : VoltageLevel). l.switches) c.level-level.ensures))
