use Rattle.std.proofs.Common.{ap, ◌∙◌, ◌++◌}
use Rattle.std.specs.Prelude.{map}
use Rattle.std.proofs.lemmas.List.{take_all}
use Rattle.grid_level.specs.VoltageLevel.{VoltageLevel}
use Rattle.grid_level.specs.Passing.{nodes}
use Rattle.grid_groups.proofs.Steps.{internal_among}
use Rattle.grid_groups.specs.Nets.{internal_net_edge, switch_net_edges, net_edges}
use Rattle.grid_groups.proofs.nets.net_edges.Goals as goal

pub internal_edge-requires-clause-first : goal.internal_edge-requires-clause-first
internal_edge-requires-clause-first c =
    (internal_among (nodes c.args.indices.now) c.level-level.result.now c.internals-internal-items.result.now c.loop-internal.internal-index _ (ap nodes c.level-level.ensures) c.keeps.ensures.ends_are_nodes
    c.internals-internal-items.ensures c.loop-internal-test.true).0

pub internal_edge-requires-clause-second : goal.internal_edge-requires-clause-second
internal_edge-requires-clause-second c =
    (internal_among (nodes c.args.indices.now) c.level-level.result.now c.internals-internal-items.result.now c.loop-internal.internal-index _ (ap nodes c.level-level.ensures) c.keeps.ensures.ends_are_nodes
    c.internals-internal-items.ensures c.loop-internal-test.true).1

pub returns : goal.returns
unfolding net_edges
returns c =
    let level = c.args.indices.now in
    c.loop-internal.invariant
    ∙ ap (λ z. switch_net_edges (nodes level) level.switches c.args.passes.now ++ map (internal_net_edge (nodes level)) z)
    (take_all c.loop-internal.internal-index c.internals-internal-items.result.now c.loop-internal-test.false ∙ c.internals-internal-items.ensures ∙ ap (λ (l : VoltageLevel). l.internals) c.level-level.ensures)
