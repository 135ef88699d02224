use Rattle.std.proofs.Common.{ap, ◌∙◌}
use Rattle.grid_graph.specs.Graph.{labels_of}
use Rattle.grid_queue.specs.Net.{passing_graph}
use Rattle.grid_groups.specs.Nets.{closed_flags}
use Rattle.grid_groups.proofs.NetEdges.{net_labels}
use Rattle.grid_groups.proofs.Under.{bus_labels}
use Rattle.grid_connect.proofs.disconnect.plan_disconnect_from.Goals as goal

pub is_connected_by-connected-requires-clause-labels : goal.is_connected_by-connected-requires-clause-labels
is_connected_by-connected-requires-clause-labels c =
    let level = c.args.level.now in
    let states = c.args.states.now in
    bus_labels level states c.numbers.result.now c.requires.flags
    (c.numbers.ensures ∙ c.requires.labels ∙ ap (λ z. labels_of (passing_graph z)) c.requires.net ∙ net_labels level (closed_flags states))
