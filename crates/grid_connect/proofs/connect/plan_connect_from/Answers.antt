use Rattle.std.proofs.Common.{ap, sym, ◌∙◌}
use Rattle.grid_graph.specs.Graph.{labels_of}
use Rattle.grid_queue.specs.Net.{passing_graph}
use Rattle.grid_groups.specs.Nets.{closed_flags}
use Rattle.grid_groups.proofs.NetEdges.{net_labels}
use Rattle.grid_groups.proofs.Under.{bus_labels}
use Rattle.grid_level.specs.Passing.{positioned}
use Rattle.grid_connect.proofs.PlanAnswers.{plan_connected}
use Rattle.grid_connect.proofs.connect.plan_connect_from.Goals as goal

pub is_connected_by-requires-clause-labels : goal.is_connected_by-requires-clause-labels
is_connected_by-requires-clause-labels c =
    let level = c.args.level.now in
    let states = c.args.states.now in
    bus_labels level states c.numbers.result.now c.requires.flags
    (c.numbers.ensures ∙ c.requires.labels ∙ ap (λ z. labels_of (passing_graph z)) c.requires.net ∙ net_labels level (closed_flags states))

pub returns-then-is_connected_by-clause-plan : goal.returns-then-is_connected_by-clause-plan
returns-then-is_connected_by-clause-plan c = sym (plan_connected (positioned c.args.level.now c.args.states.now) c.args.node (sym c.is_connected_by.ensures ∙ c.if-is_connected_by.true))
