use Rattle.std.proofs.Common.{◌≡◌, ap, ◌∙◌, ℕ, Bool, List, length}
use Rattle.grid_graph.specs.Graph.{labels_of}
use Rattle.grid_level.specs.Kept.{KeepsLimits}
use Rattle.grid_level.specs.VoltageLevel.{VoltageLevel}
use Rattle.grid_level.specs.Passing.{bus, nodes, positioned}
use Rattle.grid_groups.specs.Labels.{graph_under}
use Rattle.grid_groups.proofs.Indices.{among_In}
use Rattle.grid_groups.proofs.Under.{bus_stands, long}
use Rattle.grid_connect.specs.Indexed.{labelled_busbar}
use Rattle.grid_connect.proofs.CoreExits.{connected_labelled}
use Rattle.grid_connect.proofs.joined.is_connected_by.Goals as goal

full : (level : VoltageLevel) (states : List Bool) (labels : List ℕ) → KeepsLimits level → length states ≡ length level.switches → labels ≡ labels_of (graph_under bus (positioned level states)) → length labels ≡ length (nodes level)
full level states labels keeps flags e = long bus level (positioned level states) labels keeps (bus_stands level states keeps flags) e

pub label_at-requires-clause-long : goal.label_at-requires-clause-long
label_at-requires-clause-long c = full c.args.level.now c.args.states.now c.args.labels.now c.keeps.ensures c.requires.flags c.requires.labels

pub has_busbar-requires : goal.has_busbar-requires
has_busbar-requires c = full c.args.level.now c.args.states.now c.args.labels.now c.keeps.ensures c.requires.flags c.requires.labels

pub returns : goal.returns
returns c =
    let level = c.args.level.now in
    c.has_busbar.ensures
    ∙ ap (λ own. labelled_busbar (nodes level) c.args.labels.now own level.placed) c.label_at.ensures
    ∙ connected_labelled level c.args.states.now c.args.node c.keeps.ensures c.requires.flags (among_In c.args.node (nodes level) c.requires.node) c.args.labels.now c.requires.labels
