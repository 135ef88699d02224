use Rattle.std.proofs.Common.{List, ℕ, refl}
use Rattle.grid_graph.specs.Graph.{labels_of}
use Rattle.grid_graph.proofs.Labels.{labels_long}
use Rattle.grid_queue.specs.Parents.{parent_graph}
use Rattle.grid_queue.proofs.Parents.{same_labels}
use Rattle.grid_queue.proofs.joiner.Joiner.of_parents.Goals as goal

pub returns-clause-long : goal.returns-clause-long
returns-clause-long c =
    let parents : List ℕ = c.args.parents.items in
    labels_long (parent_graph parents) (labels_of (parent_graph parents)) refl

pub returns-clause-labels : goal.returns-clause-labels
returns-clause-labels c net s = record { ends = s.ends; least = same_labels net c.args.parents.items s }
