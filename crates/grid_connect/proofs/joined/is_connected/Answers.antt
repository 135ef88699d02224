use Rattle.std.proofs.Common.{ap, ◌∙◌}
use Rattle.grid_groups.specs.Labels.{labels_where}
use Rattle.grid_groups.proofs.Under.{bus_labels}
use Rattle.grid_connect.proofs.joined.is_connected.Goals as goal

pub is_connected_by-requires-clause-labels : goal.is_connected_by-requires-clause-labels
is_connected_by-requires-clause-labels c =
    bus_labels c.args.level.now c.args.states.now c.as_slice-2.result.now c.requires.flags
    (c.as_slice-2.ensures.value ∙ c.in_ok-labels.ensures ∙ ap (labels_where c.args.level.now) (c.as_slice.ensures.value ∙ c.in_ok-closed.ensures))
