use Rattle.std.proofs.Common.{sym, ap, ◌∙◌, subst, ℕ, List, [], ◌++◌, length, Bool}
use Rattle.std.specs.Prelude.{map, filter}
use Rattle.std.specs.List.{zip}
use Rattle.std.proofs.lemmas.List.{map-append}
use Rattle.grid_graph.specs.Graph.{graph, labels_of}
use Rattle.grid_queue.specs.Parents.{AreLabelsOf}
use Rattle.grid_level.specs.declared.Switch.{Switch}
use Rattle.grid_level.specs.VoltageLevel.{VoltageLevel}
use Rattle.grid_level.specs.Passing.{nodes, ends, switch_edge, internal_edge}
use Rattle.grid_groups.specs.Labels.{pair_by_index, passing_flags, passing_where, graph_among, labels_where}
use Rattle.grid_groups.proofs.joining.labels_by.Goals as goal

pub returns : goal.returns
unfolding labels_where graph_among passing_where
returns c =
    let level : VoltageLevel = c.in_ok-indices.indices in
    let flags : List Bool = passing_flags c.args.passing c.args.flags.now in
    let count : ℕ = length (nodes level) in
    let by_index : ℕ × ℕ → ℕ × ℕ = pair_by_index (nodes level) in
    let its_ends : Switch × Bool → ℕ × ℕ = λ pair. ends (switch_edge pair.0) in
    let switched : List (ℕ × ℕ) = map its_ends (filter (λ pair. pair.1) (zip level.switches flags)) in
    let connected : List (ℕ × ℕ) = map (λ i. ends (internal_edge i)) level.internals in
    let P : ℕ → Type 0 = λ n. AreLabelsOf (graph n []) c.in-Ok.joiner in
    let start : P count = subst P (c.node_count.ensures ∙ ap (λ (l : VoltageLevel). length (nodes l)) (sym c.in_ok-indices.ensures)) c.in-Ok.ensures.labels in
    let joined : AreLabelsOf (graph count (map by_index switched ++ map by_index connected)) c.join_internals.new.joiner =
    c.join_internals.ensures (map by_index switched) (c.join_switches.ensures.joined [] start) in
    c.into_labels.ensures ∙ joined.least ∙ ap (λ (z : List (ℕ × ℕ)). labels_of (graph count z)) (sym (map-append by_index switched connected))
    ∙ ap (λ (l : VoltageLevel). labels_where l flags) c.in_ok-indices.ensures
