use Rattle.std.proofs.Common.{◌≡◌, sym, ap, ◌∙◌, subst, refl, ℕ, ◌+◌, List, [], ◌∷◌, ◌++◌, append_assoc, length, get_or, take}
use Rattle.std.specs.Prelude.{map}
use Rattle.std.proofs.lemmas.List.{append-nil, map-append}
use Rattle.grid_graph.specs.Graph.{graph}
use Rattle.grid_queue.specs.Parents.{AreLabelsOf}
use Rattle.grid_level.specs.declared.Internal.{Internal}
use Rattle.grid_level.specs.Passing.{nodes, ends, internal_edge}
use Rattle.grid_groups.specs.Labels.{pair_by_index}
use Rattle.grid_groups.proofs.Lists.{get_or_any}
use Rattle.grid_groups.proofs.Steps.{map_next, internal_among}
use Rattle.grid_groups.proofs.joining.join_internals.Goals as goal

pub join_pair-requires-clause-first : goal.join_pair-requires-clause-first
join_pair-requires-clause-first c =
    (internal_among (nodes c.args.indices.now) c.level-level.result.now c.internals-internal-items.result.now c.loop-internal.internal-index _ (ap nodes c.level-level.ensures) c.keeps.ensures.ends_are_nodes
    c.internals-internal-items.ensures c.loop-internal-test.true).0

pub join_pair-requires-clause-second : goal.join_pair-requires-clause-second
join_pair-requires-clause-second c =
    (internal_among (nodes c.args.indices.now) c.level-level.result.now c.internals-internal-items.result.now c.loop-internal.internal-index _ (ap nodes c.level-level.ensures) c.keeps.ensures.ends_are_nodes
    c.internals-internal-items.ensures c.loop-internal-test.true).1

pub join_pair-requires-clause-long : goal.join_pair-requires-clause-long
join_pair-requires-clause-long c = c.loop-internal.invariant.long ∙ c.requires

pub loop-internal-init : goal.loop-internal-init
loop-internal-init c = record { long = refl; joined = λ pairs labels. (let P : List (ℕ × ℕ) → Type 0 = λ z. AreLabelsOf (graph (length (nodes c.args.indices.now)) z) c.args.joiner.now in subst P (sym (append-nil pairs)) labels) }

pub loop-internal-preserved : goal.loop-internal-preserved
unfolding ends
loop-internal-preserved c =
    let items = c.internals-internal-items.result.now in
    let i = c.loop-internal.internal-index in
    let none : Internal = record { node1 = 0; node2 = 0 } in
    let at : Internal = get_or items i none in
    let by_index : ℕ × ℕ → ℕ × ℕ = pair_by_index (nodes c.args.indices.now) in
    let its_ends : Internal → ℕ × ℕ = λ n. ends (internal_edge n) in
    let ends_so_far : List (ℕ × ℕ) = map its_ends (take i items) in
    let so_far : List (ℕ × ℕ) = map by_index ends_so_far in
    let one : List (ℕ × ℕ) = its_ends at ∷ [] in
    let more : so_far ++ map by_index one ≡ map by_index (map its_ends (take (i + 1) items)) =
    sym (map-append by_index ends_so_far one) ∙ ap (map by_index) (map_next its_ends items i at c.loop-internal-test.true (get_or_any items i none at c.loop-internal-test.true)) in
    record {
      long = c.join_pair.ensures.long ∙ c.loop-internal.invariant.long;
      joined = λ pairs labels. (let P : List (ℕ × ℕ) → Type 0 = λ z. AreLabelsOf (graph (length (nodes c.args.indices.now)) z) c.join_pair.new.joiner in
          subst P
          (append_assoc pairs so_far (map by_index one) ∙ ap (λ z. pairs ++ z) more)
          (c.join_pair.ensures.joined (pairs ++ so_far) (c.loop-internal.invariant.joined pairs labels)));
    }
