use Rattle.std.proofs.Common.{◌≡◌, sym, ap, ◌∙◌, subst, ℕ, List, length, arith}
use Rattle.std.specs.Prelude.{All}
use Rattle.grid_level.specs.VoltageLevel.{VoltageLevel}
use Rattle.grid_level.specs.Passing.{nodes}
use Rattle.grid_level.specs.Kept.{KeepsLimits}
use Rattle.grid_queue.specs.declared.net.NetEdge.{NetEdge}
use Rattle.grid_queue.specs.Net.{EndsFit}
use Rattle.grid_groups.specs.Nets.{net_edges}
use Rattle.grid_groups.proofs.NetEdges.{net_edges_fit, net_edges_few}
use Rattle.grid_groups.proofs.nets.net_of.Goals as goal

pub build-requires-clause-ends : goal.build-requires-clause-ends
build-requires-clause-ends g c =
    let level = c.args.indices.now in
    let keeps : KeepsLimits level = let P : VoltageLevel → Type 0 = λ z. KeepsLimits z in subst P c.level-level.ensures c.keeps.ensures in
    let made : c.deref.result.now ≡ net_edges level c.args.passes.now = c.deref.ensures.value ∙ c.in_ok-edges.ensures in
    let count : c.node_count.result ≡ length (nodes level) = c.node_count.ensures ∙ ap (λ z. length (nodes z)) c.level-level.ensures in
    let P : List NetEdge → Type 0 = λ z. All (EndsFit c.node_count.result) z in
    let Q : ℕ → Type 0 = λ z. All (EndsFit z) (net_edges level c.args.passes.now) in
    subst P (sym made) (subst Q (sym count) (net_edges_fit level c.args.passes.now keeps c.requires))

pub build-requires-clause-few : goal.build-requires-clause-few
build-requires-clause-few g c =
    let level = c.args.indices.now in
    let keeps : KeepsLimits level = let P : VoltageLevel → Type 0 = λ z. KeepsLimits z in subst P c.level-level.ensures c.keeps.ensures in
    let made : c.deref.result.now ≡ net_edges level c.args.passes.now = c.deref.ensures.value ∙ c.in_ok-edges.ensures in
    omega (arith, ap length made, net_edges_few level c.args.passes.now keeps c.requires)
