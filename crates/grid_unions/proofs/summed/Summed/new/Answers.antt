use Rattle.std.proofs.Common.{rules, ◌≡◌, refl, sym, subst, List, [], length, reverse}
use Rattle.grid_graph.specs.Graph.{Graph, graph}
use Rattle.grid_unions.specs.declared.summed.Sums.{Sums}
use Rattle.grid_unions.specs.declared.summed.Replaced.{Replaced}
use Rattle.grid_unions.specs.Summed.{sums_before, AreSummed}
use Rattle.grid_unions.proofs.ClassSums.{summed_alone}
use Rattle.grid_unions.proofs.summed.Summed.new.Goals as goal

pub invariant_of-result : goal.invariant_of-result
invariant_of-result c =
    let ws : List Sums = c.args.weights.now in
    let net : Graph = graph (length ws) [] in
    let P : Graph → List Sums → List Replaced → Type 0 = λ g sums rs. AreSummed g.nodes g.pairs (sums_before sums (reverse rs)) (reverse rs) sums in
    let graphs : c.in_ok-unions.unions ≡ net = search rules in
    let sums : c.from_vec.result ≡ ws = search rules in
    subst (λ g. P g c.from_vec.result c.empty.result) (sym graphs)
    (subst (λ rs. P net c.from_vec.result rs) (sym c.empty.ensures)
    (subst (λ s. P net s []) (sym sums) (summed_alone (length ws) ws refl)))
