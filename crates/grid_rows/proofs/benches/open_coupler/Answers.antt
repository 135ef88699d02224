use Rattle.std.proofs.Common.{refl, Bool, false, true, List, [], ◌∷◌, arith}
use Rattle.grid_bench.specs.Contents.{content}
use Rattle.grid_bench.proofs.ExampleCosts.{fourth_costs, few_changes}
use Rattle.grid_rows.proofs.benches.open_coupler.Goals as goal

pub returns-clause-visits : goal.returns-clause-visits
returns-clause-visits g c =
    let level = c.args.level.now in
    let closed : List Bool = false ∷ true ∷ false ∷ false ∷ false ∷ [] in
    let retained : List Bool = false ∷ false ∷ false ∷ true ∷ false ∷ [] in
    let opened : List Bool = false ∷ true ∷ false ∷ true ∷ false ∷ [] in
    let cost = c.refresh.ensures.visits.changed (content level closed retained) c.requires.kept refl (few_changes (content level closed retained) (content level opened retained) (omega (arith, c.requires.switches))) in
    omega (arith, cost, fourth_costs level retained false true false false false true c.requires.switches, c.requires.nodes)

pub returns-clause-writes : goal.returns-clause-writes
returns-clause-writes g c =
    let level = c.args.level.now in
    let closed : List Bool = false ∷ true ∷ false ∷ false ∷ false ∷ [] in
    let retained : List Bool = false ∷ false ∷ false ∷ true ∷ false ∷ [] in
    let opened : List Bool = false ∷ true ∷ false ∷ true ∷ false ∷ [] in
    let cost = c.refresh.ensures.writes.changed (content level closed retained) c.requires.kept refl (few_changes (content level closed retained) (content level opened retained) (omega (arith, c.requires.switches))) in
    omega (arith, cost, fourth_costs level retained false true false false false true c.requires.switches, c.requires.nodes)
