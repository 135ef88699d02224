use Rattle.std.proofs.lemmas.List.Sorted.{length_permutation}
use Rattle.std.proofs.Common.{◌<◌, ℕ, ◌∷◌, length, arith, subst, sym, ◌∙◌}
use Rattle.grid_paths.specs.Search.{AreInside}
use Rattle.grid_paths.proofs.PathSearches.{moved_in, moved_out_new, reordered, searched_all, started}
use Rattle.grid_paths.proofs.least_costs.Goals as goal
use Rattle.grid_paths.proofs.least_costs.Goals.{In-Some}
use Rattle.grid_paths.proofs.least_costs.Given.{Over}

within : (g : Over) (c : In-Some g) → c.in-Some.node < length c.args.goals.now
within g c =
    let next : ℕ × ℕ = (c.in-Some.cost, c.in-Some.node) in
    c.loop-cost.invariant.inside next (moved_out_new next c.loop-cost.search.front c.take.new.self c.in-Some.ensures.some)

pub loop-cost-init : goal.loop-cost-init
loop-cost-init g c = record {
  long = c.in_ok-search.ensures.long;
  inside = c.in_ok-search.ensures.inside;
  searched = started (g.N.PathNet.edges c.args.net.now) c.args.goals.now c.args.from c.in_ok-search.search.found.items c.in_ok-search.search.front c.in_ok-search.ensures;
}

pub visit-requires-clause-node : goal.visit-requires-clause-node
visit-requires-clause-node g c =
    let h = within g (goal.at.visit-requires-clause-node g c).In-Some in
    omega (arith, h, c.loop-cost.invariant.long)

pub loop-cost-preserved : goal.loop-cost-preserved
loop-cost-preserved g c =
    let goals = c.args.goals.now in
    let found = c.loop-cost.search.found.items in
    let front = c.loop-cost.search.front in
    let left = c.take.new.self in
    let next : ℕ × ℕ = (c.in-Some.cost, c.in-Some.node) in
    let p = c.in-Some.ensures.some in
    let v = c.in_ok-visit.ensures in
    let long = c.loop-cost.invariant.long in
    let P : ℕ → Type 0 = λ n. AreInside left n → AreInside c.visit.new.self.front n in
    record {
      long = v.long ∙ long;
      inside = subst P long v.inside (λ e k. c.loop-cost.invariant.inside e (moved_in next e front left p k));
      searched = v.keeps goals (reordered (g.N.PathNet.edges c.args.net.now) goals c.args.from found front _ (length goals) p c.loop-cost.invariant.searched);
    }

pub loop-cost-smaller : goal.loop-cost-smaller
loop-cost-smaller g c =
    let next : ℕ × ℕ = (c.in-Some.cost, c.in-Some.node) in
    let shorter = length_permutation c.loop-cost.search.front (next ∷ c.take.new.self) c.in-Some.ensures.some in
    omega (arith, shorter, c.in_ok-visit.ensures.falls)

pub returns : goal.returns
returns g c =
    searched_all (g.N.PathNet.edges c.args.net.now) c.args.goals.now c.args.from c.loop-cost.search.found.items c.loop-cost.search.front
    c.in_default.ensures.none c.loop-cost.invariant.searched
