use Rattle.std.proofs.Common.{ℕ, List, Bool, arith, length, sym, subst}
use Rattle.grid_paths.specs.Routes.{EndsBelow}
use Rattle.grid_paths.specs.Search.{cost_at}
use Rattle.grid_paths.proofs.RouteCosts.{Leads_below, Leads_weight, weight_positive}
use Rattle.grid_paths.proofs.CostWalks.{walked_more, walked_all, walk_ends}
use Rattle.grid_paths.proofs.walk.Goals as goal

pub loop-next-preserved : goal.loop-next-preserved
loop-next-preserved g c =
    let edges = g.N.PathNet.edges c.args.net.now in
    let next = c.in-Some.next in
    let (weight, leads, tight, least) = c.in-Some.ensures in
    let below = Leads_below edges (g.N.PathNet.nodes c.args.net.now) c.loop-next.node next.edge next.node weight c.ends_below.ensures leads in
    record {
      below = omega (arith, below, c.requires.long);
      walked = λ goals. rw c.in_ok-push.ensures.ok
          (walked_more edges goals c.args.found.now c.args.from c.loop-next.node c.loop-next.path next c.in-Some.ensures (c.loop-next.invariant.walked goals));
    }

pub loop-next-smaller : goal.loop-next-smaller
loop-next-smaller g c =
    let edges = g.N.PathNet.edges c.args.net.now in
    let next = c.in-Some.next in
    let (weight, leads, tight, least) = c.in-Some.ensures in
    let w = Leads_weight edges c.loop-next.node next.edge next.node weight leads in
    let positive = weight_positive edges next.edge in
    omega (arith, w, positive, tight)

pub returns : goal.returns
returns g c goals least small =
    let edges = g.N.PathNet.edges c.args.net.now in
    let w = c.loop-next.invariant.walked goals in
    let low = w.0 in
    let P : ℕ → Type 0 = λ n. EndsBelow edges n in
    walked_all edges goals c.args.found.now c.args.from c.loop-next.node c.loop-next.path
    (walk_ends edges goals c.args.found.now (cost_at c.args.found.now c.args.from) c.loop-next.node c.loop-next.invariant.below (subst P (sym c.requires.long) c.ends_below.ensures) least
    (omega (arith, low, small)) low c.in_default.ensures) w
