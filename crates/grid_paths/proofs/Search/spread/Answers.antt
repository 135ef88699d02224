use Rattle.std.proofs.Common.{arith}
use Rattle.grid_paths.proofs.Nexts.{next_in, next_at, next_on, next_within, next_below}
use Rattle.grid_paths.proofs.PathSearches.{spreads_none, spreads_more, spreads_all}
use Rattle.grid_paths.proofs.Search.spread.Goals as goal

pub take-requires-clause-edge : goal.take-requires-clause-edge
take-requires-clause-edge g c =
    let edges = g.N.PathNet.edges c.args.net.now in
    let nexts = c.nexts-next-items.result.now in
    let k = c.loop-next.next-index in
    next_within edges c.args.node (next_in nexts k) (next_on edges c.args.node nexts k c.nexts-next-items.ensures c.loop-next-test.true)

pub take-requires-clause-node : goal.take-requires-clause-node
take-requires-clause-node g c =
    let edges = g.N.PathNet.edges c.args.net.now in
    let nexts = c.nexts-next-items.result.now in
    let k = c.loop-next.next-index in
    let on = next_on edges c.args.node nexts k c.nexts-next-items.ensures c.loop-next-test.true in
    let below = next_below edges (g.N.PathNet.nodes c.args.net.now) c.args.node (next_in nexts k) c.ends_below.ensures on in
    omega (arith, below, c.requires.long, c.loop-next.invariant.long)

pub loop-next-init : goal.loop-next-init
loop-next-init g c =
    let before = c.args.self.now in
    spreads_none (g.N.PathNet.edges c.args.net.now) c.args.node c.args.cost c.nexts-next-items.result.now before.found.items before.front

pub loop-next-preserved : goal.loop-next-preserved
loop-next-preserved g c =
    let edges = g.N.PathNet.edges c.args.net.now in
    let before = c.args.self.now in
    let here = c.loop-next.self in
    let after = c.take.new.self in
    let nexts = c.nexts-next-items.result.now in
    let k = c.loop-next.next-index in
    let on = next_on edges c.args.node nexts k c.nexts-next-items.ensures c.loop-next-test.true in
    let below = next_below edges (g.N.PathNet.nodes c.args.net.now) c.args.node (next_in nexts k) c.ends_below.ensures on in
    spreads_more edges c.args.node c.args.cost nexts k (next_in nexts k) before.found.items before.front here.found.items here.front after.found.items after.front
    (next_at nexts k c.loop-next-test.true) on (omega (arith, below, c.requires.long, c.loop-next.invariant.long)) c.in_ok-take.ensures c.loop-next.invariant

pub returns : goal.returns
returns g c =
    let before = c.args.self.now in
    let after = c.loop-next.self in
    spreads_all (g.N.PathNet.edges c.args.net.now) c.args.node c.args.cost c.nexts-next-items.result.now c.loop-next.next-index before.found.items before.front
    after.found.items after.front c.nexts-next-items.ensures (omega (arith, c.loop-next-test.false)) c.loop-next.invariant
