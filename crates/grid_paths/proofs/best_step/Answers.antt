use Rattle.std.proofs.Common.{arith}
use Rattle.grid_paths.proofs.Nexts.{next_in, next_at, next_on, next_within, next_below, loose_more, best_none, best_here}
use Rattle.grid_paths.proofs.best_step.Goals as goal

pub is_tight-requires-clause-edge : goal.is_tight-requires-clause-edge
is_tight-requires-clause-edge g c =
    let edges = g.N.PathNet.edges c.args.net.now in
    let nexts = c.nexts-next-items.result.now in
    let k = c.loop-next.next-index in
    next_within edges c.args.node (next_in nexts k) (next_on edges c.args.node nexts k c.nexts-next-items.ensures c.loop-next-test.true)

pub is_tight-requires-clause-node : goal.is_tight-requires-clause-node
is_tight-requires-clause-node g c =
    let edges = g.N.PathNet.edges c.args.net.now in
    let nexts = c.nexts-next-items.result.now in
    let k = c.loop-next.next-index in
    let on = next_on edges c.args.node nexts k c.nexts-next-items.ensures c.loop-next-test.true in
    let below = next_below edges (g.N.PathNet.nodes c.args.net.now) c.args.node (next_in nexts k) c.ends_below.ensures on in
    omega (arith, below, c.requires.long)

pub returns-then-is_tight : goal.returns-then-is_tight
returns-then-is_tight g c =
    let nexts = c.nexts-next-items.result.now in
    let k = c.loop-next.next-index in
    best_here (g.N.PathNet.edges c.args.net.now) nexts k c.args.node (next_in nexts k) c.args.found.now c.nexts-next-items.ensures (next_at nexts k c.loop-next-test.true)
    c.loop-next.invariant (c.is_tight.ensures.yes c.if-is_tight.true)

pub loop-next-preserved : goal.loop-next-preserved
loop-next-preserved g c =
    let nexts = c.nexts-next-items.result.now in
    let k = c.loop-next.next-index in
    loose_more (g.N.PathNet.edges c.args.net.now) nexts k (next_in nexts k) c.args.found.now _ (next_at nexts k c.loop-next-test.true) (c.is_tight.ensures.no c.if-is_tight.false) c.loop-next.invariant

pub returns : goal.returns
returns g c =
    best_none (g.N.PathNet.edges c.args.net.now) c.nexts-next-items.result.now c.loop-next.next-index c.args.node c.args.found.now c.nexts-next-items.ensures (omega (arith, c.loop-next-test.false)) c.loop-next.invariant
