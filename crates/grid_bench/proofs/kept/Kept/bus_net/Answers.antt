use Rattle.std.proofs.Common.{◌≡◌, ap, ◌∙◌, subst, sym}
use Rattle.grid_graph.specs.Graph.{labels_of}
use Rattle.grid_queue.specs.Net.{passing_graph}
use Rattle.grid_groups.specs.Nets.{net_where, closed_flags}
use Rattle.grid_bench.specs.Contents.{Content}
use Rattle.grid_bench.proofs.kept.Kept.bus_net.Goals as goal

pub returns-clause-net : goal.returns-clause-net
returns-clause-net c =
    let P : Content → Type 0 = λ z. c.bus_net.result.net.now ≡ net_where z.level (closed_flags z.opened) in
    subst P c.self.view_is (c.bus_net.ensures.net ∙ c.self.invariant.bus_net)

pub returns-clause-labels : goal.returns-clause-labels
returns-clause-labels c = c.bus_net.ensures.labels ∙ ap (λ z. labels_of (passing_graph z)) (sym c.bus_net.ensures.net)
