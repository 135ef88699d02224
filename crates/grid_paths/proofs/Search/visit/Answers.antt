use Rattle.grid_paths.proofs.CallAnswers.{OnOk_then}
use Rattle.grid_paths.proofs.PathSearches.{visits_edges, found_here}
use Rattle.std.proofs.Common.{◌∙◌}
use Rattle.grid_paths.proofs.Search.visit.Goals as goal

pub returns : goal.returns
returns g c =
    let before = c.args.self.now in
    let after = c.spread.new.self in
    let here = found_here before.found.items c.args.node c.index.result.now c.requires.node c.index.ensures in
    OnOk_then c.spread.result _ _ c.spread.ensures
    (visits_edges (g.N.PathNet.edges c.args.net.now) c.args.from c.args.cost c.args.node before.found.items before.front
    after.found.items after.front c.requires.node (here ∙ c.if-index-cost.false))
