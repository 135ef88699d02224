use Rattle.std.proofs.Common.{◌<◌, length, ap, sym, subst, arith}
use Rattle.grid_level.specs.VoltageLevel.{VoltageLevel}
use Rattle.grid_level.specs.Passing.{nodes, positioned}
use Rattle.grid_groups.proofs.PassingEdges.{nodes-positioned}
use Rattle.grid_queue.specs.Net.{NetShape}
use Rattle.grid_paths.specs.Routes.{all_ends}
use Rattle.grid_paths.specs.Search.{AreNexts}
use Rattle.grid_connect.specs.Indexed.{path_edges_of}
use Rattle.grid_connect.proofs.Ways.{level_nexts}
use Rattle.grid_connect.proofs.paths.LevelPathsPathNet.nexts.Goals as goal

pub nexts-requires : goal.nexts-requires
nexts-requires c =
    let level = c.self.inside.level.now in
    let states = c.self.inside.states.now in
    let P : VoltageLevel → Type 0 = λ z. c.args.node < length (nodes z) in
    let below : c.args.node < length (nodes (positioned level states)) = subst P (sym c.self.view_is) c.requires in
    let same = ap length (nodes-positioned level states) in
    let many = ap (λ (z : NetShape). z.nodes) c.self.invariant.same in
    omega (arith, below, same, many)

pub returns : goal.returns
returns c =
    let inside = c.self.inside in
    let P : VoltageLevel → Type 0 = λ z. AreNexts (all_ends (path_edges_of z)) c.args.node c.nexts.result.now in
    subst P c.self.view_is (level_nexts inside.level.now inside.states.now inside.net.now c.args.node c.nexts.result.now c.self.invariant c.nexts.ensures.nexts)
