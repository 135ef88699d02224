use Rattle.std.proofs.Common.{ℕ, List, length, sym, subst, refl}
use Rattle.grid_level.specs.VoltageLevel.{VoltageLevel}
use Rattle.grid_level.specs.Passing.{nodes, positioned}
use Rattle.grid_groups.proofs.PassingEdges.{nodes-positioned}
use Rattle.grid_paths.specs.Routes.{EndsBelow}
use Rattle.grid_connect.specs.Indexed.{path_edges_of}
use Rattle.grid_connect.proofs.Lists.{ends_below}
use Rattle.grid_connect.proofs.paths.LevelPathsPathNet.ends_below.Goals as goal

pub returns : goal.returns
returns c =
    let level = c.self.inside.level.now in
    let states = c.self.inside.states.now in
    let P : VoltageLevel → Type 0 = λ z. EndsBelow (path_edges_of z) (length (nodes z)) in
    let Q : List ℕ → Type 0 = λ z. EndsBelow (path_edges_of (positioned level states)) (length z) in
    subst P c.self.view_is (subst Q (sym (nodes-positioned level states)) (ends_below level states (path_edges_of (positioned level states)) c.keeps.ensures c.self.invariant.flags refl))
