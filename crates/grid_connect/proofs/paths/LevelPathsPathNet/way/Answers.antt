use Rattle.std.proofs.Common.{◌≡◌, Some, false, sym, ◌∙◌, subst, arith}
use Rattle.std.specs.Prelude.{slice_get}
use Rattle.grid_level.specs.VoltageLevel.{VoltageLevel}
use Rattle.grid_connect.specs.Indexed.{path_edges_of}
use Rattle.grid_connect.proofs.Ways.{way_past, way_at}
use Rattle.grid_connect.proofs.paths.LevelPathsPathNet.way.Goals as goal

pub returns-then-place-self : goal.returns-then-place-self
returns-then-place-self c edge e =
    let inside = c.self.inside in
    let P : VoltageLevel → Type 0 = λ z. slice_get (path_edges_of z) c.args.place ≡ Some edge in
    way_past inside.level.now inside.states.now c.args.place edge c.self.invariant.flags (omega (arith, c.if-place-self.true)) (subst P (sym c.self.view_is) e)

pub returns : goal.returns
returns c edge e =
    let inside = c.self.inside in
    let P : VoltageLevel → Type 0 = λ z. slice_get (path_edges_of z) c.args.place ≡ Some edge in
    c.way_of.ensures ∙ way_at inside.level.now inside.states.now c.args.place edge c.switch.result.now false c.self.invariant.flags c.switch.ensures (subst P (sym c.self.view_is) e)
