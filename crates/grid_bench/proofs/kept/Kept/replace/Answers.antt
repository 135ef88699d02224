use Rattle.std.proofs.Common.{◌≡◌, subst, sym, Bool, IsTrue}
use Rattle.grid_level.specs.VoltageLevel.{VoltageLevel}
use Rattle.grid_bench.specs.Contents.{Content}
use Rattle.grid_bench.specs.Ends.{SameEnds}
use Rattle.grid_bench.specs.Shown.{LookSame}
use Rattle.grid_bench.proofs.Alike.{kept_as}
use Rattle.grid_bench.proofs.EqualViews.{shown_as}
use Rattle.grid_bench.proofs.kept.Kept.replace.Goals as goal

look_as : (level other got given : VoltageLevel) (stays : Bool) → got ≡ level → given ≡ other → (IsTrue stays → LookSame got given) → IsTrue stays → LookSame level other
look_as level other got given stays e f look t =
    let P : VoltageLevel → Type 0 = λ z. LookSame z other in
    let Q : VoltageLevel → Type 0 = λ z. LookSame got z in
    subst P e (subst Q f (look t))

pub invariant_of-self : goal.invariant_of-self
invariant_of-self c =
    let k = c.self.inside in
    let P : Content → Type 0 = λ z. SameEnds z.level c.args.level in
    let same = subst P (sym c.self.view_is) c.requires in
    kept_as k.level c.args.level k.opened.items k.retained.items k.nets.bus k.nets.breaker k.shown c.keep_where.new.shown same
    (shown_as k.level c.args.level k.opened.items k.retained.items k.shown c.keep_where.new.shown c.shows_same-stays.result c.self.invariant.fits.opened same
    (look_as k.level c.args.level c.get.result.now c.get-2.result.now c.shows_same-stays.result c.get.ensures c.get-2.ensures c.shows_same-stays.ensures) c.keep_where.ensures c.self.invariant.view)
    c.self.invariant
