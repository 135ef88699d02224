use Rattle.std.proofs.Common.{sym, ap, ◌∙◌}
use Rattle.grid_level.specs.VoltageLevel.{VoltageLevel}
use Rattle.grid_level.specs.Passing.{nodes}
use Rattle.grid_connect.specs.Indexed.{marked_busbar}
use Rattle.grid_connect.proofs.CoreExits.{bar_start, bar_found, bar_on}
use Rattle.grid_connect.proofs.joined.first_busbar.Goals as goal

pub loop-placed-init : goal.loop-placed-init
loop-placed-init c = bar_start (nodes c.args.indices.now) c.args.marks.now c.placed-placed-items.result.now

pub returns-then-is_marked_busbar : goal.returns-then-is_marked_busbar
returns-then-is_marked_busbar c =
    sym (ap (marked_busbar (nodes c.args.indices.now) c.args.marks.now) (sym (c.placed-placed-items.ensures ∙ ap (λ (l : VoltageLevel). l.placed) c.level-level.ensures))
    ∙ bar_found (nodes c.args.indices.now) c.args.marks.now c.placed-placed-items.result.now c.loop-placed.placed-index c.placed-item.result c.loop-placed-test.true c.placed-item.is c.loop-placed.invariant
    (sym c.is_marked_busbar.ensures ∙ c.if-is_marked_busbar.true))

pub loop-placed-preserved : goal.loop-placed-preserved
loop-placed-preserved c =
    bar_on (nodes c.args.indices.now) c.args.marks.now c.placed-placed-items.result.now c.loop-placed.placed-index c.placed-item.result c.loop-placed-test.true c.placed-item.is c.loop-placed.invariant
    (sym c.is_marked_busbar.ensures ∙ c.if-is_marked_busbar.false)
