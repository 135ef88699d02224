use Rattle.std.proofs.Common.{sym, ap, ◌∙◌}
use Rattle.grid_level.specs.Passing.{nodes}
use Rattle.grid_connect.specs.Indexed.{labelled_busbar}
use Rattle.grid_connect.proofs.CoreExits.{labelled_none, labelled_found, labelled_on}
use Rattle.grid_connect.proofs.joined.has_busbar.Goals as goal

pub loop-placed-init : goal.loop-placed-init
loop-placed-init c = labelled_none (nodes c.args.level.now) c.args.labels.now c.args.own c.placed-placed-items.result.now

pub returns-then-is_labelled_busbar : goal.returns-then-is_labelled_busbar
returns-then-is_labelled_busbar c =
    sym (ap (labelled_busbar (nodes c.args.level.now) c.args.labels.now c.args.own) (sym c.placed-placed-items.ensures)
    ∙ labelled_found (nodes c.args.level.now) c.args.labels.now c.args.own c.placed-placed-items.result.now c.loop-placed.placed-index c.placed-item.result c.is_labelled_busbar.result c.loop-placed-test.true c.placed-item.is
    c.is_labelled_busbar.ensures c.if-is_labelled_busbar.true)

pub loop-placed-preserved : goal.loop-placed-preserved
loop-placed-preserved c =
    labelled_on (nodes c.args.level.now) c.args.labels.now c.args.own c.placed-placed-items.result.now c.loop-placed.placed-index c.placed-item.result c.is_labelled_busbar.result c.loop-placed-test.true c.placed-item.is
    c.is_labelled_busbar.ensures c.loop-placed.invariant c.if-is_labelled_busbar.false
