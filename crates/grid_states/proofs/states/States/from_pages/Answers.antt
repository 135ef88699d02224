use Rattle.grid_states.specs.Rows.{rows_in}
use Rattle.grid_states.proofs.PageOrder.{rows_more}
use Rattle.grid_states.proofs.states.States.from_pages.Goals as goal

pub loop-page-init : goal.loop-page-init
unfolding rows_in
loop-page-init c = c.in_ok-states.ensures

pub loop-page-preserved : goal.loop-page-preserved
loop-page-preserved c =
    rows_more c.args.pages.now c.loop-page.page-index c.level_count-last.result c.page-item.result c.in_ok-copy.field-0 c.loop-page.states c.in_ok-states-2.states c.loop-page-test.true c.page-item.is c.in_ok-copy.ensures
    c.loop-page.invariant c.level_count-last.ensures.opened c.level_count-last.ensures.retained c.level_count-last.ensures.watts c.in_ok-states-2.ensures
