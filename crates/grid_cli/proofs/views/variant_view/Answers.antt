use Rattle.std.proofs.Common.{refl}
use Rattle.grid_ids.proofs.Alike.{stands}
use Rattle.grid_core.specs.History.{live, is_live}
use Rattle.grid_report.specs.Histories.{variant_view}
use Rattle.grid_cli.proofs.views.variant_view.Goals as goal

pub all_views-requires-clause-live : goal.all_views-requires-clause-live
unfolding is_live
all_views-requires-clause-live c = stands (live c.args.world.now.steps) c.args.place c.variant_name-name.result.now c.variant_name-name.ensures

pub returns-clause-view : goal.returns-clause-view
unfolding variant_view
returns-clause-view c = rw (c.variant_name-name.ensures, c.in_ok-copy.ensures, c.in_ok-views.ensures.views) refl
