use Rattle.std.proofs.Common.{refl}
use Rattle.grid_ids.proofs.Alike.{stands}
use Rattle.grid_core.specs.History.{live, is_live}
use Rattle.grid_configured.specs.Reports.{variant_view}
use Rattle.grid_configured.proofs.replay.view_variant.Goals as goal

pub level_views-requires-clause-live : goal.level_views-requires-clause-live
unfolding is_live
level_views-requires-clause-live c = stands (live c.args.world.now.steps) c.args.place c.variant_name-name.result.now c.variant_name-name.ensures

pub returns : goal.returns
unfolding variant_view
returns c = rw (c.variant_name-name.ensures, c.in_ok-copy.ensures, c.in_ok-views.ensures) refl
