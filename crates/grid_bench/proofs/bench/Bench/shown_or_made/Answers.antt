use Rattle.std.proofs.Common.{ap, ◌∙◌}
use Rattle.grid_bench.proofs.EqualViews.{view_in}
use Rattle.grid_bench.proofs.bench.Bench.shown_or_made.Goals as goal

pub show-requires : goal.show-requires
show-requires c =
    view_in c.args.self.now c.args.level.now c.args.opened.now c.args.retained.now c.id-2.result.now c.in_ok-watts.watts c.args.powers.now c.in_ok-copy.field-0 c.in_ok-view.view c.id-2.ensures c.in_ok-watts.ensures c.in_ok-copy.ensures
    c.requires.powers c.requires.kept c.in_ok-view.ensures
