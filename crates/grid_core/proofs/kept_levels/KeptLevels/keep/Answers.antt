use Rattle.std.proofs.Common.{ap, ◌∙◌, length}
use Rattle.grid_core.proofs.VariantViews.{fits_at}
use Rattle.grid_core.proofs.kept_levels.KeptLevels.keep.Goals as goal

pub opened_row-requires : goal.opened_row-requires
opened_row-requires c = (fits_at c.args.structure.now c.args.states.now.opened c.args.place c.in_ok-level.level c.requires.opened c.in_ok-level.ensures.level).0

pub retained_row-requires : goal.retained_row-requires
retained_row-requires c = (fits_at c.args.structure.now c.args.states.now.opened c.args.place c.in_ok-level.level c.requires.opened c.in_ok-level.ensures.level).0

pub keep-requires-clause-opened : goal.keep-requires-clause-opened
keep-requires-clause-opened c = ap length c.opened_row.ensures ∙ (fits_at c.args.structure.now c.args.states.now.opened c.args.place c.in_ok-level.level c.requires.opened c.in_ok-level.ensures.level).1

pub keep-requires-clause-retained : goal.keep-requires-clause-retained
keep-requires-clause-retained c = ap length c.retained_row.ensures ∙ (fits_at c.args.structure.now c.args.states.now.retained c.args.place c.in_ok-level.level c.requires.retained c.in_ok-level.ensures.level).1
