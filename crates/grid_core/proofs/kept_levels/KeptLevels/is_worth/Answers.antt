use Rattle.std.proofs.Common.{ap, ◌∙◌, length}
use Rattle.grid_core.proofs.VariantViews.{fits_at}
use Rattle.grid_core.proofs.kept_levels.KeptLevels.is_worth.Goals as goal

pub opened_row-requires : goal.opened_row-requires
opened_row-requires c = (fits_at c.args.structure.now c.args.states.now.opened c.args.place c.level-level.result.now c.requires.opened c.level-level.ensures).0

pub retained_row-requires : goal.retained_row-requires
retained_row-requires c = (fits_at c.args.structure.now c.args.states.now.opened c.args.place c.level-level.result.now c.requires.opened c.level-level.ensures).0

pub follows-requires-clause-opened : goal.follows-requires-clause-opened
follows-requires-clause-opened c = ap length c.opened_row.ensures ∙ (fits_at c.args.structure.now c.args.states.now.opened c.args.place c.level-level.result.now c.requires.opened c.level-level.ensures).1

pub follows-requires-clause-retained : goal.follows-requires-clause-retained
follows-requires-clause-retained c = ap length c.retained_row.ensures ∙ (fits_at c.args.structure.now c.args.states.now.retained c.args.place c.level-level.result.now c.requires.retained c.level-level.ensures).1
