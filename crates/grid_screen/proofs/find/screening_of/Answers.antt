use Rattle.grid_core.proofs.Ranges.{rows_of_levels}
use Rattle.grid_core.proofs.VariantViews.{flags_fit}
use Rattle.grid_screen.proofs.find.screening_of.Goals as goal

pub make_screening-requires-clause-rows : goal.make_screening-requires-clause-rows
make_screening-requires-clause-rows c = rows_of_levels c.args.case.now.structure c.args.case.now.states.opened c.requires

pub make_screening-requires-clause-flags : goal.make_screening-requires-clause-flags
make_screening-requires-clause-flags c = flags_fit c.args.case.now.structure c.args.case.now.states.opened c.requires
