use Rattle.grid_core.proofs.RowMoves.{all_touched}
use Rattle.grid_core.proofs.kept.Kept.touched_by.Goals as goal

pub returns-then-is_empty-2-clause-moved : goal.returns-then-is_empty-2-clause-moved
returns-then-is_empty-2-clause-moved c = all_touched c.args.structure.now c.args.request.now
