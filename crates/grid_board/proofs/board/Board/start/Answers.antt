use Rattle.grid_board.proofs.Boards.{board_begun}
use Rattle.grid_board.proofs.board.Board.start.Goals as goal

pub invariant_of-result : goal.invariant_of-result
invariant_of-result c = board_begun c.in_ok-start.field-0 c.args.structure c.args.workers c.in_ok-start.ensures
