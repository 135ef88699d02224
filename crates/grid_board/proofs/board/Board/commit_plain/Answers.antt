use Rattle.std.proofs.Common.{◌≡◌, suc, length, ap, arith}
use Rattle.grid_core.specs.History.{History, command}
use Rattle.grid_board.proofs.Boards.{board_same, board_edited, board_stepped}
use Rattle.grid_board.proofs.Edits.{edits_within}
use Rattle.grid_board.proofs.board.Board.commit_plain.Goals as goal

pub invariant_of-self : goal.invariant_of-self
invariant_of-self c = board_same c.self.inside.world c.step.new.self c.self.inside.edits c.in_err-reply.ensures.err c.self.invariant

pub invariant_of-self-in-Change : goal.invariant_of-self-in-Change
invariant_of-self-in-Change c =
    board_edited c.self.inside.world c.step.new.self c.self.inside.edits (command c.args.worker c.args.request.now) _ c.in-Change.is c.in_ok-reply.ensures.ok c.self.invariant

pub invariant_of-self-in_default : goal.invariant_of-self-in_default
invariant_of-self-in_default c =
    board_stepped c.self.inside.world c.step.new.self c.self.inside.edits (command c.args.worker c.args.request.now) c.in_default.not-Change c.in_ok-reply.ensures.ok c.self.invariant

pub overflow_add-self : goal.overflow_add-self
overflow_add-self c =
    let within = edits_within c.self.inside.world.steps in
    let long : length c.step.new.self.steps ≡ suc (length c.self.inside.world.steps) = ap (λ (h : History). length h.steps) c.in_ok-reply.ensures.ok in
    omega (arith, c.self.invariant, within, long, c.length.ensures.length, c.length.ensures.room)
