use Rattle.std.proofs.Common.{ap, ◌∙◌}
use Rattle.grid_structure.specs.Network.{Network}
use Rattle.grid_board.specs.Questions.{asked_of}
use Rattle.grid_board.proofs.PresentQuestions.{present_dead, present_asked}
use Rattle.grid_board.proofs.current.asked_by.Goals as goal

pub returns-in_err-slot-clause-asked : goal.returns-in_err-slot-clause-asked
returns-in_err-slot-clause-asked c = rw c.from_residual.ensures (present_dead c.args.world.now c.args.worker c.args.request.now c.in_err-slot.ensures)

pub returns-clause-asked : goal.returns-clause-asked
returns-clause-asked c =
    present_asked c.args.world.now c.args.worker c.args.request.now c.asked_of.result c.in_ok-slot.ensures.0 (c.asked_of.ensures.asked ∙ ap (λ (net : Network). asked_of net c.args.request.now) c.structure.ensures)
