use Rattle.std.proofs.Common.{◌≡◌, ap, ◌∙◌, rules}
use Rattle.grid_core.specs.History.{History}
use Rattle.grid_board.specs.Edits.{edits_asked}
use Rattle.grid_board.proofs.Edits.{still_taken}
use Rattle.grid_board.proofs.board.Board.commit_since.Goals as goal

pub put-requires-clause-known : goal.put-requires-clause-known
put-requires-clause-known c = λ t.
    let same : c.args.edits ≡ c.self.inside.edits = search (rules, t) in
    still_taken c.args.self.now c.args.worker c.args.request.now c.args.answer.base c.args.answer.task c.args.edits c.requires.since
    (same ∙ c.self.invariant ∙ ap (λ (h : History). edits_asked h.steps) c.self.view_is)
