use Rattle.std.proofs.Common.{◌∙◌}
use Rattle.grid_paths.proofs.CallAnswers.{OnOk_then}
use Rattle.grid_paths.proofs.PathSearches.{begin_goal, begin_other}
use Rattle.grid_paths.proofs.Search.begin.Goals as goal

pub returns-then-not-goal : goal.returns-then-not-goal
returns-then-not-goal c goals same s = begin_other goals c.args.node c.args.self.now.found.items c.args.self.now.front (same ∙ c.if-not-goal.true) s

pub returns : goal.returns
returns c =
    let before = c.args.self.now in
    OnOk_then c.put.result _ _ c.put.ensures
    (λ p goals same s. begin_goal goals c.args.node before.found.items before.front c.put.new.self c.requires (same ∙ c.if-not-goal.false) p s)
