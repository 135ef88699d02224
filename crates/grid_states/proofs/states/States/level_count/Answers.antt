use Rattle.std.proofs.Common.{◌∙◌}
use Rattle.grid_states.proofs.PageOrder.{levels_are, levels_are_retained, levels_are_watts}
use Rattle.grid_states.proofs.states.States.level_count.Goals as goal

pub returns-clause-opened : goal.returns-clause-opened
returns-clause-opened c = c.len.ensures ∙ levels_are _ _ _ _ _ c.self.view_is

pub returns-clause-retained : goal.returns-clause-retained
returns-clause-retained c = c.len.ensures ∙ levels_are_retained _ _ _ _ _ c.self.view_is

pub returns-clause-watts : goal.returns-clause-watts
returns-clause-watts c = c.len.ensures ∙ levels_are_watts _ _ _ _ _ c.self.view_is
