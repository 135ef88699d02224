use Rattle.std.proofs.Common.{ap, ◌∙◌, rules}
use Rattle.std.proofs.lemmas.Int.{to_z-of_z}
use mir.Syntax.{w128}
use mir.Val.{SFits}
use Rattle.grid_states.specs.Order.{rows_of}
use Rattle.grid_states.proofs.states.States.load.Goals as goal

pub returns : goal.returns
unfolding rows_of
returns c =
    let fits : SFits w128 c.self.inside.load = search rules in
    to_z-of_z w128 c.self.inside.load fits ∙ ap (λ r. r.load) c.self.view_is
