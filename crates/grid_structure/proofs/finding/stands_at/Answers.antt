use Rattle.std.proofs.Common.{◌≡◌, sym, ◌∙◌, Some, rules}
use Rattle.std.specs.Prelude.{find, ◌==◌}
use Rattle.grid_level.specs.declared.Placed.{Placed}
use Rattle.grid_level.specs.Passing.{placed_at, stands_at}
use Rattle.grid_structure.proofs.OneNode.{found_stands}
use Rattle.grid_structure.proofs.finding.stands_at.Goals as goal

pub returns-in-Some : goal.returns-in-Some
unfolding placed_at stands_at
returns-in-Some c = λ h.
    let found : find (λ (q : Placed). q.node == c.args.node) c.args.level.now.placed ≡ Some c.in-Some.placed.now = sym c.placed_at.ensures ∙ search rules in
    found_stands c.args.id.now c.args.side c.args.node c.in-Some.placed.now c.args.level.now.placed found (sym c.is_side.ensures ∙ h)
