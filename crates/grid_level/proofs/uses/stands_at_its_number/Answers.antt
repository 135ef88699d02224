use Rattle.std.proofs.Common.{sym}
use Rattle.std.proofs.lemmas.Bool.{ltb-true, eqb-true}
use Rattle.grid_level.specs.declared.uses.Use.{Use}
use Rattle.grid_level.specs.Uses.{used_nodes}
use Rattle.grid_level.proofs.Places.{place_where}
use Rattle.grid_level.proofs.uses.stands_at_its_number.Goals as goal

pub returns-in-Some-clause-place : goal.returns-in-Some-clause-place
unfolding used_nodes
returns-in-Some-clause-place c = λ here.
    let look = (c.in-Some.ensures).lookup in
    place_where (λ (u : Use). u.node) c.args.node c.args.uses.now c.args.node c.in-Some.found.now c.requires (ltb-true _ _ (sym look.0)) look.1 (eqb-true _ _ here)
