use Rattle.std.proofs.Common.{ap, ◌∙◌, arith}
use Rattle.std.specs.Prelude.{position, ◌==◌}
use Rattle.grid_level.proofs.CodePromises.{used_is, nodes_counted}
use Rattle.grid_level.proofs.Level.index_of.Goals as goal

pub overflow_cast-result : goal.overflow_cast-result
overflow_cast-result c = omega (arith, nodes_counted _ _ c.self.invariant, c.self.invariant.within.few_nodes, c.in-Some.ensures.bound)

pub returns-in-Some : goal.returns-in-Some
returns-in-Some c = rw (← c.self.view_is) (c.in-Some.ensures.value ∙ ap (position (λ m. m == c.args.node)) (used_is _ _ c.self.invariant))

pub returns-in-None : goal.returns-in-None
returns-in-None c = rw (← c.self.view_is) (c.in-None.ensures.value ∙ ap (position (λ m. m == c.args.node)) (used_is _ _ c.self.invariant))
