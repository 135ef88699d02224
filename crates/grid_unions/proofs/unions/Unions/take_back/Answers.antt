use Rattle.std.proofs.Common.{◌≤◌, ℕ, Option, length, reverse, subst, arith}
use Rattle.grid_unions.specs.Unions.{before_join, AreRight}
use Rattle.grid_unions.specs.Trees.{unhung}
use Rattle.grid_unions.proofs.JoinReversals.{before_newest, roots_few}
use Rattle.grid_unions.proofs.unions.Unions.take_back.Goals as goal

pub take_back-top-requires-clause-roots : goal.take_back-top-requires-clause-roots
take_back-top-requires-clause-roots c =
    let u = c.self.inside in
    let count : ℕ = length u.forest.parents in
    let P : Option ℕ → Type 0 = λ h. AreRight count (reverse c.pop.new.self) (before_join u.forest h) in
    let r = before_newest count u.joins c.pop.new.self c.in-Some.join u.forest c.in-Some.ensures.item c.self.invariant.1.0 in
    let few : (unhung u.forest c.in-Some-hung.low).roots ≤ count = roots_few count (reverse c.pop.new.self) (unhung u.forest c.in-Some-hung.low) (subst P c.in-Some-hung.is r.1) in
    omega (arith, few, c.self.invariant.0)
