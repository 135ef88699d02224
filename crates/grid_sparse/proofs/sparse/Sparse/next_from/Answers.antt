use Rattle.grid_sparse.proofs.Places.{few}
use Rattle.grid_sparse.proofs.Pairs.{first_from, none_from}
use Rattle.grid_sparse.proofs.sparse.Sparse.next_from.Goals as goal

pub returns-in-Some-clause-first : goal.returns-in-Some-clause-first
returns-in-Some-clause-first g c =
    first_from c.self.inside.held c.self.inside.count c.args.place c.self.invariant.1 c.args.self.now c.range.result c.next.new.self c.in-Some.first.now c.in-Some.field-0-1.now c.self.view_is c.in-Some.ensures.steps (c.range.ensures.in_range tt)

pub returns-in-None-clause-none : goal.returns-in-None-clause-none
returns-in-None-clause-none g c =
    none_from c.self.inside.held c.self.inside.count c.args.place c.self.invariant.1 c.args.self.now c.range.result c.self.view_is c.in-None.ensures.steps.0 (c.range.ensures.in_range tt)

pub returns-in-Some-clause-few : goal.returns-in-Some-clause-few
returns-in-Some-clause-few g c = few c.self.inside.held c.self.inside.count c.args.self.now c.self.view_is c.self.invariant.0

pub returns-in-None-clause-few : goal.returns-in-None-clause-few
returns-in-None-clause-few g c = few c.self.inside.held c.self.inside.count c.args.self.now c.self.view_is c.self.invariant.0
