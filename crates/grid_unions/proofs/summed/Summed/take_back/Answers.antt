use Rattle.std.proofs.Common.{reverse}
use Rattle.grid_unions.specs.Summed.{sums_before}
use Rattle.grid_unions.proofs.ClassSums.{before_newest}
use Rattle.grid_unions.proofs.summed.Summed.take_back.Goals as goal

pub set-requires : goal.set-requires
set-requires c =
    let u = c.self.inside in
    before_newest u.unions.nodes u.unions.pairs (sums_before u.sums (reverse u.replaced)) u.replaced c.pop.new.self c.in-Some.replaced u.sums c.in-Some.ensures.item c.self.invariant
