use Rattle.std.proofs.Common.{refl}
use Rattle.grid_unions.specs.Trees.{trees}
use Rattle.grid_unions.proofs.Trees.{forest_alone}
use Rattle.grid_unions.proofs.forest.Forest.new.Goals as goal

pub returns : goal.returns
returns c =
    forest_alone c.args.count (trees c.in_ok-parents.parents.items c.in_ok-sizes.sizes.items c.args.count) c.in_ok-parents.ensures.long c.in_ok-sizes.ensures.long refl
    c.in_ok-parents.ensures.own c.in_ok-sizes.ensures.one
