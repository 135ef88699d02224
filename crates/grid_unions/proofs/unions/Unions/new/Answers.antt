use Rattle.std.proofs.Common.{◌<◌, ℕ, List, reverse, subst, sym, arith}
use Rattle.grid_unions.specs.declared.join.Join.{Join}
use Rattle.grid_unions.specs.Ranks.{AreRanked}
use Rattle.grid_unions.specs.Unions.{AreRight}
use Rattle.grid_unions.proofs.TreeRanks.{ranked_alone}
use Rattle.grid_unions.proofs.unions.Unions.new.Goals as goal

pub invariant_of-result : goal.invariant_of-result
invariant_of-result c =
    let forest = c.in_ok-forest.forest in
    let ranks = c.in_ok-ranks.ranks in
    let s = c.in_ok-forest.ensures in
    let fits : c.args.count < 4294967296 = omega (arith, c.ranges.count.fits) in
    let Q : ℕ → Type 0 = λ n. (n < 4294967296) × (AreRight n (reverse c.empty.result) forest × AreRanked n (reverse c.empty.result) forest ranks) in
    let R : List Join → Type 0 = λ js. (c.args.count < 4294967296) × (AreRight c.args.count (reverse js) forest × AreRanked c.args.count (reverse js) forest ranks) in
    subst Q (sym s.long)
    (subst R (sym c.empty.ensures)
    (fits, (s, ranked_alone c.args.count forest ranks s c.in_ok-ranks.ensures.long c.in_ok-ranks.ensures.own c.in_ok-ranks.ensures.greatest)))
