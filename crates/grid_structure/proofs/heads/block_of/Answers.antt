use Rattle.std.proofs.Common.{◌≡◌, ap, arith, length, take, ℕ}
use Rattle.std.specs.Prelude.{sum}
use Rattle.std.proofs.lemmas.List.Sums.{sum_by_more}
use Rattle.grid_structure.proofs.heads.block_of.Goals as goal

pub loop-block-preserved : goal.loop-block-preserved
loop-block-preserved c =
    let more = sum_by_more (λ (n : ℕ). n) c.args.sums.now c.loop-block.block 0 (omega arith) in
    omega (arith, more)

pub returns-clause-split : goal.returns-clause-split
returns-clause-split c =
    let last : c.loop-block.block ≡ length c.args.sums.now = omega arith in
    omega (arith, ap (λ (n : ℕ). sum (take n c.args.sums.now)) last)
