use Rattle.std.proofs.Common.{◌≡◌, ◌+◌, ◌*◌, ap, ◌∙◌, ℕ, arith}
use Rattle.std.specs.Prelude.{bit_xor}
use Rattle.std.specs.Int.Bits.{xor_self}
use Rattle.grid_bench.proofs.BitDifferences.{no_difference}
use Rattle.grid_bench.proofs.ends.difference.Goals as goal

pub returns : goal.returns
returns c =
    let x : ℕ × ℕ = c.args.pair in
    let y : ℕ × ℕ = c.args.other in
    let number = c.from.result * 65536 + c.from-2.result in
    let other_number = c.from-3.result * 65536 + c.from-4.result in (
      λ e.
          let same : number ≡ other_number = no_difference number other_number e in
          let first : x.0 ≡ y.0 = omega (arith, same, c.from.ensures, c.from-2.ensures, c.from-3.ensures, c.from-4.ensures) in
          let second : x.1 ≡ y.1 = omega (arith, same, c.from.ensures, c.from-2.ensures, c.from-3.ensures, c.from-4.ensures) in
          ap (λ (z : ℕ). (z, x.1)) first ∙ ap (λ (z : ℕ). (y.0, z)) second,
      λ e.
          let first : x.0 ≡ y.0 = ap (λ (z : ℕ × ℕ). z.0) e in
          let second : x.1 ≡ y.1 = ap (λ (z : ℕ × ℕ). z.1) e in
          let same : number ≡ other_number = omega (arith, first, second, c.from.ensures, c.from-2.ensures, c.from-3.ensures, c.from-4.ensures) in
          ap (λ z. bit_xor z other_number) same ∙ xor_self other_number,
    )
