use Rattle.std.proofs.Common.{◌≡◌, refl, ℕ, List, drop, arith}
use Rattle.grid_ids.specs.Front.{front_bytes}
use Rattle.grid_ids.proofs.Fronts.{front_more}
use Rattle.grid_ids.proofs.front.first_bytes.Goals as goal

nothing : (xs : List ℕ) → front_bytes 0 xs ≡ 0
unfolding front_bytes
nothing xs = refl

pub returns-clause-front : goal.returns-clause-front
returns-clause-front c =
    let text = c.args.text.now in
    omega (arith, c.byte_at.ensures.byte, c.byte_at-2.ensures.byte, c.byte_at-3.ensures.byte, c.byte_at-4.ensures.byte, c.byte_at-5.ensures.byte, c.byte_at-6.ensures.byte, c.byte_at-7.ensures.byte, c.byte_at-8.ensures.byte, front_more 7 0 text, front_more 6 1 text, front_more 5 2 text, front_more 4 3 text, front_more 3 4 text, front_more 2 5 text, front_more 1 6 text, front_more 0 7 text, nothing (drop 8 text))
