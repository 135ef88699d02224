-- Sums of numbers over lists of terminals.
use Rattle.std.proofs.Common.{◌≡◌, refl, ap, ℤ, pos, Bool, true, false, cond, List, [], ◌∷◌, ◌++◌, arith}
use Rattle.std.specs.Prelude.{◌+ℤ◌, filter, flat_map}
use Rattle.std.proofs.lemmas.Int.{ints}
use Rattle.grid_level.specs.declared.Placed.{Placed}
use Rattle.grid_level.specs.declared.Stand.{Stand}
use Rattle.grid_level.specs.VoltageLevel.{VoltageLevel}
use Rattle.grid_powers.specs.Listed.{Listed}
use Rattle.grid_structure.specs.Network.{Network}
use Rattle.grid_structure.specs.Sites.{levels}
use Rattle.grid_watts.specs.Watts.{watts_at, watts_sum, terminals, total_over}
use Rattle.grid_watts.specs.Shares.{Part, share}

-- ---- the sum of a number for each terminal

abbrev pub summed : (Placed → ℤ) → List Placed → ℤ
summed f [] = pos 0
summed f (p ∷ ps) = f p +ℤ summed f ps

pub summed-append : (f : Placed → ℤ) (xs ys : List Placed) → summed f (xs ++ ys) ≡ summed f xs +ℤ summed f ys
summed-append f [] ys = omega (arith, ints)
summed-append f (p ∷ xs) ys = omega (arith, ints, summed-append f xs ys)

-- what each terminal adds
abbrev pub adds : Part → Listed → Placed → ℤ
adds part listed p = part p.stand (watts_at listed p)

pub sum_is : (test : Stand → Bool) (listed : Listed) (ps : List Placed) → watts_sum listed (filter (λ (p : Placed). test p.stand) ps) ≡ summed (adds (share test) listed) ps
unfolding watts_sum share
sum_is test listed [] = refl
sum_is test listed (p ∷ ps) = by (test p.stand) (sum_is test listed ps)
  where
    by : (t : Bool) → watts_sum listed (filter (λ (p : Placed). test p.stand) ps) ≡ summed (adds (share test) listed) ps
        → watts_sum listed (cond t (p ∷ filter (λ (p : Placed). test p.stand) ps) (filter (λ (p : Placed). test p.stand) ps)) ≡ cond t (watts_at listed p) (pos 0) +ℤ summed (adds (share test) listed) ps
    by true again = ap (λ z. watts_at listed p +ℤ z) again
    by false again = omega (arith, ints, again)

abbrev pub all_placed : List VoltageLevel → List Placed
all_placed ls = flat_map (λ (l : VoltageLevel). l.placed) ls

-- the sum over a list of levels, and over a network's
abbrev pub over : Part → Listed → List VoltageLevel → ℤ
over part listed ls = summed (adds part listed) (all_placed ls)

abbrev pub whole : Part → Network → Listed → ℤ
whole part net listed = over part listed (levels net)

pub total_is : (test : Stand → Bool) (net : Network) (listed : Listed) → total_over test net listed ≡ whole (share test) net listed
unfolding total_over terminals
total_is test net listed = sum_is test listed (all_placed (levels net))
