-- The sums of a sound structure have room.
use Rattle.std.proofs.Common.{T, ◌≡◌, refl, ◌∙◌, ℕ, ℤ, pos, ◌+◌, ◌*◌, ◌^◌, ◌<◌, ◌≤◌, Bool, true, false, cond, List, [], ◌∷◌, length, arith, neg_ℤ, ◌≤ℤ◌, ◌<ℤ◌}
use Rattle.std.specs.Prelude.{map, flat_map, nat_le, nat_lt, int_le, int_lt}
use Rattle.std.specs.List.{list_all}
use Rattle.std.proofs.lemmas.Bool.{and_parts, and_from, leb-true, ltb-true}
use Rattle.std.proofs.lemmas.List.{length-append, length-map}
use Rattle.std.proofs.lemmas.Int.{ints}
use Rattle.grid_level.specs.declared.Placed.{Placed}
use Rattle.grid_level.specs.declared.Stand.{Stand}
use Rattle.grid_level.specs.VoltageLevel.{VoltageLevel}
use Rattle.grid_level.specs.Passing.{is_rising, named, edges, ends, both}
use Rattle.grid_level.specs.Sound.{level_passes}
use Rattle.grid_level.proofs.LevelEdits as on_level
use Rattle.grid_structure.specs.Network.{Network}
use Rattle.grid_structure.specs.Sites.{levels}
use Rattle.grid_structure.specs.Soundness.{IsSound}
use Rattle.grid_busview.specs.Views.{is_load, is_generation}
use Rattle.grid_powers.specs.Listed.{Listed, PowerList}
use Rattle.grid_watts.specs.Watts.{watts_at, terminals, load_total, generation_total}
use Rattle.grid_watts.specs.Shares.{share}
use Rattle.grid_watts.specs.Ranges.{is_narrow, HasRoom, IsSummed}
use Rattle.grid_watts.proofs.TerminalSums.{summed, adds, all_placed, total_is}

-- ---- how many terminals there are

rising_few : (ns : List ℕ) (a : ℕ) → is_rising ns ≡ true → list_all (nat_lt a) ns ≡ true → list_all (λ n. nat_le n 65535) ns ≡ true → a ≤ 65535 → length ns + a ≤ 65535
unfolding is_rising
rising_few [] a rises above below within = omega (arith, within)
rising_few (n ∷ ns) a rises above below within =
    let r = and_parts (list_all (nat_lt n) ns) (is_rising ns) rises in
    let up = and_parts (nat_lt a n) (list_all (nat_lt a) ns) above in
    let low = and_parts (nat_le n 65535) (list_all (λ m. nat_le m 65535) ns) below in
    let here : a < n = ltb-true a n up.0 in
    let top : n ≤ 65535 = leb-true n 65535 low.0 in
    let rest = rising_few ns n r.1 r.0 low.1 top in
    omega (arith, rest, here)

few_rising : (ns : List ℕ) → is_rising ns ≡ true → list_all (λ n. nat_le n 65535) ns ≡ true → length ns ≤ 65536
unfolding is_rising
few_rising [] rises below = omega arith
few_rising (n ∷ ns) rises below =
    let r = and_parts (list_all (nat_lt n) ns) (is_rising ns) rises in
    let low = and_parts (nat_le n 65535) (list_all (λ m. nat_le m 65535) ns) below in
    let rest = rising_few ns n r.1 r.0 low.1 (leb-true n 65535 low.0) in
    omega (arith, rest)

few_placed : (l : VoltageLevel) → level_passes l ≡ true → length l.placed ≤ 65536
unfolding named
few_placed l h =
    let k = on_level.passes_of l h in
    let ns = map (λ (p : Placed). p.node) l.placed in
    let parts = on_level.all_parts (λ n. nat_le n 65535) (flat_map (λ e. both (ends e)) (edges l)) ns k.within.in_range in
    let few = few_rising ns k.within.rise parts.1 in
    let same = length-map l.placed (λ (p : Placed). p.node) in
    omega (arith, few, same)

pub few_terminals : (ls : List VoltageLevel) → list_all level_passes ls ≡ true → length (all_placed ls) ≤ 65536 * length ls
few_terminals [] h = omega arith
few_terminals (l ∷ ls) h =
    let parts = and_parts (level_passes l) (list_all level_passes ls) h in
    omega (arith, length-append l.placed (all_placed ls), few_placed l parts.0, few_terminals ls parts.1)

-- ---- how large a sum is

pub narrow_low : (w : ℤ) → is_narrow w ≡ true → neg_ℤ (pos (2 ^ 63)) ≤ℤ w
unfolding is_narrow
narrow_low w h = let parts = and_parts (int_le (neg_ℤ (pos (2 ^ 63))) w) (int_lt w (pos (2 ^ 63))) h in record { le = rw parts.0 tt }

narrow_high : (w : ℤ) → is_narrow w ≡ true → w <ℤ pos (2 ^ 63)
unfolding is_narrow
narrow_high w h = let parts = and_parts (int_le (neg_ℤ (pos (2 ^ 63))) w) (int_lt w (pos (2 ^ 63))) h in record { lt = rw parts.1 tt }

is_so : (b : Bool) → T b → b ≡ true
is_so true t = refl
is_so false t = absurd t

-- a number of 64 bits
pub narrow_by : (w : ℤ) → neg_ℤ (pos (2 ^ 63)) ≤ℤ w → w <ℤ pos (2 ^ 63) → is_narrow w ≡ true
unfolding is_narrow
narrow_by w low high = and_from _ _ (is_so _ low.le) (is_so _ high.lt)

share_low : (test : Stand → Bool) (s : Stand) (w : ℤ) → is_narrow w ≡ true → neg_ℤ (pos (2 ^ 63)) ≤ℤ share test s w
unfolding share
share_low test s w h = by (test s)
  where
    by : (t : Bool) → neg_ℤ (pos (2 ^ 63)) ≤ℤ cond t w (pos 0)
    by true = narrow_low w h
    by false = omega (arith, ints)

share_high : (test : Stand → Bool) (s : Stand) (w : ℤ) → is_narrow w ≡ true → share test s w ≤ℤ pos (2 ^ 63)
unfolding share
share_high test s w h = by (test s)
  where
    by : (t : Bool) → cond t w (pos 0) ≤ℤ pos (2 ^ 63)
    by true = let high = narrow_high w h in omega (arith, ints, high)
    by false = omega (arith, ints)

pub sum_low : (test : Stand → Bool) (listed : Listed) (ps : List Placed) → list_all (λ (p : Placed). is_narrow (watts_at listed p)) ps ≡ true → neg_ℤ (pos (2 ^ 63 * length ps)) ≤ℤ summed (adds (share test) listed) ps
sum_low test listed [] h = omega (arith, ints)
sum_low test listed (p ∷ ps) h =
    let parts = and_parts (is_narrow (watts_at listed p)) (list_all (λ (p : Placed). is_narrow (watts_at listed p)) ps) h in
    let here = share_low test p.stand (watts_at listed p) parts.0 in
    let rest = sum_low test listed ps parts.1 in
    omega (arith, ints, here, rest)

pub sum_high : (test : Stand → Bool) (listed : Listed) (ps : List Placed) → list_all (λ (p : Placed). is_narrow (watts_at listed p)) ps ≡ true → summed (adds (share test) listed) ps ≤ℤ pos (2 ^ 63 * length ps)
sum_high test listed [] h = omega (arith, ints)
sum_high test listed (p ∷ ps) h =
    let parts = and_parts (is_narrow (watts_at listed p)) (list_all (λ (p : Placed). is_narrow (watts_at listed p)) ps) h in
    let here = share_high test p.stand (watts_at listed p) parts.0 in
    let rest = sum_high test listed ps parts.1 in
    omega (arith, ints, here, rest)

pub room : (net : Network) (powers : PowerList) → IsSound net → IsSummed net powers → HasRoom powers
unfolding terminals load_total generation_total
room net powers s k =
    let ps = all_placed (levels net) in
    let few : length ps ≤ 65536 * length (levels net) = few_terminals (levels net) s.each_level in
    let levels_few = s.few_levels in
    let load : powers.load ≡ summed (adds (share is_load) powers.listed) ps = k.load ∙ total_is is_load net powers.listed in
    let generation : powers.generation ≡ summed (adds (share is_generation) powers.listed) ps = k.generation ∙ total_is is_generation net powers.listed in
    let a = sum_low is_load powers.listed ps k.narrow in
    let b = sum_high is_load powers.listed ps k.narrow in
    let c = sum_low is_generation powers.listed ps k.narrow in
    let d = sum_high is_generation powers.listed ps k.narrow in
    record {
      load_low = omega (arith, ints, a, few, levels_few, load);
      load_high = omega (arith, ints, b, few, levels_few, load);
      generation_low = omega (arith, ints, c, few, levels_few, generation);
      generation_high = omega (arith, ints, d, few, levels_few, generation);
    }
