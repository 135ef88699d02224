-- Rising numbers that are counted from 0 without a gap, as the last of them tells.
use Rattle.std.proofs.Common.{◌≡◌, ap, ◌∙◌, ℕ, zero, suc, ◌+◌, ◌-◌, ◌<◌, ◌≤◌, true, List, length, get_or, arith}
use Rattle.grid_level.specs.Passing.{is_rising}
use Rattle.grid_groups.proofs.Indices.{rises}
use Rattle.grid_bench.specs.Ends.{IsGapless}

-- numbers rise by one at least from each place to the next
rises_by : (ns : List ℕ) (i d : ℕ) → is_rising ns ≡ true → i + d < length ns → get_or ns i 0 + d ≤ get_or ns (i + d) 0
rises_by ns i zero h lt =
    let here : i + 0 ≡ i = omega arith in
    let same : get_or ns (i + 0) 0 ≡ get_or ns i 0 = ap (λ z. get_or ns z 0) here in
    omega (arith, same)
rises_by ns i (suc d) h lt =
    let on = rises_by ns i d h (omega (arith, lt)) in
    let next = rises ns (i + d) (i + suc d) h (omega arith) lt in
    omega (arith, on, next)

-- where the last number is its place, each is
pub gapless : (ns : List ℕ) (last : ℕ) → is_rising ns ≡ true → length ns ≡ suc last → get_or ns last 0 ≡ last → IsGapless ns
gapless ns last h long end i lt =
    let behind : i + (last - i) ≡ last = omega (arith, lt, long) in
    let before : 0 + i ≡ i = omega arith in
    let low = rises_by ns 0 i h (omega (arith, lt)) in
    let at_start : get_or ns (0 + i) 0 ≡ get_or ns i 0 = ap (λ z. get_or ns z 0) before in
    let high = rises_by ns i (last - i) h (omega (arith, lt, long)) in
    let at_end : get_or ns (i + (last - i)) 0 ≡ last = ap (λ z. get_or ns z 0) behind ∙ end in
    omega (arith, low, high, at_start, at_end, behind)
