use Rattle.std.proofs.Common.{◌≡◌, ap, refl, subst, ◌≤◌, length, arith, pos, List, []}
use Rattle.std.proofs.lemmas.List.{take_all}
use Rattle.grid_level.specs.VoltageLevel.{VoltageLevel}
use Rattle.grid_structure.specs.Sites.{levels}
use Rattle.grid_powers.specs.Listed.{PowerList, opening_of}
use Rattle.grid_watts.specs.Watts.{terminals_before, watts_sum}
use Rattle.grid_watts.specs.Ranges.{HasSumsOf}
use Rattle.grid_watts.proofs.TerminalSums.{all_placed}
use Rattle.grid_watts.proofs.Fronts.{front_of, front_whole}
use Rattle.grid_watts.proofs.opening.opening_powers.Goals as goal

none_yet : (powers : PowerList) → powers ≡ opening_of (pos 0) (pos 0) → HasSumsOf [] powers
unfolding watts_sum
none_yet powers is = record { listed = ap (λ (z : PowerList). z.listed) is; load = ap (λ (z : PowerList). z.load) is; generation = ap (λ (z : PowerList). z.generation) is; narrow = refl }

pub loop-place-init : goal.loop-place-init
unfolding terminals_before
loop-place-init c = none_yet c.opening-powers.result c.opening-powers.ensures

pub returns-clause-summed : goal.returns-clause-summed
unfolding terminals_before
returns-clause-summed c =
    let ls = levels c.args.structure.now in
    let end : length ls ≤ c.loop-place.place = omega (arith, c.level_count-place-end.ensures, c.loop-place-test.false) in
    let all : HasSumsOf (all_placed ls) c.loop-place.powers = subst (λ (z : List VoltageLevel). HasSumsOf (all_placed z) c.loop-place.powers) (take_all c.loop-place.place ls end) c.loop-place.invariant in
    front_whole c.args.structure.now c.loop-place.powers (front_of (all_placed ls) c.loop-place.powers all)
