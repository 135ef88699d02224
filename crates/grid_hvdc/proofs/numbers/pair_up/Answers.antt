use Rattle.std.proofs.Common.{◌≡◌, ◌+◌, [], ◌∷◌, ◌++◌, length-append, take, sym, ap, ◌∙◌, length, get_or, map, arith, rules}
use Rattle.std.specs.Prelude.{zip}
use Rattle.std.proofs.lemmas.List.{take_all}
use Rattle.std.proofs.lemmas.Slice.Zip.{zip_turn, zip_end, length-zip, get_or-zip}
use Rattle.grid_groups.proofs.Steps.{map_next}
use Rattle.grid_hvdc.specs.declared.numbers.Component.{Component}
use Rattle.grid_hvdc.specs.Numbers.{side_by_side}
use Rattle.grid_hvdc.proofs.numbers.pair_up.Goals as goal

pub loop-over_all-preserved : goal.loop-over_all-preserved
loop-over_all-preserved c =
    let turn = zip_turn c.args.connected.now c.args.synchronous.now c.loop-over_all.yielded _ c.loop-over_all.over_all-iterator c.next.new.self c.next.result (search rules) (search rules) c.loop-over_all.yielded_by (c.in-Some.over_all, c.in-Some.over_branches) c.in-Some.is c.next.ensures.steps in
    let n = length c.loop-over_all.yielded in
    let pair : Component × Component = (c.in-Some.over_all.now, c.in-Some.over_branches.now) in
    let pairs = zip c.args.connected.now c.args.synchronous.now in
    let longer : length (c.loop-over_all.yielded ++ (c.in-Some.over_all, c.in-Some.over_branches) ∷ []) ≡ n + 1 = length-append c.loop-over_all.yielded ((c.in-Some.over_all, c.in-Some.over_branches) ∷ []) in
    let at : pair ≡ get_or pairs n pair =
    ap (λ z. (z, c.in-Some.over_branches.now)) (turn.2 c.in-Some.over_all.now) ∙ ap (λ z. (get_or c.args.connected.now n c.in-Some.over_all.now, z)) (turn.3 c.in-Some.over_branches.now)
    ∙ sym (get_or-zip c.args.connected.now c.args.synchronous.now n pair turn.0 turn.1) in
    c.in_ok-push.ensures.ok
    ∙ ap (λ z. z ++ side_by_side pair ∷ []) c.loop-over_all.invariant
    ∙ map_next side_by_side pairs n pair (omega (arith, turn.0, turn.1, length-zip c.args.connected.now c.args.synchronous.now)) at
    ∙ ap (λ z. map side_by_side (take z pairs)) (sym longer)

pub returns : goal.returns
returns c =
    let end = zip_end c.args.connected.now c.args.synchronous.now c.loop-over_all.yielded _ c.loop-over_all.over_all-iterator c.next.new.self c.next.result (search rules) (search rules) c.loop-over_all.yielded_by c.in-None.is c.next.ensures.steps in
    c.loop-over_all.invariant ∙ ap (map side_by_side) (take_all (length c.loop-over_all.yielded) (zip c.args.connected.now c.args.synchronous.now) (omega (arith, end, length-zip c.args.connected.now c.args.synchronous.now)))
