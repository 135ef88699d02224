use Rattle.std.proofs.Common.{◌≡◌, sym, ap, ◌∙◌, subst, ◌+◌, length, take, arith, List, ◌++◌, ◌∷◌, [], append_assoc}
use Rattle.std.proofs.lemmas.List.{take_all, take_more, length-append, append-nil}
use Rattle.grid_level.specs.declared.Placed.{Placed}
use Rattle.grid_structure.specs.Sites.{levels}
use Rattle.grid_watts.specs.Watts.{terminals_before}
use Rattle.grid_watts.proofs.TerminalSums.{all_placed}
use Rattle.grid_watts.proofs.Fronts.{IsFront, front_of, sums_of, front_more, front_room, part_long, part_more, short_take}
use Rattle.grid_watts.proofs.opening.gain_level.Goals as goal

pub loop-placed-init : goal.loop-placed-init
unfolding terminals_before
loop-placed-init c =
    let front = all_placed (take c.args.place (levels c.args.structure.now)) in
    subst (λ (ps : List Placed). IsFront ps c.args.powers.now) (sym (append-nil front)) (front_of front c.args.powers.now c.requires.before)

pub gain-requires : goal.gain-requires
gain-requires c =
    let ls = levels c.args.structure.now in
    let front = all_placed (take c.args.place ls) in
    let items = c.placed-placed-items.result.now in
    let some = take c.loop-placed.placed-index items in
    let part = part_long ls c.args.place c.level.result.now c.level.ensures in
    let short = short_take items c.loop-placed.placed-index in
    let same : length items ≡ length c.level.result.now.placed = ap length c.placed-placed-items.ensures in
    let sum = length-append front some in
    front_room c.args.structure.now (front ++ some) c.loop-placed.powers c.keeps.ensures (omega (arith, part, short, same, sum)) c.loop-placed.invariant

pub loop-placed-preserved : goal.loop-placed-preserved
loop-placed-preserved c =
    let front = all_placed (take c.args.place (levels c.args.structure.now)) in
    let items = c.placed-placed-items.result.now in
    let i = c.loop-placed.placed-index in
    let p = c.placed-item.result in
    let one : take (i + 1) items ≡ take i items ++ p ∷ [] = take_more items i p c.loop-placed-test.true ∙ ap (λ (x : Placed). take i items ++ x ∷ []) (sym c.placed-item.is) in
    subst (λ (ps : List Placed). IsFront ps c.gain.new.powers) (append_assoc front (take i items) (p ∷ []) ∙ ap (λ z. front ++ z) (sym one))
    (front_more (front ++ take i items) p c.loop-placed.powers c.gain.new.powers c.loop-placed.invariant c.gain.ensures.moved c.gain.ensures.narrow)

pub returns : goal.returns
unfolding terminals_before
returns c =
    let ls = levels c.args.structure.now in
    let front = all_placed (take c.args.place ls) in
    let items = c.placed-placed-items.result.now in
    let whole : take c.loop-placed.placed-index items ≡ c.level.result.now.placed = take_all c.loop-placed.placed-index items c.loop-placed-test.false ∙ c.placed-placed-items.ensures in
    sums_of (all_placed (take (c.args.place + 1) ls)) c.loop-placed.powers
    (subst (λ (ps : List Placed). IsFront ps c.loop-placed.powers) (ap (λ z. front ++ z) whole ∙ sym (part_more ls c.args.place c.level.result.now c.level.ensures)) c.loop-placed.invariant)
