use Rattle.std.proofs.Common.{◌<◌, length, ap, ◌∙◌, arith, ℕ, Vec, Global}
use Rattle.grid_slots.proofs.SharedRows.{renumbered, left_number}
use Rattle.grid_slots.proofs.kept.renumber.Goals.{then-index-from, else-index-from}
use Rattle.grid_slots.proofs.kept.renumber.Goals as goal

pub loop-place-preserved : goal.loop-place-preserved
loop-place-preserved c =
    let within : c.loop-place.place < length c.args.numbers.now.items = omega
    (arith, c.loop-place-test.true, c.len-place-end.ensures, c.args.numbers.now.ok.0) in
    elim c.if-index-from.branch [
      | then-index-from w ↦
          ap (λ (v : Vec ℕ Global). v.items) w.numbers-is
          ∙ renumbered c.args.from c.args.to c.loop-place.place c.args.numbers.now.items c.loop-place.numbers.items
          c.index.result.now c.loop-place.invariant c.index.ensures within w.if-index-from.true
      | else-index-from w ↦
          ap (λ (v : Vec ℕ Global). v.items) w.numbers-is
          ∙ left_number c.args.from c.args.to c.loop-place.place c.args.numbers.now.items c.loop-place.numbers.items
          c.index.result.now c.loop-place.invariant c.index.ensures within w.if-index-from.false
    ]
