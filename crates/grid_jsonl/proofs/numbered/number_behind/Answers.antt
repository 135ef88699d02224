use Rattle.std.proofs.Common.{◌≡◌, suc, ◌+◌, ◌-◌, take, sym, ap, ◌∙◌, arith, add-one}
use Rattle.std.specs.Prelude.{slice_index_or}
use Rattle.std.specs.List.{count_by}
use Rattle.grid_core.specs.declared.journal.Entry.{Entry}
use Rattle.grid_jsonl.specs.declared.step.Step as borrowed
use Rattle.grid_jsonl.proofs.StepNumbers.{of_worker, count_few, held_few, held_number}
use Rattle.grid_jsonl.proofs.numbered.number_behind.Goals as goal

pub offset_bounds-journal-place : goal.offset_bounds-journal-place
offset_bounds-journal-place c = let few = held_few c.args.journal.now c.args.steps.now c.requires in grind arith

pub bounds-journal-place : goal.bounds-journal-place
bounds-journal-place c = let few = held_few c.args.journal.now c.args.steps.now c.requires in omega arith

pub bounds-journal-place-in-loop-place : goal.bounds-journal-place-in-loop-place
bounds-journal-place-in-loop-place c = let few = held_few c.args.journal.now c.args.steps.now c.requires in omega arith

pub overflow_add-result : goal.overflow_add-result
overflow_add-result c =
    let place = c.loop-place.place in
    let s = c.index-steps-place.result in
    let e = c.index-journal-place.result in
    let own : e.worker ≡ c.args.worker = ap (λ (x : Entry). x.worker) c.index-journal-place.is ∙ c.if-journal-place.true in
    let number : (slice_index_or c.args.steps.now (place - 1) s).number ≡ count_by (of_worker c.args.worker) (take place c.args.journal.now) =
    ap (λ (x : borrowed.Step). x.number) (sym c.index-steps-place.is)
    ∙ held_number c.args.journal.now c.args.steps.now c.requires place c.args.worker s e c.loop-place-test.true c.loop-place.invariant.within c.index-steps-place.is c.index-journal-place.is own in
    let few = count_few c.args.worker place c.args.journal.now in
    let within = c.loop-place.invariant.within in
    grind arith

pub returns-then-journal-place : goal.returns-then-journal-place
returns-then-journal-place c =
    let place = c.loop-place.place in
    let s = c.index-steps-place.result in
    let e = c.index-journal-place.result in
    let own : e.worker ≡ c.args.worker = ap (λ (x : Entry). x.worker) c.index-journal-place.is ∙ c.if-journal-place.true in
    ap (λ (x : borrowed.Step). x.number + 1) (sym c.index-steps-place.is)
    ∙ add-one s.number
    ∙ ap suc (held_number c.args.journal.now c.args.steps.now c.requires place c.args.worker s e c.loop-place-test.true c.loop-place.invariant.within c.index-steps-place.is c.index-journal-place.is own)
    ∙ ap suc (sym c.loop-place.invariant.others)
