use Rattle.std.proofs.Common.{◌≡◌, suc, ◌+◌, map, take, length, ap, ◌∙◌, length-append, refl}
use Rattle.std.specs.List.{count_by}
use Rattle.grid_jsonl.specs.Borrowed.{step_in}
use Rattle.grid_jsonl.proofs.StepNumbers.{of_worker, step_more, steps_all}
use Rattle.grid_jsonl.proofs.numbered.steps_of.Goals as goal

pub loop-place-preserved : goal.loop-place-preserved
loop-place-preserved c =
    let place = c.loop-place.place in
    let e = c.index-journal-place.result in
    let held = c.loop-place.steps.items in
    let long : length c.as_slice.result.now ≡ place = ap length c.as_slice.ensures.value ∙ c.loop-place.invariant.counted in
    record {
      counted = ap length c.in_ok-push.ensures.items ∙ length-append held _ ∙ ap (λ n. n + 1) c.loop-place.invariant.counted;
      so_far =
          ap (map step_in) c.in_ok-push.ensures.items
          ∙ step_more c.args.journal.now held place _ e c.loop-place.invariant.so_far c.loop-place-test.true c.index-journal-place.is refl
          (c.number_behind-number.ensures ∙ ap (λ n. suc (count_by (of_worker e.worker) (take n c.args.journal.now))) long) refl;
    }

pub returns : goal.returns
returns c = c.loop-place.invariant.so_far ∙ steps_all c.args.journal.now c.loop-place.place c.loop-place-test.false
