use Rattle.std.proofs.Common.{sym, ap, ◌∙◌, Some}
use Rattle.grid_jsonl.specs.Steps.{step_of}
use Rattle.grid_jsonl.proofs.Steps.{from_start, none_refused, refused_here, refused_later}
use Rattle.grid_jsonl.proofs.step.first_refused.Goals as goal

pub loop-place-init : goal.loop-place-init
loop-place-init c = from_start c.args.journal.now

pub returns-then-is_refused : goal.returns-then-is_refused
returns-then-is_refused c =
    let journal = c.args.journal.now in
    let place = c.loop-place.place in
    let entry = c.index-journal-place.result in
    sym (refused_here journal place entry c.loop-place-test.true c.index-journal-place.is (sym c.is_refused.ensures ∙ c.if-is_refused.true)
    ∙ ap (λ n. Some (step_of place n entry)) (sym c.count_of.ensures))
    ∙ c.loop-place.invariant

pub loop-place-preserved : goal.loop-place-preserved
loop-place-preserved c =
    let journal = c.args.journal.now in
    let place = c.loop-place.place in
    sym (refused_later journal place c.index-journal-place.result c.loop-place-test.true c.index-journal-place.is (sym c.is_refused.ensures ∙ c.if-is_refused.false))
    ∙ c.loop-place.invariant

pub returns : goal.returns
returns c = sym (none_refused c.args.journal.now c.loop-place.place c.loop-place-test.false) ∙ c.loop-place.invariant
