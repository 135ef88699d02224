use Rattle.std.proofs.Common.{◌≡◌, [], ◌++◌, refl, sym, ap, ◌∙◌, subst, append_assoc, append-nil, arith}
use Rattle.std.proofs.lemmas.Result.{on_ok_weaker}
use Rattle.std.specs.Io.KnownBytes.{Appends}
use Rattle.std.proofs.KnownBytes.{Appends-trans}
use Rattle.grid_lemmas.proofs.Results.{on_err}
use Rattle.grid_report.proofs.Begun.{on_err_map, within}
use Rattle.grid_jsonl.specs.Steps.{state_line}
use Rattle.grid_cli.specs.Layouts.{in_layout}
use Rattle.grid_cli.specs.Findings.{case_state, left_count, told_of}
use Rattle.grid_cli.proofs.ScreenAnswers.{counts-all, in_first, listed_is}
use Rattle.grid_cli.proofs.findings.write_findings.Goals as goal

pub returns-in_err-write_part-clause-err : goal.returns-in_err-write_part-clause-err
returns-in_err-write_part-clause-err g c =
    let look = c.args.screening.now.look in
    let state = case_state c.args.screening.now.case.now in
    on_err c.from_residual.result
    (in_first _ _ _ _ _ (listed_is look.layout look.format look.only state c.args.journal.now c.args.list.now _ _ refl refl) c.in_err-write_part.ensures.err)

pub returns-in_err-told-clause-err : goal.returns-in_err-told-clause-err
returns-in_err-told-clause-err g c =
    let look = c.args.screening.now.look in
    let state = case_state c.args.screening.now.case.now in
    on_err c.from_residual-in_err-told.result
    (within _ _ _ _ _ _ _ (listed_is look.layout look.format look.only state c.args.journal.now c.args.list.now _ _ refl refl) c.in_ok-write_part.ensures.ok c.in_err-told.ensures.err)

pub overflow_sub-left_out : goal.overflow_sub-left_out
overflow_sub-left_out g c =
    let look = c.args.screening.now.look in
    omega (arith, counts-all look.format look.only (case_state c.args.screening.now.case.now) c.args.list.now, c.in_ok-told.ensures.count)

pub returns-clause-ok : goal.returns-clause-ok
returns-clause-ok g c =
    let look = c.args.screening.now.look in
    let state = case_state c.args.screening.now.case.now in
    let list = c.args.list.now in
    let steps = in_layout look.layout [] (state_line c.args.journal.now) in
    let told = c.in_ok-told.told in
    let left : _ ≡ left_count look.only state list = omega (arith, counts-all look.format look.only state list, c.in_ok-told.ensures.count) in
    let whole = listed_is look.layout look.format look.only state c.args.journal.now list told _ c.in_ok-told.ensures.count left in
    on_ok_weaker c.write_part-2.result
    (λ last. subst (Appends (g.K.Sink.written c.args.sink.now) (g.K.Sink.written c.write_part-2.new.sink)) (append_assoc steps (told_of c.args.screening.now.case.now look 0 list) _ ∙ sym whole)
    (Appends-trans _ _ _ _ _ (Appends-trans _ _ _ _ _ c.in_ok-write_part.ensures.ok c.in_ok-told.ensures.ok) last))
    c.write_part-2.ensures.ok

pub returns-clause-err : goal.returns-clause-err
returns-clause-err g c =
    let look = c.args.screening.now.look in
    let state = case_state c.args.screening.now.case.now in
    let list = c.args.list.now in
    let steps = in_layout look.layout [] (state_line c.args.journal.now) in
    let told = c.in_ok-told.told in
    let left : _ ≡ left_count look.only state list = omega (arith, counts-all look.format look.only state list, c.in_ok-told.ensures.count) in
    let whole = listed_is look.layout look.format look.only state c.args.journal.now list told _ c.in_ok-told.ensures.count left in
    on_err_map c.write_part-2.result
    (λ last. within _ _ _ (steps ++ told_of c.args.screening.now.case.now look 0 list) _ [] _ (whole ∙ sym (append_assoc steps (told_of c.args.screening.now.case.now look 0 list) _) ∙ ap (λ t. (steps ++ told_of c.args.screening.now.case.now look 0 list) ++ t) (sym (append-nil _)))
    (Appends-trans _ _ _ _ _ c.in_ok-write_part.ensures.ok c.in_ok-told.ensures.ok) last)
    c.write_part-2.ensures.err
