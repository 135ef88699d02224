use Rattle.std.proofs.Common.{sym, ap, ◌∙◌, subst, length}
use Rattle.std.specs.List.{flat_map}
use Rattle.std.specs.Io.KnownBytes.{Appends}
use Rattle.grid_source.specs.Whole.{IsBegun}
use Rattle.grid_lemmas.proofs.Results.{on_err}
use Rattle.grid_jsonl.specs.Outcomes.{lines}
use Rattle.grid_screen.specs.Found.{AreFindings}
use Rattle.grid_cli.specs.Findings.{IsLook, case_state, list_objects, list_text, part_lines, part_text, told_count}
use Rattle.grid_cli.proofs.ScreenAnswers.{parts_told}
use Rattle.grid_cli.proofs.findings.write_piece.Goals as goal

pub parts_of-requires-clause-look : goal.parts_of-requires-clause-look
parts_of-requires-clause-look g c = subst (λ z. IsLook z c.args.screening.now.look) (sym c.case-whole.ensures) c.requires.look

pub parts_of-requires-clause-found : goal.parts_of-requires-clause-found
parts_of-requires-clause-found g c = subst (λ z. AreFindings z c.args.piece.now c.slice.result.now) (sym c.case-whole.ensures) (subst (AreFindings c.args.screening.now.case.now c.args.piece.now) (sym c.slice.ensures) c.in_ok-findings.ensures)

pub returns-in_err-write_parts-clause-err : goal.returns-in_err-write_parts-clause-err
returns-in_err-write_parts-clause-err g c =
    let look = c.args.screening.now.look in
    on_err c.from_residual-in_err-write_parts.result
    (subst (λ t. IsBegun (g.K.Sink.written c.args.sink.now) t (g.K.Sink.written c.write_parts.new.sink))
    (parts_told look.format look.only (case_state c.args.screening.now.case.now) look.layout c.args.first c.args.piece.now _ _ (ap (flat_map part_text) c.as_slice.ensures.value ∙ c.in_ok-parts.ensures.text ∙ ap (λ z. list_text look.format look.only (case_state z) c.args.piece.now) c.case-whole.ensures) (ap (flat_map part_lines) c.as_slice.ensures.value ∙ c.in_ok-parts.ensures.lines ∙ ap (λ z. lines (list_objects look.format look.only (case_state z) c.args.first c.args.piece.now)) c.case-whole.ensures))
    c.in_err-write_parts.ensures.err)

pub returns-clause-ok : goal.returns-clause-ok
returns-clause-ok g c =
    let look = c.args.screening.now.look in
    subst (Appends (g.K.Sink.written c.args.sink.now) (g.K.Sink.written c.write_parts.new.sink))
    (parts_told look.format look.only (case_state c.args.screening.now.case.now) look.layout c.args.first c.args.piece.now _ _ (ap (flat_map part_text) c.as_slice.ensures.value ∙ c.in_ok-parts.ensures.text ∙ ap (λ z. list_text look.format look.only (case_state z) c.args.piece.now) c.case-whole.ensures) (ap (flat_map part_lines) c.as_slice.ensures.value ∙ c.in_ok-parts.ensures.lines ∙ ap (λ z. lines (list_objects look.format look.only (case_state z) c.args.first c.args.piece.now)) c.case-whole.ensures))
    c.in_ok-write_parts.ensures.ok

pub returns-clause-count : goal.returns-clause-count
returns-clause-count g c =
    c.len.ensures ∙ sym c.as_slice.ensures.len ∙ ap length c.as_slice.ensures.value ∙ c.in_ok-parts.ensures.count
    ∙ ap (λ z. told_count c.args.screening.now.look.only (case_state z) c.args.piece.now) c.case-whole.ensures
