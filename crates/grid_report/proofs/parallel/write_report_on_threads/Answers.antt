use Rattle.std.proofs.Common.{◌≡◌, ◌++◌, ℕ, List, ap, ◌∙◌, arith}
use Rattle.std.specs.List.{flat_map}
use Rattle.grid_lemmas.proofs.Results.{on_err}
use Rattle.grid_report.specs.Blocks.{block_text}
use Rattle.grid_report.specs.Outcomes.{report_of}
use Rattle.grid_report.proofs.Begun.{on_err_map, before, within, at_end, next_line, line_on, line_more, nothing_left}
use Rattle.grid_report.proofs.RemainingText.{less_left}
use Rattle.grid_report.proofs.BlockParts.{portion_next}
use Rattle.grid_report.proofs.parallel.write_report_on_threads.Goals as goal

pub returns-in_err-portion-clause-err : goal.returns-in_err-portion-clause-err
returns-in_err-portion-clause-err g c = let i = c.loop-first.invariant.so_far in on_err c.from_residual.result (before _ _ c.loop-first.pieces _ _ _ i.1 i.2)

pub returns-in_err-texts-clause-err : goal.returns-in_err-texts-clause-err
returns-in_err-texts-clause-err g c = let i = c.loop-first.invariant.so_far in on_err c.from_residual-in_err-texts.result (before _ _ c.loop-first.pieces _ _ _ i.1 i.2)

pub returns-in_err-put_texts-clause-err : goal.returns-in_err-put_texts-clause-err
returns-in_err-put_texts-clause-err g c =
    let i = c.loop-first.invariant.so_far in
    let line : List ℕ = flat_map (λ (t : List ℕ). t) c.as_slice-in-Some.result.now in
    let made : line ≡ flat_map block_text c.in_ok-portion.portion.items = ap (flat_map (λ (t : List ℕ). t)) c.as_slice-in-Some.ensures.value ∙ c.in_ok-texts.ensures ∙ ap (flat_map block_text) c.as_slice.ensures.value in
    let next : c.loop-first.report ≡ line ++ c.portion_of.new.report = portion_next c.loop-first.report (block_text c.in-Some.first) c.next_block.new.self (flat_map block_text c.in_ok-portion.portion.items) c.portion_of.new.report line c.in-Some.ensures c.in_ok-portion.ensures.text made in
    on_err c.from_residual-in_err-put_texts.result (within _ _ _ i.0 line c.portion_of.new.report (report_of c.args.outcome.now) (next_line (report_of c.args.outcome.now) i.0 c.loop-first.report line c.portion_of.new.report i.1 next) i.2 c.in_err-put_texts.ensures.err)

pub loop-first-smaller : goal.loop-first-smaller
loop-first-smaller g c = let less = less_left c.in-Some.first c.loop-first.report c.next_block.new.self c.in-Some.ensures in omega (arith, less, c.portion_of.ensures.left)

pub loop-first-preserved : goal.loop-first-preserved
loop-first-preserved g c =
    let i = c.loop-first.invariant.so_far in
    let line : List ℕ = flat_map (λ (t : List ℕ). t) c.as_slice-in-Some.result.now in
    let made : line ≡ flat_map block_text c.in_ok-portion.portion.items = ap (flat_map (λ (t : List ℕ). t)) c.as_slice-in-Some.ensures.value ∙ c.in_ok-texts.ensures ∙ ap (flat_map block_text) c.as_slice.ensures.value in
    let next : c.loop-first.report ≡ line ++ c.portion_of.new.report = portion_next c.loop-first.report (block_text c.in-Some.first) c.next_block.new.self (flat_map block_text c.in_ok-portion.portion.items) c.portion_of.new.report line c.in-Some.ensures c.in_ok-portion.ensures.text made in
    record {
      so_far = (i.0 ++ line, line_on (report_of c.args.outcome.now) i.0 c.loop-first.report line c.portion_of.new.report i.1 next, line_more _ _ _ _ _ i.2 c.in_ok-put_texts.ensures.ok);
      same = c.in_ok-put_texts.ensures.stays (λ is. absurd (cc)) ∙ c.loop-first.invariant.same;
    }

pub returns-clause-err : goal.returns-clause-err
returns-clause-err g c =
    let i = c.loop-first.invariant.so_far in
    on_err_map c.finish.result (λ e. at_end _ _ _ c.loop-first.pieces _ e.0 (rw (nothing_left (report_of c.args.outcome.now) i.0 c.loop-first.report i.1 c.in_default.ensures.0) at i.2) e.1) c.finish.ensures.err
