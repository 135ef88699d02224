use Rattle.std.proofs.Common.{◌≡◌, suc, ◌++◌, length, map, sym, ap, ◌∙◌, arith}
use Rattle.std.proofs.lemmas.List.{nil_from_length}
use Rattle.grid_jsonl.specs.Borrowed.{step_in}
use Rattle.grid_jsonl.specs.Outcomes.{listeners_from}
use Rattle.grid_jsonl.specs.Lines.{texts}
use Rattle.grid_jsonl.proofs.RemainingLines.{listener_next, listeners_over}
use Rattle.grid_jsonl.proofs.cursors.Listeners.next.Goals as goal

pub returns-in_err-wanted : goal.returns-in_err-wanted
returns-in_err-wanted c =
    let i = c.loop-line.self-inside in
    let all = map step_in i.steps.now in
    let over = c.in_err-wanted.ensures.cases in
    let passed =
    sym c.loop-line.invariant.rest
    ∙ ap (λ l. l ++ texts (listeners_from all i.number i.filters.now)) c.in_default.ensures.0
    ∙ listeners_over all i.number i.filters.now (nil_from_length i.filters.now over.0) in
    let left =
    ap (λ l. l ++ texts (listeners_from all i.number c.split_off_first.new.self.now)) c.in_default.ensures.1
    ∙ listeners_over all i.number c.split_off_first.new.self.now (nil_from_length c.split_off_first.new.self.now (ap length over.1 ∙ over.0)) in
    rw c.from_residual.ensures (passed, left)

pub loop-line-preserved : goal.loop-line-preserved
loop-line-preserved c =
    let i = c.loop-line.self-inside in
    let all = map step_in i.steps.now in
    let is = c.in_ok-wanted.ensures.cases.0 in
    let long : length i.filters.now ≡ suc (length c.split_off_first.new.self.now) = ap length is in
    record {
      counted = omega (arith, long, c.loop-line.invariant.counted);
      rest =
          sym (listener_next all i.number i.filters.now c.split_off_first.new.self.now c.in_ok-wanted.wanted.now c.of-self-inside.result is c.of-self-inside.ensures)
          ∙ ap (λ l. l ++ texts (listeners_from all i.number i.filters.now)) (sym c.in_default.ensures.0)
          ∙ c.loop-line.invariant.rest;
    }
