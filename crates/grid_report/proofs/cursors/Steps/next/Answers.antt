use Rattle.std.proofs.Common.{◌+◌, ◌++◌, drop, sym, ap, ◌∙◌, arith}
use Rattle.grid_core.specs.declared.journal.Entry.{Entry}
use Rattle.grid_report.specs.Outcomes.{numbered, step_text, steps_by}
use Rattle.grid_report.proofs.RemainingText.{step_next, step_passed, no_step}
use Rattle.grid_report.proofs.cursors.Steps.next.Goals as goal

pub returns-then-entry-self : goal.returns-then-entry-self
returns-then-entry-self c =
    let i = c.loop-self.self-inside in
    sym c.loop-self.invariant.rest
    ∙ step_next i.worker i.journal.now i.place c.index-self-self.result c.loop-self-test.true c.index-self-self.is i.number (ap (λ (e : Entry). e.worker) c.index-self-self.is ∙ c.if-entry-self.true)
    ∙ ap (λ (e : Entry). step_text (i.number + 1) e ++ numbered step_text ((i.number + 1) + 1) (steps_by i.worker (drop (i.place + 1) i.journal.now))) c.index-self-self.is

pub loop-self-preserved : goal.loop-self-preserved
loop-self-preserved c =
    let i = c.loop-self.self-inside in
    record {
      counted = omega (arith, c.loop-self.invariant.counted);
      rest = sym (step_passed i.worker i.journal.now i.place c.index-self-self.result c.loop-self-test.true c.index-self-self.is i.number (λ own. c.if-entry-self.false (sym (ap (λ (e : Entry). e.worker) c.index-self-self.is) ∙ own))) ∙ c.loop-self.invariant.rest;
    }

pub returns : goal.returns
returns c =
    let i = c.loop-self.self-inside in
    let none = no_step i.worker (i.number + 1) i.journal.now i.place c.loop-self-test.false in
    (sym c.loop-self.invariant.rest ∙ none, none)
