use Rattle.std.proofs.Common.{◌≡◌, Option, Some, Bor, [], ◌∷◌, length, map, sym, ap, ◌∙◌}
use Rattle.std.specs.Option.{option_copied, option_map}
use Rattle.std.proofs.lemmas.List.{nil_from_length}
use Rattle.grid_events.specs.declared.filter.Filter.{Filter}
use Rattle.grid_jsonl.specs.Borrowed.{step_in}
use Rattle.grid_jsonl.specs.Lines.{line_text, texts, heard_for}
use Rattle.grid_jsonl.proofs.RemainingLines.{heard_next, heard_on, heard_over, heard_step}
use Rattle.grid_jsonl.proofs.cursors.Heard.next.Goals as goal

pub returns-in_err-wanted : goal.returns-in_err-wanted
unfolding heard_for
returns-in_err-wanted c =
    let i = c.self.inside in
    let none : c.args.self.now ≡ [] = sym c.self.view_is ∙ ap (λ (w : Option (Bor Filter)). texts (heard_for i.listener (option_copied w) (option_map step_in i.step) i.events.now (map step_in i.rest.now))) c.in_err-wanted.was in
    rw c.from_residual.ensures (none, none)

pub loop-line-init : goal.loop-line-init
loop-line-init c =
    let i = c.self.inside in
    record {
      wanted = ap (λ (w : Option (Bor Filter)). option_copied w) c.in_ok-wanted.was;
      rest = ap (λ (w : Option (Bor Filter)). texts (heard_for i.listener (option_copied w) (option_map step_in i.step) i.events.now (map step_in i.rest.now))) (sym c.in_ok-wanted.was) ∙ c.self.view_is;
    }

pub returns-in-Some : goal.returns-in-Some
returns-in-Some c =
    let i = c.loop-line.self-inside in
    sym c.loop-line.invariant.rest
    ∙ heard_next i.listener c.in_ok-wanted.wanted.now (option_map step_in i.step) (map step_in i.rest.now) i.events.now c.next_told.new.events.now (line_text c.in-Some.line) c.in-Some.ensures
    ∙ ap (λ (f : Option Filter). line_text c.in-Some.line ∷ texts (heard_for i.listener f (option_map step_in i.step) c.next_told.new.events.now (map step_in i.rest.now))) (sym c.loop-line.invariant.wanted)

pub returns-in_err-step : goal.returns-in_err-step
returns-in_err-step c =
    let i = c.loop-line.self-inside in
    let wanted = c.in_ok-wanted.wanted.now in
    let over = c.in_err-step.ensures.cases in
    let passed = sym c.loop-line.invariant.rest ∙ heard_over i.listener wanted (option_map step_in i.step) (map step_in i.rest.now) i.events.now c.in_default.ensures.0 (ap (map step_in) (nil_from_length i.rest.now over.0)) in
    let left =
    ap (λ (f : Option Filter). texts (heard_for i.listener f (option_map step_in i.step) c.next_told.new.events.now (map step_in c.split_off_first.new.self.now))) c.loop-line.invariant.wanted
    ∙ heard_over i.listener wanted (option_map step_in i.step) (map step_in c.split_off_first.new.self.now) c.next_told.new.events.now c.in_default.ensures.1 (ap (map step_in) (nil_from_length c.split_off_first.new.self.now (ap length over.1 ∙ over.0))) in
    rw c.from_residual-in_err-step.ensures (passed, left)

pub loop-line-preserved : goal.loop-line-preserved
loop-line-preserved c =
    let i = c.loop-line.self-inside in
    let wanted = c.in_ok-wanted.wanted.now in
    let s = step_in c.in_ok-step.step.now in
    let rest = map step_in c.split_off_first.new.self.now in
    record {
      wanted = c.loop-line.invariant.wanted;
      rest =
          ap (λ l. texts (heard_for i.listener (Some wanted) (Some s) l rest)) c.slice-self-inside.ensures
          ∙ ap texts (heard_step i.listener wanted s rest)
          ∙ sym (heard_on i.listener wanted (option_map step_in i.step) (s ∷ rest) i.events.now c.in_default.ensures.0)
          ∙ ap (λ l. texts (heard_for i.listener (Some wanted) (option_map step_in i.step) i.events.now (map step_in l))) (sym c.in_ok-step.ensures.cases.0)
          ∙ c.loop-line.invariant.rest;
    }
