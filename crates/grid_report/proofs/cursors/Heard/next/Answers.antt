use Rattle.std.proofs.Common.{◌≡◌, ◌++◌, Option, Some, Bor, [], length, sym, ap, ◌∙◌}
use Rattle.std.specs.Prelude.{filter}
use Rattle.std.specs.List.{flat_map}
use Rattle.std.specs.Option.{option_copied}
use Rattle.grid_events.specs.declared.filter.Filter.{Filter}
use Rattle.grid_events.specs.Filters.{matches}
use Rattle.grid_core.specs.declared.journal.Entry.{Entry}
use Rattle.grid_report.specs.Events.{event_line}
use Rattle.grid_report.specs.Cursors.{lines_for}
use Rattle.grid_report.proofs.RemainingText.{heard_next, heard_all, heard_step}
use Rattle.grid_report.proofs.cursors.Heard.next.Goals as goal

pub returns-in_err-wanted : goal.returns-in_err-wanted
unfolding lines_for
returns-in_err-wanted c =
    let i = c.self.inside in
    let none : c.args.self.now ≡ [] = sym c.self.view_is ∙ ap (λ (w : Option (Bor Filter)). lines_for (option_copied w) (i.events.now ++ flat_map (λ (e : Entry). e.events) i.journal.now)) c.in_err-wanted.was in
    rw c.from_residual.ensures (none, none)

pub loop-event-init : goal.loop-event-init
loop-event-init c =
    let i = c.self.inside in
    record {
      wanted = ap (λ (w : Option (Bor Filter)). option_copied w) c.in_ok-wanted.was;
      rest = ap (λ (w : Option (Bor Filter)). lines_for (option_copied w) (i.events.now ++ flat_map (λ (e : Entry). e.events) i.journal.now)) (sym c.in_ok-wanted.was) ∙ c.self.view_is;
    }

pub returns-in-Some : goal.returns-in-Some
returns-in-Some c =
    let i = c.loop-event.self-inside in
    sym c.loop-event.invariant.rest
    ∙ heard_next c.in_ok-wanted.wanted.now i.events.now c.next_event.new.events.now (flat_map (λ (e : Entry). e.events) i.journal.now) c.in-Some.event.now c.in-Some.ensures
    ∙ ap (λ (f : Option Filter). event_line c.in-Some.event.now ++ lines_for f (c.next_event.new.events.now ++ flat_map (λ (e : Entry). e.events) i.journal.now)) (sym c.loop-event.invariant.wanted)

pub returns-in_err-entry : goal.returns-in_err-entry
returns-in_err-entry c =
    let i = c.loop-event.self-inside in
    let over = c.in_err-entry.ensures.cases in
    let passed = sym c.loop-event.invariant.rest ∙ heard_all c.in_ok-wanted.wanted.now i.events.now i.journal.now c.in_default.ensures.0 over.0 in
    let left =
    ap (λ (f : Option Filter). lines_for f (c.next_event.new.events.now ++ flat_map (λ (e : Entry). e.events) c.split_off_first.new.self.now)) c.loop-event.invariant.wanted
    ∙ heard_all c.in_ok-wanted.wanted.now c.next_event.new.events.now c.split_off_first.new.self.now (ap (filter (matches c.in_ok-wanted.wanted.now)) c.in_default.ensures.1) (ap length over.1 ∙ over.0) in
    rw c.from_residual-in_err-entry.ensures (passed, left)

pub loop-event-preserved : goal.loop-event-preserved
loop-event-preserved c =
    let i = c.loop-event.self-inside in
    record {
      wanted = c.loop-event.invariant.wanted;
      rest =
          ap (λ l. lines_for (Some c.in_ok-wanted.wanted.now) (l ++ flat_map (λ (e : Entry). e.events) c.split_off_first.new.self.now)) c.slice-self-inside.ensures
          ∙ sym (heard_step c.in_ok-wanted.wanted.now i.events.now i.journal.now c.split_off_first.new.self.now c.in_ok-entry.entry.now c.in_default.ensures.0 c.in_ok-entry.ensures.cases.0)
          ∙ c.loop-event.invariant.rest;
    }
