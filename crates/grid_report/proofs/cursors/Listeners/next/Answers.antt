use Rattle.std.proofs.Common.{◌+◌, ◌++◌, drop, sym, ap, ◌∙◌, append_assoc}
use Rattle.std.specs.List.{flat_map}
use Rattle.grid_events.specs.declared.filter.Filter.{Filter}
use Rattle.grid_report.specs.Events.{event_line}
use Rattle.grid_report.specs.Outcomes.{numbered, heard_in, listener_line, listener_text}
use Rattle.grid_report.proofs.RemainingText.{items_next, none_left}
use Rattle.grid_report.proofs.cursors.Listeners.next.Goals as goal

pub returns-then-self : goal.returns-then-self
returns-then-self c =
    let i = c.self.inside in
    let none = none_left (listener_text i.journal.now) i.filters.now i.number i.number c.if-self.true in (
      sym c.self.view_is ∙ ap (λ l. l ++ numbered (listener_text i.journal.now) i.number (drop i.number i.filters.now)) c.in_default.ensures.0 ∙ none,
      ap (λ l. l ++ numbered (listener_text i.journal.now) i.number (drop i.number i.filters.now)) c.in_default.ensures.1 ∙ none,
    )

pub returns : goal.returns
unfolding listener_text
returns c =
    let i = c.self.inside in
    let wanted = c.index-self-number.result in
    sym c.self.view_is
    ∙ ap (λ l. l ++ numbered (listener_text i.journal.now) i.number (drop i.number i.filters.now)) c.in_default.ensures.0
    ∙ items_next (listener_text i.journal.now) i.filters.now i.number wanted c.if-self.false c.index-self-number.is
    ∙ append_assoc (listener_line i.number) (flat_map event_line (heard_in wanted i.journal.now)) (numbered (listener_text i.journal.now) (i.number + 1) (drop (i.number + 1) i.filters.now))
    ∙ ap (λ (f : Filter). listener_line i.number ++ (flat_map event_line (heard_in f i.journal.now) ++ numbered (listener_text i.journal.now) (i.number + 1) (drop (i.number + 1) i.filters.now))) c.index-self-number.is
    ∙ ap (λ l. listener_line i.number ++ (l ++ numbered (listener_text i.journal.now) (i.number + 1) (drop (i.number + 1) i.filters.now))) (sym c.of-self-inside.ensures)
