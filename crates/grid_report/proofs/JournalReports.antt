-- What a report tells of a journal: the order of its steps, and what listeners hear.
use Rattle.std.proofs.Common.{◌≡◌, ℕ, List, [], ◌∷◌, ◌++◌, refl, sym, ap, ◌∙◌, append-nil}
use Rattle.std.specs.Prelude.{filter, codes, decimal}
use Rattle.std.specs.List.{flat_map}
use Rattle.std.proofs.lemmas.List.Concat.{flat_map-append}
use Rattle.std.proofs.lemmas.List.Elements.{filter-append}
use Rattle.grid_structure.specs.Network.{Network}
use Rattle.grid_events.specs.declared.filter.Filter.{Filter}
use Rattle.grid_events.specs.Filters.{matches}
use Rattle.grid_core.specs.declared.journal.Entry.{Entry}
use Rattle.grid_core.specs.History.{Command}
use Rattle.grid_core.specs.Replies.{heard, step_events}
use Rattle.grid_core.specs.Journals.{journal_of, entry_of}
use Rattle.grid_report.specs.Outcomes.{order_line, heard_in}
use Rattle.grid_report.specs.Histories.{told_order, HearsItsJournal, ReportShowsOrder}
use Rattle.grid_report.proofs.ScriptOrders.{told_last, told_none}

heard_last : (f : Filter) (journal : List Entry) (e : Entry) → heard_in f (journal ++ e ∷ []) ≡ heard_in f journal ++ filter (matches f) e.events
unfolding heard_in
heard_last f journal e =
    ap (filter (matches f)) (flat_map-append (λ (x : Entry). x.events) journal (e ∷ []) ∙ ap (λ l. flat_map (λ (x : Entry). x.events) journal ++ l) (append-nil e.events))
    ∙ filter-append (matches f) (flat_map (λ (x : Entry). x.events) journal) e.events

none : (f : Filter) → heard_in f [] ≡ []
unfolding heard_in
none f = refl

pub hears : HearsItsJournal
unfolding heard journal_of entry_of
hears f origin [] = none f
hears f origin (step ∷ before) =
    heard_last f (journal_of origin before) (entry_of origin before step)
    ∙ ap (λ l. l ++ filter (matches f) (step_events origin before step)) (hears f origin before)

-- ---- the order

shown_last : (journal : List Entry) (e : Entry) → flat_map (λ (x : Entry). codes " " ++ decimal x.worker) (journal ++ e ∷ []) ≡ flat_map (λ (x : Entry). codes " " ++ decimal x.worker) journal ++ (codes " " ++ decimal e.worker)
shown_last journal e =
    flat_map-append (λ (x : Entry). codes " " ++ decimal x.worker) journal (e ∷ [])
    ∙ ap (λ l. flat_map (λ (x : Entry). codes " " ++ decimal x.worker) journal ++ l) (append-nil (codes " " ++ decimal e.worker))

numbers_last : (order : List ℕ) (n : ℕ) → flat_map (λ k. codes " " ++ decimal k) (order ++ n ∷ []) ≡ flat_map (λ k. codes " " ++ decimal k) order ++ (codes " " ++ decimal n)
numbers_last order n =
    flat_map-append (λ k. codes " " ++ decimal k) order (n ∷ [])
    ∙ ap (λ l. flat_map (λ k. codes " " ++ decimal k) order ++ l) (append-nil (codes " " ++ decimal n))

workers_shown : (origin : Network) (steps : List Command) → flat_map (λ (x : Entry). codes " " ++ decimal x.worker) (journal_of origin steps) ≡ flat_map (λ k. codes " " ++ decimal k) (told_order steps)
unfolding journal_of entry_of
workers_shown origin [] = ap (flat_map (λ k. codes " " ++ decimal k)) (sym told_none)
workers_shown origin (step ∷ before) =
    shown_last (journal_of origin before) (entry_of origin before step)
    ∙ ap (λ l. l ++ (codes " " ++ decimal step.worker)) (workers_shown origin before)
    ∙ sym (numbers_last (told_order before) step.worker)
    ∙ ap (flat_map (λ k. codes " " ++ decimal k)) (sym (told_last step before))

pub shows : ReportShowsOrder
unfolding order_line
shows origin steps = ap (λ l. codes "order" ++ l ++ codes "\n") (workers_shown origin steps)
