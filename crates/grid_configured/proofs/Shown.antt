-- What the report of a history tells: the order of its steps, and each worker's script.
use Rattle.std.proofs.Common.{◌≡◌, ℕ, ◌==◌, cond, Bool, true, false, List, [], ◌∷◌, map, length, refl, sym, ap, ◌∙◌, arith}
use Rattle.std.specs.Prelude.{filter, zip}
use Rattle.grid_core.specs.declared.journal.Entry.{Entry}
use Rattle.grid_core.specs.Journals.{journal_of}
use Rattle.grid_report.specs.Outcomes as outcomes
use Rattle.grid_report.specs.Histories.{steps_of}
use Rattle.grid_report.proofs.JournalReports.{shows}
use Rattle.grid_report.proofs.Scripts.{scripts_shown}
use Rattle.grid_configured.specs.declared.reply.ConfiguredReply.{ConfiguredReply}
use Rattle.grid_configured.specs.Translation.{translated}
use Rattle.grid_configured.specs.Texts.{Told, order_line, steps_by}
use Rattle.grid_configured.specs.Outcomes.{told_pair, told_of}
use Rattle.grid_configured.specs.Reports.{replies_of, ReportShowsOrder, ReportShowsScripts}
use Rattle.grid_configured.proofs.ReportSteps.{order_shown}
use Rattle.grid_configured.proofs.HistoryOutcomes.{evenly, tells}

pub shows_order : ReportShowsOrder
shows_order network steps =
    let journal = journal_of (translated network) steps in
    let replies = replies_of network steps in
    sym (ap order_line (tells (translated network) network steps))
    ∙ sym (order_shown journal replies (evenly (translated network) network steps))
    ∙ shows (translated network) steps

-- what a worker asked, by the journal and by what is told
asked_alike : (worker : ℕ) (journal : List Entry) (replies : List ConfiguredReply) → length replies ≡ length journal
    → map (λ (t : Told). t.request) (filter (λ (t : Told). t.worker == worker) (map told_pair (zip journal replies))) ≡ map (λ (e : Entry). e.request) (filter (λ (e : Entry). e.worker == worker) journal)
asked_alike worker [] [] even = refl
asked_alike worker [] (r ∷ replies) even = absurd (omega (arith, even))
asked_alike worker (e ∷ journal) [] even = absurd (omega (arith, even))
asked_alike worker (e ∷ journal) (r ∷ replies) even = by (e.worker == worker) (asked_alike worker journal replies (omega (arith, even)))
  where
    by : (b : Bool) → map (λ (t : Told). t.request) (filter (λ (t : Told). t.worker == worker) (map told_pair (zip journal replies))) ≡ map (λ (x : Entry). x.request) (filter (λ (x : Entry). x.worker == worker) journal)
        → map (λ (t : Told). t.request) (cond b (told_pair (e, r) ∷ filter (λ (t : Told). t.worker == worker) (map told_pair (zip journal replies))) (filter (λ (t : Told). t.worker == worker) (map told_pair (zip journal replies))))
        ≡ map (λ (x : Entry). x.request) (cond b (e ∷ filter (λ (x : Entry). x.worker == worker) journal) (filter (λ (x : Entry). x.worker == worker) journal))
    by true rest = ap (λ l. e.request ∷ l) rest
    by false rest = rest

asked_as_told : (worker : ℕ) (journal : List Entry) (replies : List ConfiguredReply) → length replies ≡ length journal → map (λ (t : Told). t.request) (steps_by worker (told_of journal replies)) ≡ map (λ (e : Entry). e.request) (outcomes.steps_by worker journal)
unfolding steps_by told_of outcomes.steps_by
asked_as_told worker journal replies even = asked_alike worker journal replies even

pub shows_scripts : ReportShowsScripts
shows_scripts network scripts order ordered worker =
    let steps = steps_of scripts order in
    sym (ap (λ told. map (λ (t : Told). t.request) (steps_by worker told)) (tells (translated network) network steps))
    ∙ asked_as_told worker (journal_of (translated network) steps) (replies_of network steps) (evenly (translated network) network steps)
    ∙ scripts_shown (translated network) scripts order ordered worker
