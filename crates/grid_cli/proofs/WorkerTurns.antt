-- The live variants one after the other, as a loop goes over them by place.
use Rattle.std.proofs.Common.{◌≡◌, refl, sym, ap, ◌∙◌, ℕ, suc, ◌+◌, ◌≤◌, ◌<◌, List, [], ◌∷◌, ◌++◌, length, map, drop, add-one, append_assoc, append-nil, drop-cons, get_or}
use Rattle.std.proofs.lemmas.List.{drop_all}
use Rattle.grid_requests.specs.declared.request.Request.{Request}
use Rattle.grid_core.specs.declared.journal.Entry.{Entry}
use Rattle.grid_core.specs.History.{History}
use Rattle.grid_core.specs.Journals.{journal_of}
use Rattle.grid_events.specs.declared.filter.Filter.{Filter}
use Rattle.grid_report.specs.declared.outcome.VariantView.{VariantView}
use Rattle.grid_report.specs.declared.outcome.Outcome.{Outcome}
use Rattle.grid_report.specs.Histories.{in_turn_from, variant_views, outcome_of}

-- one worker's turn, and then the next one's
pub turn : (scripts : List (List Request)) (k : ℕ) (script : List Request) (so_far total : List ℕ) → k < length scripts → script ≡ get_or scripts k script
    → so_far ++ in_turn_from k (drop k scripts) ≡ total → (so_far ++ map (λ request. k) script) ++ in_turn_from (k + 1) (drop (k + 1) scripts) ≡ total
unfolding in_turn_from
turn scripts k script so_far total lt is all =
    let cut : drop k scripts ≡ script ∷ drop (suc k) scripts = drop-cons scripts k script lt ∙ ap (λ s. s ∷ drop (suc k) scripts) (sym is) in
    let one : in_turn_from k (drop k scripts) ≡ map (λ request. k) script ++ in_turn_from (suc k) (drop (suc k) scripts) = rw cut refl in
    rw (add-one k, append_assoc) (rw one at all)

pub turns_over : (scripts : List (List Request)) (k : ℕ) (so_far total : List ℕ) → length scripts ≤ k → so_far ++ in_turn_from k (drop k scripts) ≡ total → so_far ≡ total
unfolding in_turn_from
turns_over scripts k so_far total le all =
    let none : drop k scripts ≡ [] = drop_all k scripts le in
    sym (append-nil so_far) ∙ rw none at all

-- ---- what came of a job

abbrev pub with_filters : List Filter → List Entry → ℕ → List VariantView → Outcome
with_filters filters journal workers views = record { journal = journal; workers = workers; views = views; filters = filters }

-- what came of it
pub came : (world : History) (filters : List Filter) (journal : List Entry) (workers : ℕ) (views : List VariantView) → journal ≡ journal_of world.origin world.steps → workers ≡ world.workers → views ≡ variant_views world.origin world.steps
    → with_filters filters journal workers views ≡ outcome_of world filters
unfolding outcome_of
came world filters journal workers views told many seen =
    ap (λ j. with_filters filters j workers views) told
    ∙ ap (λ n. with_filters filters (journal_of world.origin world.steps) n views) many
    ∙ ap (with_filters filters (journal_of world.origin world.steps) world.workers) seen
