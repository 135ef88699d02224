-- A world after one step more.
use Rattle.std.proofs.Common.{◌≡◌, refl, sym, ap, ◌∙◌, subst, ℕ, ◌<◌, List, [], ◌∷◌, ◌++◌, length, get_or, Some}
use Rattle.std.specs.Prelude.{All}
use Rattle.std.proofs.lemmas.List.Elements.{All-cons}
use Rattle.grid_lemmas.proofs.Lists.{get_there}
use Rattle.grid_structure.specs.Network.{Network}
use Rattle.grid_requests.specs.declared.request.Request.{Request}
use Rattle.grid_core.specs.declared.journal.Entry.{Entry}
use Rattle.grid_core.specs.declared.machine.Machine.{Machine}
use Rattle.grid_core.specs.declared.machine.Made.{Made}
use Rattle.grid_core.specs.History.{History, Command, command, longer, working}
use Rattle.grid_core.specs.Replies.{reply, step_events}
use Rattle.grid_core.specs.Journals.{entry_made, entry_of, journal_of, steps_told}
use Rattle.grid_slots.specs.Variant.{Variant}
use Rattle.grid_core.specs.declared.kept.Kept.{Kept}
use Rattle.grid_core.specs.Kept.{IsKept}
use Rattle.grid_core.specs.Machines.{Held, IsSame, Makes, WorksOn}
use Rattle.grid_core.specs.Worlds.{IsWorld}
use Rattle.grid_core.proofs.JournalEntries.{steps-push}
use Rattle.grid_core.proofs.VariantSteps.{working_of}
use Rattle.std.proofs.lemmas.Option.{slice_get_within}

abbrev pub history : Network → ℕ → List Command → History
history origin workers steps = record { origin = origin; workers = workers; steps = steps }

-- a step that was made and entered in the journal
module _ (origin : Network) (m new : Machine) (journal begun entries : List Entry) (worker : ℕ) (variant : List ℕ) (request asked : Request) (made : Made) (count : length new.working.items ≡ length m.working.items) (same : asked ≡ request) (kept : begun ≡ journal) (are : entries ≡ begun ++ entry_made worker variant asked made ∷ []) where
  longer_by : entries ≡ journal ++ entry_made worker variant asked made ∷ []
  longer_by = are ∙ ap (λ (es : List Entry). es ++ entry_made worker variant asked made ∷ []) kept

  told : steps_told entries ≡ command worker request ∷ steps_told journal
  told = ap steps_told longer_by ∙ steps-push journal (entry_made worker variant asked made) ∙ ap (λ (r : Request). command worker r ∷ steps_told journal) same

  -- the entry is that of the step
  entry_is : (before : List Command) → working before worker ≡ variant → made.kept ≡ reply origin before (command worker request) → made.events ≡ step_events origin before (command worker request)
      → entry_made worker variant asked made ≡ entry_of origin before (command worker request)
  unfolding entry_of
  entry_is before works replied tells = rw (same, sym works, replied, tells) refl

  pub world_after : IsWorld origin m journal → WorksOn m worker variant → Makes origin (steps_told journal) (command worker request) made new → IsWorld origin new entries
  unfolding journal_of
  world_after w works h =
      record {
        held = subst (λ z. Held origin z new) (sym told) h.held;
        told = longer_by ∙ ap (λ z. z ++ entry_made worker variant asked made ∷ []) w.told
            ∙ ap (λ e. journal_of origin (steps_told journal) ++ e ∷ []) (entry_is (steps_told journal) (working_of origin (steps_told journal) m worker variant w.held works) h.kept h.told)
            ∙ ap (journal_of origin) (sym told);
        by_workers = subst (λ (n : ℕ). All (λ s. s.worker < n) (steps_told entries)) (sym count)
            (subst (λ (z : List Command). All (λ s. s.worker < length m.working.items) z) (sym told) (All-cons (λ (s : Command). s.worker < length m.working.items) (command worker request) (steps_told journal) (slice_get_within m.working.items worker variant works) w.by_workers));
      }

  -- what it is seen as
  pub grown : (h : History) → history origin (length m.working.items) (steps_told journal) ≡ h → history origin (length new.working.items) (steps_told entries) ≡ longer h (command worker request)
  grown h is =
      ap (λ n. history origin n (steps_told entries)) count ∙ ap (λ s. history origin (length m.working.items) s) told ∙ ap (λ (z : History). longer z (command worker request)) is

-- the name that the worker has
pub worker_works : (m : Machine) (worker : ℕ) (name variant : List ℕ) → worker < length m.working.items → name ≡ get_or m.working.items worker name → variant ≡ name → WorksOn m worker variant
worker_works m worker name variant h is same = get_there m.working.items worker name h is ∙ ap (λ (z : List ℕ). Some z) (sym same)

-- ---- where out of memory has changed nothing

pub world_same : (origin : Network) (m new : Machine) (journal entries : List Entry) → IsSame m new → entries ≡ journal → IsWorld origin m journal → IsWorld origin new entries
world_same origin m new journal entries same kept w =
    subst (λ (es : List Entry). IsWorld origin new es) (sym kept)
    (record {
      held = record { parts = rw (same.0, same.1, same.2) w.held.parts; listing = rw (same.0) w.held.listing };
      told = w.told;
      by_workers = subst (λ (n : ℕ). All (λ s. s.worker < n) (steps_told journal)) (sym (ap length same.2)) w.by_workers;
    })

pub kept_same : (m new : Machine) (all : Kept) → IsSame m new → IsKept m.structure m.slots all → IsKept new.structure new.slots all
kept_same m new all same k = subst (λ (net : Network). IsKept net new.slots all) (sym same.0) (subst (λ (vs : List Variant). IsKept m.structure vs all) (sym same.1) k)
