-- What a variant stands at, of a world by its parts.
use Rattle.std.proofs.Common.{◌≡◌, refl, sym, ap, ◌∙◌, subst, ℕ, ◌<◌, true, false, List, get_or, Option, Some, None}
use Rattle.std.specs.Prelude.{IsTrue, IsFalse, MatchOption}
use Rattle.grid_structure.specs.Network.{Network}
use Rattle.grid_states.specs.Rows.{Rows}
use Rattle.grid_slots.specs.Variants.{rows_at, IsTable}
use Rattle.grid_slots.proofs.UsedSlots.{used_below}
use Rattle.grid_core.specs.declared.journal.Entry.{Entry}
use Rattle.grid_core.specs.declared.machine.Machine.{Machine}
use Rattle.grid_requests.specs.declared.request.Request.{Request}
use Rattle.grid_core.specs.declared.verdict.Verdict.{Verdict}
use Rattle.grid_core.specs.History.{History, is_live, slot_in, working, structure}
use Rattle.grid_core.specs.Journals.{steps_told}
use Rattle.grid_core.specs.Solo.{state_rows}
use Rattle.grid_core.specs.Replies.{state_of}
use Rattle.grid_core.specs.Fitting.{StateFits}
use Rattle.grid_core.specs.Machines.{AllListing, IsMachine, IsDead, Standing, StandsAt, WorksOn}
use Rattle.grid_core.specs.Verdicts.{IsVerdict, DecidesAfter}
use Rattle.grid_core.specs.Worlds.{history_of, IsWorld, worker_live, worker_state}
use Rattle.grid_core.proofs.NameRows.{slot_there}
use Rattle.grid_core.proofs.VariantSteps.{working_of}
use Rattle.grid_core.proofs.WorldSteps.{worker_works}

module _ (h : History) (origin : Network) (m : Machine) (journal : List Entry) (seen : history_of origin m journal ≡ h) (w : IsWorld origin m journal) where
  machine_is : IsMachine m
  machine_is = (origin, (steps_told journal, w.held))

  -- the name of a worker
  pub named : (worker : ℕ) (name : List ℕ) → worker < h.workers → name ≡ get_or m.working.items worker name → name ≡ working h.steps worker
  named worker name below is =
      let within = subst (λ (n : ℕ). worker < n) (sym (ap (λ (z : History). z.workers) seen)) below in
      sym (working_of origin (steps_told journal) m worker name w.held (worker_works m worker name name within is refl)) ∙ ap (λ (z : History). working z.steps worker) seen

  pub decides : (worker : ℕ) (v : List ℕ) → WorksOn m worker v → (request : Request) (verdict : Verdict) → worker_live h worker ≡ true → IsVerdict (worker_state h worker) (working h.steps worker) request verdict → DecidesAfter origin (steps_told journal) m v request verdict
  unfolding worker_live worker_state
  decides worker v works request verdict live it =
      let mine = working_of origin (steps_told journal) m worker v w.held works in
      record {
        held = w.held;
        alive = ap (is_live (steps_told journal)) (sym mine) ∙ ap (λ (z : History). is_live z.steps (working z.steps worker)) seen ∙ live;
        is = subst (λ (n : List ℕ). IsVerdict (state_of origin (steps_told journal) n) n request verdict) mine
            (subst (λ (z : History). IsVerdict (state_of z.origin z.steps (working z.steps worker)) (working z.steps worker) request verdict) (sym seen) it);
      }

  module _ (name : List ℕ) where
    live_is : is_live h.steps name ≡ is_live (steps_told journal) name
    live_is = ap (λ (z : History). is_live z.steps name) (sym seen)

    state_is : state_of h.origin h.steps name ≡ state_of origin (steps_told journal) name
    state_is = ap (λ (z : History). state_of z.origin z.steps name) (sym seen)

    not_live : IsDead m name → is_live h.steps name ≡ false
    not_live none = live_is ∙ none origin (steps_told journal) w.held

    pub contradicts : IsDead m name → is_live h.steps name ≡ true → ⊥
    contradicts none live = cc (not_live none, live)

    module _ (slot : ℕ) (at : StandsAt m name slot) where
      s : Standing origin (steps_told journal) m name slot
      s = at.1 origin (steps_told journal) w.held

      slot_live : is_live h.steps name ≡ true
      slot_live = live_is ∙ s.alive

      pub rows_are : (rows : Rows) → rows ≡ rows_at m.slots slot → rows ≡ state_rows (state_of h.origin h.steps name)
      rows_are rows is = is ∙ s.rows ∙ ap state_rows (sym state_is)

      pub structure_is : structure h.origin h.steps ≡ (state_of h.origin h.steps name).structure
      structure_is = ap (λ (z : History). structure z.origin z.steps) (sym seen) ∙ sym w.held.parts.structure_is ∙ s.structure_is ∙ ap (λ z. z.structure) (sym state_is)

      pub fits : StateFits (state_of h.origin h.steps name)
      fits = subst StateFits (sym state_is) s.fits

-- what each live variant lists is there
pub all_listing : (h : History) (origin : Network) (m : Machine) (journal : List Entry) → history_of origin m journal ≡ h → IsWorld origin m journal → AllListing h.origin h.steps (structure h.origin h.steps)
all_listing h origin m journal seen w =
    subst (λ (z : History). AllListing z.origin z.steps (structure z.origin z.steps)) seen (subst (AllListing origin (steps_told journal)) w.held.parts.structure_is w.held.listing)

pub matched : (h : History) (origin : Network) (m : Machine) (journal : List Entry) → history_of origin m journal ≡ h → IsWorld origin m journal → IsTable m.slots → (name : List ℕ) → (o : Option ℕ)
    → MatchOption o (IsDead m name) (StandsAt m name) → MatchOption o (IsFalse (is_live h.steps name)) (λ slot. IsTrue (is_live h.steps name) × (slot < 64) × (slot_in h.steps name ≡ Some slot))
matched h origin m journal seen w table name None found = not_live h origin m journal seen w name found
matched h origin m journal seen w table name (Some slot) found = (
  slot_live h origin m journal seen w name slot found,
  used_below m.slots slot table.below (slot_there m.slots name slot found.0),
  ap (λ (z : History). slot_in z.steps name) (sym seen) ∙ sym (w.held.parts.slots_are name) ∙ found.0,
)
