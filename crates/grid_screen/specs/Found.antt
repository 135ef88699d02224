-- What is found of a contingency.
use Rattle.std.specs.Prelude.{◌≡◌, ℕ, ℤ, pos, ◌+ℤ◌, neg_ℤ, Bool, true, false, not, ◌||◌, nat_lt, if◌then◌else◌, Option, Some, None, List, map, find, slice_get, option_and_then}
use Rattle.std.specs.Option.{option_map}
use Rattle.std.specs.Ordering.{int_eq}
use Rattle.grid_level.specs.declared.Switch.{Switch}
use Rattle.grid_level.specs.Passing.{is_operable}
use Rattle.grid_structure.specs.declared.SwitchAt.{SwitchAt}
use Rattle.grid_structure.specs.Network.{Network}
use Rattle.grid_structure.specs.Sites.{levels, find_switch}
use Rattle.grid_core.specs.declared.case.Case.{Case}
use Rattle.grid_core.specs.Solo.{State}
use Rattle.grid_contingencies.specs.declared.FaultCase.{FaultCase}
use Rattle.grid_contingencies.specs.declared.Contingency.{Contingency}
use Rattle.grid_figures.specs.declared.Figures.{Figures}
use Rattle.grid_screen.specs.declared.Losses.{Losses}
use Rattle.grid_screen.specs.declared.Finding.{Finding}
use Rattle.grid_screen.specs.declared.Finding.TheVariants.{UnknownId, NoBreaker, Effect}
use Rattle.grid_screen.specs.Findings.{state_in, figures_of}
use Rattle.grid_screen.specs.Outages.{is_known, first_unknown}
use Rattle.grid_screen.specs.Faults.{before_fault, tripped_of, cleared_of}

-- ---- ids that are amiss

abbrev pub is_operable_one : Option Switch → Bool
is_operable_one (Some s) = is_operable s
is_operable_one None = false

-- a breaker that is not fictitious has the id
unfoldable pub is_breaker : Network → List ℕ → Bool
is_breaker net id = is_operable_one (option_and_then (λ at. option_and_then (λ l. slice_get l.switches at.1) (slice_get (levels net) at.0)) (find_switch net id))

unfoldable pub first_no_breaker : Network → List (List ℕ) → Option (List ℕ)
first_no_breaker net ids = find (λ id. not (is_breaker net id)) ids

-- an id that is stuck and of no breaker
unfoldable pub stuck_amiss : Network → List ℕ → Finding
stuck_amiss net id = if is_known net id then NoBreaker id else UnknownId id

abbrev pub first_of : Option Finding → Option Finding → Option Finding
first_of (Some finding) later = Some finding
first_of None later = later

-- the ids of what is out, then of what is hit, then of what is stuck are gone through in order
unfoldable pub first_amiss : Network → FaultCase → Option Finding
first_amiss net event =
    first_of (option_map UnknownId (first_unknown net event.out)) (first_of (option_map UnknownId (first_unknown net event.fault)) (option_map (stuck_amiss net) (first_no_breaker net event.stuck)))

-- ---- effects

-- what is lost is before less after, so that it may be below 0
unfoldable pub losses_of : Figures → Figures → Losses
losses_of before after = record {
  load = before.load +ℤ neg_ℤ after.load;
  generation = before.generation +ℤ neg_ℤ after.generation;
  unconnected_load = before.total_load +ℤ neg_ℤ after.total_load;
  unconnected_generation = before.total_generation +ℤ neg_ℤ after.total_generation;
}

unfoldable pub effect_of : Figures → Figures → Option (List SwitchAt) → Finding
effect_of before after tripped = Effect after (losses_of before after) tripped

-- where there is a fault: when it is cleared, with the breakers that tripped; and else with what is out
unfoldable pub effect_in : State → FaultCase → Bool → Finding
effect_in state event true = effect_of (figures_of state) (figures_of (cleared_of state event)) (Some (tripped_of state event))
effect_in state event false = effect_of (figures_of state) (figures_of (before_fault state event)) None

abbrev pub amiss_or : Finding → Option Finding → Finding
amiss_or effect (Some amiss) = amiss
amiss_or effect None = effect

-- what is amiss is told of the state before any outage
unfoldable pub found_of : State → FaultCase → Bool → Finding
found_of state event has_fault = amiss_or (effect_in state event has_fault) (first_amiss state.structure event)

unfoldable pub finding_of : State → Contingency → Finding
finding_of state contingency = found_of state contingency.event contingency.has_fault

-- ---- losses

abbrev pub is_some_watts : ℤ → Bool
is_some_watts watts = not (int_eq watts (pos 0))

unfoldable pub has_losses : Losses → Bool
has_losses l = is_some_watts l.load || (is_some_watts l.generation || (is_some_watts l.unconnected_load || is_some_watts l.unconnected_generation))

-- an id is amiss, watts are lost, or there are more components than before
unfoldable pub is_loss : Figures → Finding → Bool
is_loss before (UnknownId id) = true
is_loss before (NoBreaker id) = true
is_loss before (Effect after losses tripped) = has_losses losses || nat_lt before.components after.components

-- ---- what is said of a case, whatever flags retained its switches have

-- of a list, in its order
abbrev pub AreFindings : Case → List Contingency → List Finding → Type 0
AreFindings case list findings = (retained : List (List Bool)) → findings ≡ map (finding_of (state_in case retained)) list

abbrev pub IsFinding : Case → Contingency → Finding → Type 0
IsFinding case contingency finding = (retained : List (List Bool)) → finding ≡ finding_of (state_in case retained) contingency

abbrev pub IsEffect : Case → FaultCase → Bool → Finding → Type 0
IsEffect case event has_fault finding = (retained : List (List Bool)) → finding ≡ effect_in (state_in case retained) event has_fault
