-- Contingencies of which some have the same ids.
use Rattle.std.specs.Prelude.{◌≡◌, ℕ, Bool, Option, Some, List, map, slice_get, option_map}
use Rattle.grid_contingencies.specs.declared.FaultCase.{FaultCase}
use Rattle.grid_contingencies.specs.declared.Contingency.{Contingency}

-- what counts of a contingency: all but its name
abbrev pub event_of : Contingency → FaultCase × Bool
event_of contingency = (contingency.event, contingency.has_fault)

-- that of a group, where these contingencies stand for the groups
abbrev pub event_of_group : List Contingency → ℕ → Option (FaultCase × Bool)
event_of_group firsts group = option_map event_of (slice_get firsts group)

-- each contingency is of a group with its event
abbrev pub AreAlike : List Contingency → List Contingency → List ℕ → Type 0
AreAlike list firsts groups = map (event_of_group firsts) groups ≡ map (λ c. Some (event_of c)) list
