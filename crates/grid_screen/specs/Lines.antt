-- The lines of contingencies.
use Rattle.std.specs.Prelude.{ℕ, Option, Some, None, List, [], ◌∷◌, ◌++◌, flat_map, codes}
use Rattle.serde_json.specs.Data.{Data, string}
use Rattle.grid_json.specs.declared.format.Format.{Format}
use Rattle.grid_json.specs.declared.format.Format.TheVariants as formats
use Rattle.grid_print.specs.Objects.{natural, array_of}
use Rattle.grid_jsonl.specs.Trees.{sum_value}
use Rattle.grid_jsonl.specs.Outcomes.{object_of_kind}
use Rattle.grid_structure.specs.declared.SwitchAt.{SwitchAt}
use Rattle.grid_structure.specs.Network.{Network}
use Rattle.grid_figures.specs.declared.Figures.{Figures}
use Rattle.grid_screen.specs.declared.Losses.{Losses}
use Rattle.grid_screen.specs.declared.Finding.{Finding}
use Rattle.grid_screen.specs.declared.Finding.TheVariants.{UnknownId, NoBreaker, Effect}
use Rattle.grid_screen.specs.Faults.{switch_ids}

-- the figures after the outage, and what was lost
unfoldable pub effect_fields : Figures → Losses → List (List ℕ × Data)
effect_fields after losses =
    (codes "buses", natural after.buses)
    ∷ (codes "components", natural after.components)
    ∷ (codes "main", natural after.main)
    ∷ (codes "lost_load", sum_value losses.load)
    ∷ (codes "lost_generation", sum_value losses.generation) ∷ []

unfoldable pub unconnected_fields : Losses → List (List ℕ × Data)
unconnected_fields losses =
    (codes "unconnected_load", sum_value losses.unconnected_load)
    ∷ (codes "unconnected_generation", sum_value losses.unconnected_generation) ∷ []

abbrev pub tripped_fields : Network → Option (List SwitchAt) → List (List ℕ × Data)
tripped_fields net None = []
tripped_fields net (Some breakers) = (codes "tripped", array_of string (flat_map (switch_ids net) breakers)) ∷ []

-- what the second format has behind the figures
abbrev pub more_fields : Format → Network → Losses → Option (List SwitchAt) → List (List ℕ × Data)
more_fields formats.One net losses tripped = []
more_fields later net losses tripped = unconnected_fields losses ++ tripped_fields net tripped

-- what is found: the id that is unknown or of no breaker, or the effect
unfoldable pub finding_fields : Format → Network → Finding → List (List ℕ × Data)
finding_fields format net (UnknownId id) = (codes "unknown", string id) ∷ []
finding_fields format net (NoBreaker id) = (codes "no_breaker", string id) ∷ []
finding_fields format net (Effect after losses tripped) = effect_fields after losses ++ more_fields format net losses tripped

-- a contingency by its place in the list, from 0, and its name
unfoldable pub contingency_object : Format → Network → ℕ → List ℕ → Finding → Data
contingency_object format net place name finding =
    object_of_kind (codes "contingency") ((codes "place", natural place) ∷ (codes "name", string name) ∷ finding_fields format net finding)
