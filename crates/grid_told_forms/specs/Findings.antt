-- What the lines of contingencies tell.
use Rattle.std.specs.Prelude.{ℕ, ℤ, ⊤, Option, Some, None, List, IsUtf8, All, map, flat_map}
use Rattle.std.specs.Option.{option_map}
use Rattle.serde_json.specs.Data.{Data}
use Rattle.grid_structure.specs.declared.SwitchAt.{SwitchAt}
use Rattle.grid_structure.specs.Network.{Network}
use Rattle.grid_json.specs.declared.format.Format.{Format}
use Rattle.grid_json.specs.declared.format.Format.TheVariants as formats
use Rattle.grid_figures.specs.declared.Figures.{Figures}
use Rattle.grid_screen.specs.declared.Losses.{Losses}
use Rattle.grid_screen.specs.declared.Finding.{Finding}
use Rattle.grid_screen.specs.declared.Finding.TheVariants as findings
use Rattle.grid_screen.specs.Faults.{switch_ids}
use Rattle.grid_screen.specs.Lines.{contingency_object}
use Rattle.grid_told.specs.Held.{IsUnsigned, IsSum}

-- ---- what is told

-- what the second format tells beside the first: the watts that became unconnected, and where there is a fault the ids of the
-- breakers that tripped
pub record More : Type 0 where
  pub load : ℤ
  pub generation : ℤ
  pub tripped : Option (List (List ℕ))

-- an id that is unknown or of no breaker, or the figures after the outage and what was lost
pub data Found : Type 0 where
  Unknown : List ℕ → Found
  NoBreaker : List ℕ → Found
  Lost : ℕ → ℕ → ℕ → ℤ → ℤ → Option More → Found

-- the ids of breakers
abbrev pub ids_of : Network → List SwitchAt → List (List ℕ)
ids_of net breakers = flat_map (switch_ids net) breakers

abbrev pub more_of : Format → Network → Losses → Option (List SwitchAt) → Option More
more_of formats.One net losses tripped = None
more_of later net losses tripped = Some (record { load = losses.unconnected_load; generation = losses.unconnected_generation; tripped = option_map (ids_of net) tripped })

unfoldable pub found_of : Format → Network → Finding → Found
found_of format net (findings.UnknownId id) = Unknown id
found_of format net (findings.NoBreaker id) = NoBreaker id
found_of format net (findings.Effect after losses tripped) = Lost after.buses after.components after.main losses.load losses.generation (more_of format net losses tripped)

-- a contingency by its place among all and its name, with its finding
pub record Screened : Type 0 where
  pub place : ℕ
  pub name : List ℕ
  pub finding : Finding

-- with what is told of the finding
pub record Told : Type 0 where
  pub place : ℕ
  pub name : List ℕ
  pub found : Found

unfoldable pub told_of : Format → Network → Screened → Told
told_of format net s = record { place = s.place; name = s.name; found = found_of format net s.finding }

-- ---- what the types of findings hold

abbrev pub AreTexts : Network → Option (List SwitchAt) → Type 0
AreTexts net None = ⊤
AreTexts net (Some breakers) = All IsUtf8 (ids_of net breakers)

pub record IsEffect (net : Network) (after : Figures) (losses : Losses) (breakers : Option (List SwitchAt)) : Type 0 where
  pub buses : IsUnsigned after.buses
  pub components : IsUnsigned after.components
  pub main : IsUnsigned after.main
  pub load : IsSum losses.load
  pub generation : IsSum losses.generation
  pub unconnected_load : IsSum losses.unconnected_load
  pub unconnected_generation : IsSum losses.unconnected_generation
  pub tripped : AreTexts net breakers

abbrev pub IsFinding : Network → Finding → Type 0
IsFinding net (findings.UnknownId id) = IsUtf8 id
IsFinding net (findings.NoBreaker id) = IsUtf8 id
IsFinding net (findings.Effect after losses tripped) = IsEffect net after losses tripped

pub record IsScreened (net : Network) (s : Screened) : Type 0 where
  pub place : IsUnsigned s.place
  pub name : IsUtf8 s.name
  pub finding : IsFinding net s.finding

-- ---- the lines

unfoldable pub object_of : Format → Network → Screened → Data
object_of format net s = contingency_object format net s.place s.name s.finding

unfoldable pub found_objects : Format → Network → List Screened → List Data
found_objects format net screened = map (object_of format net) screened
