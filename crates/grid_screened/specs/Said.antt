-- What a line says of a finding, and the ranges of a finding's numbers.
use Rattle.std.specs.Prelude.{ℕ, ℤ, pos, negsuc, ◌^◌, ◌<◌, ⊤, Option, Some, None, List, length, flat_map}
use Rattle.std.specs.Option.{option_map}
use Rattle.grid_structure.specs.declared.SwitchAt.{SwitchAt}
use Rattle.grid_structure.specs.Network.{Network}
use Rattle.grid_screen.specs.declared.Losses.{Losses}
use Rattle.grid_screen.specs.declared.Finding.{Finding}
use Rattle.grid_screen.specs.declared.Finding.TheVariants.{UnknownId, NoBreaker, Effect}
use Rattle.grid_screen.specs.Faults.{switch_ids}

-- an id that is amiss; or how many buses and components there are, how many buses the main one has, what was lost, and
-- where there is a fault, the ids of the breakers that tripped
pub data Said : Type 0 where
  Unknown : List ℕ → Said
  Unfit : List ℕ → Said
  Counted : ℕ → ℕ → ℕ → Losses → Option (List (List ℕ)) → Said

-- the ids of the switches at these places
abbrev pub ids_of : Network → Option (List SwitchAt) → Option (List (List ℕ))
ids_of net tripped = option_map (flat_map (switch_ids net)) tripped

unfoldable pub said_of : Network → Finding → Said
said_of net (UnknownId id) = Unknown id
said_of net (NoBreaker id) = Unfit id
said_of net (Effect after losses tripped) = Counted after.buses after.components after.main losses (ids_of net tripped)

-- ---- ranges

-- a sum of 128 bits with a sign
abbrev pub IsSum : ℤ → Type 0
IsSum (pos n) = n < 2 ^ 127
IsSum (negsuc n) = n < 2 ^ 127

pub record AreSums (l : Losses) : Type 0 where
  pub load : IsSum l.load
  pub generation : IsSum l.generation
  pub unconnected_load : IsSum l.unconnected_load
  pub unconnected_generation : IsSum l.unconnected_generation

abbrev pub AreFew : Option (List SwitchAt) → Type 0
AreFew None = ⊤
AreFew (Some breakers) = length breakers < 2 ^ 64

-- what the types of a finding's numbers hold
abbrev pub IsHeld : Finding → Type 0
IsHeld (UnknownId id) = ⊤
IsHeld (NoBreaker id) = ⊤
IsHeld (Effect after losses tripped) = (after.buses < 2 ^ 32) × ((after.components < 2 ^ 32) × ((after.main < 2 ^ 32) × (AreSums losses × AreFew tripped)))
