-- The watts of equipment, where a variant lists some that are apart from the records, and their sums.
use Rattle.std.specs.Prelude.{ℕ, ℤ, pos, ◌+ℤ◌, Bool, ◌&&◌, ◌||◌, if◌then◌else◌, Option, List, [], ◌∷◌, map, filter, find, flat_map, option_map, unwrap_or, take}
use Rattle.grid_ids.specs.Name.{same_id}
use Rattle.grid_powers.specs.Listed.{Listed, value_in}
use Rattle.grid_level.specs.declared.Placed.{Placed}
use Rattle.grid_level.specs.declared.Stand.{Stand}
use Rattle.grid_level.specs.VoltageLevel.{VoltageLevel}
use Rattle.grid_structure.specs.Network.{Network}
use Rattle.grid_structure.specs.Sites.{levels}
use Rattle.grid_busview.specs.Views.{is_load, is_generation, stand_watts}

-- what stands at the nodes of all levels, by place of the level, then by rising node
unfoldable pub terminals : Network → List Placed
terminals net = flat_map (λ l. l.placed) (levels net)

-- those of the levels before a place
unfoldable pub terminals_before : Network → ℕ → List Placed
terminals_before net place = flat_map (λ l. l.placed) (take place (levels net))

-- a load, a generator or a battery
unfoldable pub is_powered : Stand → Bool
is_powered stand = is_load stand || is_generation stand

-- the watts of what stands somewhere under this id: the value that is listed, or else the record's p0 or target_p; 0 where
-- it is no load, generator or battery
unfoldable pub watts_for : Listed → List ℕ → Stand → ℤ
watts_for listed id stand = if is_powered stand then unwrap_or (value_in listed id) (stand_watts stand) else pos 0

unfoldable pub watts_at : Listed → Placed → ℤ
watts_at listed p = watts_for listed p.terminal.equipment p.stand

-- one number per placed terminal, by rising node
unfoldable pub level_watts : Listed → VoltageLevel → List ℤ
level_watts listed level = map (watts_at listed) level.placed

-- a load, generator or battery of this id stands there
abbrev pub powered_by : List ℕ → Placed → Bool
powered_by id p = same_id id p.terminal.equipment && is_powered p.stand

-- the load, generator or battery of this id
unfoldable pub powered : Network → List ℕ → Option Placed
powered net id = find (powered_by id) (terminals net)

-- its watts
unfoldable pub watts : Network → Listed → List ℕ → Option ℤ
watts net listed id = option_map (watts_at listed) (powered net id)

-- ---- sums

unfoldable pub watts_sum : Listed → List Placed → ℤ
watts_sum listed [] = pos 0
watts_sum listed (p ∷ rest) = watts_at listed p +ℤ watts_sum listed rest

-- over all that the test holds of
unfoldable pub total_over : (Stand → Bool) → Network → Listed → ℤ
total_over test net listed = watts_sum listed (filter (λ p. test p.stand) (terminals net))

-- over all loads
unfoldable pub load_total : Network → Listed → ℤ
load_total net listed = total_over is_load net listed

-- over all generators and batteries
unfoldable pub generation_total : Network → Listed → ℤ
generation_total net listed = total_over is_generation net listed
