-- The configured view by the bus view of the level in node/breaker form.
use Rattle.std.specs.Prelude.{ℕ, Bool, nat_lt, Option, List, length, map, count_by, take, drop, slice_get, option_map}
use Rattle.grid_level.specs.Passing.{positioned}
use Rattle.grid_states.specs.Rows.{row_at}
use Rattle.grid_busview.specs.Views.{record_watts, bus_view_of}
use Rattle.grid_busview.specs.declared.ViewBus.{ViewBus}
use Rattle.grid_busview.specs.declared.BusView.{BusView}
use Rattle.grid_configured.specs.declared.network.ConfiguredNetwork.{ConfiguredNetwork}
use Rattle.grid_configured.specs.declared.view.ConfiguredBus.{ConfiguredBus}
use Rattle.grid_configured.specs.declared.view.ConfiguredView.{ConfiguredView}
use Rattle.grid_configured.specs.Levels.{placed_levels}
use Rattle.grid_placed.specs.Translation.{translated_level}

-- how many of its nodes are those of buses, of which there are so many
unfoldable pub section_total : ℕ → List ℕ → ℕ
section_total count nodes = count_by (λ n. nat_lt n count) nodes

-- its first terminals are those of the buses, and the others those that are connected
unfoldable pub told_bus : ℕ → ViewBus → ConfiguredBus
told_bus count v = record {
  place = v.least;
  buses = map (λ t. t.equipment) (take (section_total count v.nodes) v.terminals);
  terminals = drop (section_total count v.nodes) v.terminals;
  load = v.load;
  generation = v.generation;
}

unfoldable pub told_view : ℕ → BusView → ConfiguredView
told_view count v = record { level = v.level; buses = map (told_bus count) v.buses }

-- the view of the level at a place, where the switches of the node/breaker form have these positions
unfoldable pub seen_at : ConfiguredNetwork → List (List Bool) → ℕ → Option ConfiguredView
seen_at network opened place =
    option_map (λ l. told_view (length l.buses) (bus_view_of (positioned (translated_level l) (row_at opened place)) (record_watts (translated_level l)))) (slice_get (placed_levels network) place)
