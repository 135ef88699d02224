-- The configured view of a level as it stands, under a list of watts, one per terminal: what the bus view of the level
-- in node/breaker form shows.
use Rattle.std.specs.Prelude.{ℕ, ℤ, pos, ◌+ℤ◌, Bool, ◌&&◌, ◌==◌, List, [], ◌++◌, length, map, filter, fold, zip, drop}
use Rattle.std.specs.List.{list_any, slice_index_or}
use Rattle.grid_level.specs.declared.Stand.{Stand}
use Rattle.grid_busview.specs.Views.{is_load, is_generation, stand_watts}
use Rattle.grid_busview.specs.declared.ViewBus.{ViewBus}
use Rattle.grid_busview.specs.declared.BusView.{BusView}
use Rattle.grid_placed.specs.Places.{Outlet, PlacedLevel, joined_places, first_places}
use Rattle.grid_placed.specs.Translation.{bus_terminal, outlets_at}

-- ---- groups of joined buses

-- a connected terminal, at the bus of one of these places
unfoldable pub connects_among : List ℕ → Outlet → Bool
connects_among group t = t.connected && list_any (λ n. t.place == n) group

-- the connected terminals at the buses of these places, in their order
unfoldable pub outlets_among : PlacedLevel → List ℕ → List Outlet
outlets_among level group = filter (connects_among group) level.outlets

-- their nodes
unfoldable pub nodes_among : PlacedLevel → List ℕ → List ℕ
nodes_among level group = map (λ e. e.0) (filter (λ e. connects_among group e.1) (outlets_at level))

-- a connected terminal stands at one of the buses that are joined to one
unfoldable pub is_view_bus : PlacedLevel → ℕ → Bool
is_view_bus level place = list_any (connects_among (joined_places level place)) level.outlets

-- the groups of joined buses at which a connected terminal stands, each named by the least place, rising
unfoldable pub view_places : PlacedLevel → List ℕ
view_places level = filter (is_view_bus level) (first_places level)

-- ---- watts

-- a terminal with its watts
abbrev pub FedOutlet : Type 0
FedOutlet = Outlet × ℤ

-- the connected terminals at the buses of these places, each with its watts
unfoldable pub outlets_fed : PlacedLevel → List ℤ → List ℕ → List FedOutlet
outlets_fed level watts group = filter (λ pair. connects_among group pair.0) (zip level.outlets watts)

-- the sum of the watts over what passes a test
unfoldable pub outlet_watts : (Stand → Bool) → List FedOutlet → ℤ
outlet_watts test fed = fold (λ total pair. total +ℤ pair.1) (pos 0) (filter (λ pair. test pair.0.stand) fed)

-- what the records give: p0 of a load, target_p of a generator or a battery, 0 otherwise
unfoldable pub outlet_records : PlacedLevel → List ℤ
outlet_records level = map (λ t. stand_watts t.stand) level.outlets

-- of one number per thing placed in node/breaker form, those of the terminals, which stand behind the buses
unfoldable pub outlet_part : PlacedLevel → List ℤ → List ℤ
outlet_part level watts = drop (length level.buses) watts

-- ---- the view

-- the least node is the least place; the nodes are the places of the buses, and behind them those of the connected
-- terminals; the terminals are those of the buses by place, and behind them the connected ones; and the sums over these
unfoldable pub group_bus : PlacedLevel → List ℤ → ℕ → ViewBus
group_bus level watts place =
    let group = joined_places level place in
    record {
      least = place;
      nodes = group ++ nodes_among level group;
      terminals = map (λ k. bus_terminal (slice_index_or level.buses k [])) group ++ map (λ t. t.terminal) (outlets_among level group);
      load = outlet_watts is_load (outlets_fed level watts group);
      generation = outlet_watts is_generation (outlets_fed level watts group);
    }

unfoldable pub group_view : PlacedLevel → List ℤ → BusView
group_view level watts = record { level = level.id; buses = map (group_bus level watts) (view_places level) }
