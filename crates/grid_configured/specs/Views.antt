-- The configured view of a level as it stands, with the watts of the records.
use Rattle.std.specs.Prelude.{ℕ, [], map}
use Rattle.std.specs.List.{slice_index_or}
use Rattle.grid_placed.specs.Places.{PlacedLevel, joined_places}
use Rattle.grid_placed.specs.Views.{outlets_among, view_places, outlet_records, group_bus}
use Rattle.grid_configured.specs.declared.view.ConfiguredBus.{ConfiguredBus}
use Rattle.grid_configured.specs.declared.view.ConfiguredView.{ConfiguredView}

-- named by the least of the places, with the buses by place, the connected terminals in their order, and the sums over these
unfoldable pub configured_bus : PlacedLevel → ℕ → ConfiguredBus
configured_bus level place =
    let group = joined_places level place in
    let bus = group_bus level (outlet_records level) place in
    record {
      place = place;
      buses = map (λ k. slice_index_or level.buses k []) group;
      terminals = map (λ t. t.terminal) (outlets_among level group);
      load = bus.load;
      generation = bus.generation;
    }

-- the groups of joined buses at which a connected terminal stands
unfoldable pub configured_view : PlacedLevel → ConfiguredView
configured_view level = record { level = level.id; buses = map (configured_bus level) (view_places level) }
