-- The sums of watts of a level's buses.
use Rattle.std.specs.Prelude.{Bool, List, map}
use Rattle.grid_level.specs.VoltageLevel.{VoltageLevel}
use Rattle.grid_level.specs.Passing.{positioned}
use Rattle.grid_powers.specs.Listed.{Listed}
use Rattle.grid_busview.specs.declared.ViewBus.{ViewBus}
use Rattle.grid_busview.specs.Views.{bus_view_of}
use Rattle.grid_unions.specs.declared.summed.Sums.{Sums}
use Rattle.grid_watts.specs.Watts.{level_watts}

abbrev pub bus_sums : ViewBus → Sums
bus_sums b = record { load = b.load; generation = b.generation }

-- the buses of a level whose switches have these flags opened, under these watts
unfoldable pub buses_under : Listed → VoltageLevel → List Bool → List ViewBus
buses_under listed level opened = (bus_view_of (positioned level opened) (level_watts listed level)).buses

unfoldable pub sums_of : Listed → VoltageLevel → List Bool → List Sums
sums_of listed level opened = map bus_sums (buses_under listed level opened)
