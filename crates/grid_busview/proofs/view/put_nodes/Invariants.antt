use Rattle.std.proofs.Common.{◌≡◌, map}
use Rattle.grid_busview.specs.Labelled.{bus_leaders}
use Rattle.grid_busview.proofs.BusFilling.{nodes_to}
use Rattle.grid_busview.proofs.view.put_nodes.Given as goal

abbrev pub invariant-loop-index : goal.invariant-loop-index
invariant-loop-index l = l.buses.items ≡ map (nodes_to l.level l.labels l.index) (bus_leaders l.labels l.led.counts)
