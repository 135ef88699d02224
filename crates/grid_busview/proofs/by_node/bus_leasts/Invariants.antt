use Rattle.std.proofs.Common.{◌≡◌, map, get_or}
use Rattle.std.specs.Prelude.{filter}
use Rattle.grid_graph.specs.Components.{places}
use Rattle.grid_level.specs.Passing.{nodes}
use Rattle.grid_busview.specs.Labelled.{leads_bus}
use Rattle.grid_busview.proofs.by_node.bus_leasts.Given as goal

abbrev pub invariant-loop-index : goal.invariant-loop-index
invariant-loop-index l = l.leasts ≡ map (λ k. get_or (nodes l.level) k 0) (filter (leads_bus l.labels l.counts) (places l.index))
