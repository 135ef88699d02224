use Rattle.std.proofs.Common.{take}
use Rattle.std.specs.Prelude.{flat_map}
use Rattle.grid_screen.specs.Walks.{Grows}
use Rattle.grid_screen.specs.Zones.{sites_of}
use Rattle.grid_screen.proofs.walk.hit_all.Given as goal

abbrev pub invariant-loop-id : goal.invariant-loop-id
invariant-loop-id l = Grows l.scene l.initial.walk l.walk (flat_map (sites_of l.scene.net) (take l.id-index l.ids))
