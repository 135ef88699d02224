use Rattle.std.proofs.Common.{◌≡◌, ◌≤◌, map}
use Rattle.std.specs.List.{AllWithin}
use Rattle.serde_json.specs.View.{view}
use Rattle.grid_structure.specs.Sites.{levels}
use Rattle.grid_print.specs.Network.{level_value}
use Rattle.grid_print.specs.Readable.{IsReadableLevel}
use Rattle.grid_print.specs.Cutting.{between}
use Rattle.grid_print.proofs.network.levels.Given as goal

abbrev pub invariant-loop-place : goal.invariant-loop-place
invariant-loop-place l = record {
  order : l.from ≤ l.place;
  values : map view l.values.items ≡ map level_value (between l.from l.place (levels l.network));
  readable : AllWithin IsReadableLevel (levels l.network) l.from l.place;
}
