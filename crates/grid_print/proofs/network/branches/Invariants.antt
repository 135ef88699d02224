use Rattle.std.proofs.Common.{◌≡◌, ◌≤◌, map}
use Rattle.std.specs.List.{AllWithin}
use Rattle.serde_json.specs.View.{view}
use Rattle.grid_structure.specs.Sites.{branches}
use Rattle.grid_print.specs.Network.{named_branch_value}
use Rattle.grid_print.specs.Readable.{IsReadableBranch}
use Rattle.grid_print.specs.Cutting.{between}
use Rattle.grid_print.proofs.network.branches.Given as goal

abbrev pub invariant-loop-place : goal.invariant-loop-place
invariant-loop-place l = record {
  order : l.from ≤ l.place;
  values : map view l.values.items ≡ map named_branch_value (between l.from l.place (branches l.network));
  readable : AllWithin IsReadableBranch (branches l.network) l.from l.place;
}
