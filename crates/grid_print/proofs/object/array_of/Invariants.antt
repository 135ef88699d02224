use Rattle.std.proofs.Common.{◌≡◌, map, take}
use Rattle.std.specs.List.{AllWithin}
use Rattle.serde_json.specs.View.{view}
use Rattle.grid_print.proofs.object.array_of.Given as goal

abbrev pub invariant-loop-item : goal.invariant-loop-item
invariant-loop-item g l = record {
  values : map view l.values.items ≡ map g.T.ToJson.written (take l.item-index l.items);
  readable : AllWithin g.T.ToJson.readable l.items 0 l.item-index;
}
