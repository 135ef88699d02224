use Rattle.std.proofs.Common.{◌≡◌, map, take}
use Rattle.std.specs.List.{flat_map, AllWithin}
use Rattle.serde_json.specs.View.{view}
use Rattle.grid_print.specs.Network.{busbar_of}
use Rattle.grid_print.specs.Readable.{IsReadableBusbar}
use Rattle.grid_print.proofs.level.busbars.Given as goal

abbrev pub invariant-loop-at : goal.invariant-loop-at
invariant-loop-at l = record {
  values : map view l.values.items ≡ flat_map (λ p. busbar_of p.terminal.equipment p.node p.stand) (take l.at-index l.placed);
  readable : AllWithin (λ p. IsReadableBusbar p.terminal.equipment p.node p.stand) l.placed 0 l.at-index;
}
