use Rattle.std.proofs.Common.{◌≡◌, map, take}
use Rattle.std.specs.List.{flat_map, AllWithin}
use Rattle.serde_json.specs.View.{view}
use Rattle.grid_print.specs.Network.{injection_of}
use Rattle.grid_print.specs.Readable.{IsReadableInjection}
use Rattle.grid_print.proofs.level.injections.Given as goal

abbrev pub invariant-loop-at : goal.invariant-loop-at
invariant-loop-at l = record {
  values : map view l.values.items ≡ flat_map (λ p. injection_of p.terminal.equipment p.node p.stand) (take l.at-index l.placed);
  readable : AllWithin (λ p. IsReadableInjection p.terminal.equipment p.node p.stand) l.placed 0 l.at-index;
}
