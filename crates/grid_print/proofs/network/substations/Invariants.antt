use Rattle.std.proofs.Common.{◌≡◌, map, take}
use Rattle.std.specs.List.{AllWithin}
use Rattle.serde_json.specs.View.{view}
use Rattle.grid_structure.specs.Sites.{levels, branches}
use Rattle.grid_print.specs.Network.{substation_value}
use Rattle.grid_print.specs.Readable.{IsId, IsReadableLevel, IsReadableBranch}
use Rattle.grid_print.specs.Cutting.{levels_before, transformers_before}
use Rattle.grid_print.proofs.network.substations.Given as goal

abbrev pub invariant-loop-place : goal.invariant-loop-place
invariant-loop-place l = record {
  values : map view l.values.items ≡ map substation_value (take l.place l.network.substations);
  level : l.level ≡ levels_before l.place l.network.substations;
  transformer : l.transformer ≡ transformers_before l.place l.network.substations;
  ids : AllWithin (λ s. IsId s.id) l.network.substations 0 l.place;
  readable_levels : AllWithin IsReadableLevel (levels l.network) 0 l.level;
  readable_branches : AllWithin IsReadableBranch (branches l.network) 0 l.transformer;
}
