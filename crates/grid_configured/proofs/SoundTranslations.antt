-- A network with configured buses in which no fault is found is sound in node/breaker form.
use Rattle.std.proofs.Common.{◌≡◌, refl, true, List, [], ◌∷◌}
use Rattle.std.specs.Prelude.{map}
use Rattle.std.specs.List.{list_all}
use Rattle.grid_structure.specs.Sites.{home_of}
use Rattle.grid_structure.specs.Soundness.{IsSound, transformer_passes, line_passes}
use Rattle.grid_configured.specs.declared.network.ConfiguredLine.{ConfiguredLine}
use Rattle.grid_configured.specs.declared.network.ConfiguredLevel.{ConfiguredLevel}
use Rattle.grid_configured.specs.declared.network.ConfiguredNetwork.{ConfiguredNetwork}
use Rattle.grid_configured.specs.Checks.{IsTranslatable}
use Rattle.grid_configured.specs.Translation.{substation_of, translated_line, translated}
use Rattle.grid_configured.proofs.FaultlessNetworks.{network_right}
use Rattle.grid_configured.proofs.PlainNetworks.{plain_network}
use Rattle.grid_configured.proofs.Limits.{levels_counted, switches_few}
use Rattle.grid_configured.proofs.PassingLevels.{levels_pass}
use Rattle.grid_configured.proofs.DifferentIds.{all_differ}
use Rattle.grid_configured.proofs.PlacedSides.{records_placed, placed_recorded}

no_transformers : (n : ConfiguredNetwork) (ls : List ConfiguredLevel) → list_all (λ s. list_all (transformer_passes s) s.transformers) (map (substation_of n) ls) ≡ true
unfolding substation_of
no_transformers n [] = refl
no_transformers n (l ∷ ls) = no_transformers n ls

lines_pass : (n : ConfiguredNetwork) (lines : List ConfiguredLine) → list_all line_passes (map (translated_line n) lines) ≡ true
unfolding line_passes translated_line home_of
lines_pass n [] = refl
lines_pass n (line ∷ lines) = lines_pass n lines

pub translated_is_sound : (n : ConfiguredNetwork) → IsTranslatable n → IsSound (translated n)
unfolding translated
translated_is_sound n h =
    let right = network_right n h.1 in
    record {
      ids = all_differ n right (plain_network n h.0);
      each_level = levels_pass n h.1;
      sides_placed = records_placed n right;
      placed_are_sides = placed_recorded n right;
      transformers = no_transformers n n.levels;
      lines = lines_pass n n.lines;
      few_levels = levels_counted n right;
      few_switches = switches_few n right;
    }
