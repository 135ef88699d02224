use Rattle.std.proofs.Common.{◌≡◌, ◌++◌, take}
use Rattle.std.specs.List.{flat_map}
use Rattle.grid_configured.specs.Texts.{variant_text}
use Rattle.grid_configured.specs.Lines.{variant_objects}
use Rattle.grid_configured.specs.Blocks.{block_objects, block_text}
use Rattle.grid_configured.proofs.plan.push_variants.Given as goal

-- the variants so far
abbrev pub invariant-loop-variant : goal.invariant-loop-variant
invariant-loop-variant l = record {
  text : flat_map block_text l.blocks.items ≡ flat_map block_text l.fn.blocks.items ++ flat_map variant_text (take l.variant-index l.variants);
  lines : flat_map block_objects l.blocks.items ≡ flat_map block_objects l.fn.blocks.items ++ flat_map variant_objects (take l.variant-index l.variants);
}
