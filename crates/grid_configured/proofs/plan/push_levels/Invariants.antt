use Rattle.std.proofs.Common.{◌≡◌, ◌++◌, take, map}
use Rattle.std.specs.List.{flat_map}
use Rattle.grid_configured.specs.Texts.{level_text}
use Rattle.grid_configured.specs.Lines.{level_object}
use Rattle.grid_configured.specs.Blocks.{block_objects, block_text}
use Rattle.grid_configured.proofs.plan.push_levels.Given as goal

-- the views so far
abbrev pub invariant-loop-view : goal.invariant-loop-view
invariant-loop-view l = record {
  text : flat_map block_text l.blocks.items ≡ flat_map block_text l.fn.blocks.items ++ flat_map level_text (take l.view-index l.views);
  lines : flat_map block_objects l.blocks.items ≡ flat_map block_objects l.fn.blocks.items ++ map (level_object l.name) (take l.view-index l.views);
}
