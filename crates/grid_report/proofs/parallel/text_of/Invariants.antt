use Rattle.std.proofs.Common.{◌≡◌, take}
use Rattle.std.specs.List.{flat_map}
use Rattle.grid_report.specs.Blocks.{block_text}
use Rattle.grid_report.proofs.parallel.text_of.Given as goal

-- the blocks so far
abbrev pub invariant-loop-block : goal.invariant-loop-block
invariant-loop-block l = l.text ≡ flat_map block_text (take l.block-index l.blocks)
