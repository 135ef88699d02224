use Rattle.std.proofs.Common.{◌≡◌, ◌++◌}
use Rattle.std.specs.List.{flat_map, range_with_len}
use Rattle.grid_configured.specs.Texts.{worker_text}
use Rattle.grid_configured.specs.Outcomes.{told_of}
use Rattle.grid_configured.specs.Lines.{worker_objects}
use Rattle.grid_configured.specs.Blocks.{block_objects, block_text}
use Rattle.grid_configured.proofs.plan.push_workers.Given as goal

-- the workers so far
abbrev pub invariant-loop-worker : goal.invariant-loop-worker
invariant-loop-worker l = record {
  text : flat_map block_text l.blocks.items ≡ flat_map block_text l.fn.blocks.items ++ flat_map (worker_text (told_of l.journal l.replies)) (range_with_len 0 l.worker);
  lines : flat_map block_objects l.blocks.items ≡ flat_map block_objects l.fn.blocks.items ++ flat_map (worker_objects (told_of l.journal l.replies)) (range_with_len 0 l.worker);
}
