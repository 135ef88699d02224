use Rattle.std.proofs.Common.{◌≡◌, ◌≤◌, ◌++◌, length}
use Rattle.std.specs.List.{flat_map}
use Rattle.grid_report.specs.Blocks.{block_text}
use Rattle.grid_report.proofs.parallel.portion_of.Given as goal

-- the blocks so far, and what is still to come
abbrev pub invariant-loop-weight : goal.invariant-loop-weight
invariant-loop-weight l = record {
  so_far : block_text l.fn.first ++ l.fn.report ≡ flat_map block_text l.blocks.items ++ l.report;
  less : length l.report ≤ length l.fn.report;
}

abbrev pub decreases-loop-weight : goal.decreases-loop-weight
decreases-loop-weight l = length l.report
