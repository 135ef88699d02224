use Rattle.std.proofs.Common.{◌≡◌, take}
use Rattle.grid_watts.specs.Nodes.{with_pairs_of}
use Rattle.grid_watts.proofs.collecting.collect_level.Given as goal

abbrev pub invariant-loop-pair : goal.invariant-loop-pair
invariant-loop-pair l = l.powers ≡ record l.initial.powers { listed = with_pairs_of l.level (take l.pair-index l.row) l.initial.powers.listed }
