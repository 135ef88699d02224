use Rattle.std.proofs.Common.{◌∙◌, ◌<◌, length, get_or, rules}
use Rattle.std.specs.Prelude.{None}
use Rattle.std.proofs.lemmas.Option.{slice_get-get_or}
use Rattle.grid_islands.specs.declared.spots.BranchSpots.{BranchSpots}
use Rattle.grid_islands.proofs.LinkedEnds.{none_indexed, index_more}
use Rattle.grid_islands.proofs.level_ends.LevelEnds.of.Goals as goal

abbrev no_spots : BranchSpots
no_spots = record { first = None; second = None; third = None }

pub loop-place-init : goal.loop-place-init
loop-place-init c = record {
  index = none_indexed c.args.branches.now c.in_ok-index.index c.in_ok-index.ensures.linked c.in_ok-index.ensures.none;
  long = c.in_ok-index.ensures.long;
}

pub add_branch-requires : goal.add_branch-requires
add_branch-requires c = c.loop-place.invariant.index.linked

pub loop-place-preserved : goal.loop-place-preserved
loop-place-preserved c =
    let branches = c.args.branches.now in
    let k = c.loop-place.place in
    let lt : k < length branches = search rules in
    record {
      index = index_more branches k (get_or branches k no_spots) c.loop-place.index c.add_branch.new.self c.loop-place.invariant.index (slice_get-get_or branches k no_spots lt) c.in_ok-add_branch.ensures.more c.in_ok-add_branch.ensures.there;
      long = c.in_ok-add_branch.ensures.more.long ∙ c.loop-place.invariant.long;
    }
