use Rattle.std.proofs.Common.{arith}
use Rattle.std.proofs.lemmas.Option.{slice_get_within}
use Rattle.grid_islands.specs.Kept.{kept_of}
use Rattle.grid_islands.proofs.KeptLevels.{still_made, more_kept}
use Rattle.grid_islands.proofs.kept.KeptBuses.keep_all.Goals as goal

pub loop-place-init : goal.loop-place-init
loop-place-init c = record {
  kept = c.requires.kept;
  every = λ k l lt there. absurd (omega (arith, lt));
  long = omega arith;
}

pub loop-place-preserved : goal.loop-place-preserved
loop-place-preserved c =
    let net = c.args.structure.now in
    let k = c.loop-place.place in
    let level = c.level.result.now in
    let row = c.opened_row.result.now in
    let own = c.in_ok-keep.ensures.own in
    record {
      kept = still_made net c.loop-place.self c.keep.new.self k level row c.level.ensures own c.in_ok-keep.ensures.others c.in_ok-keep.ensures.spots c.in_ok-keep.ensures.numbers c.loop-place.invariant.kept;
      every = more_kept net c.loop-place.self c.keep.new.self k level row c.level.ensures own c.in_ok-keep.ensures.others c.args.states.now.opened c.opened_row.ensures c.loop-place.invariant.every;
      long = omega (arith, slice_get_within c.keep.new.self.levels k (kept_of level row) own);
    }
