use Rattle.std.proofs.Common.{◌≡◌, sym, ap, ◌∙◌, subst, ℕ, ◌<◌, length, length-set, Option, Some, arith}
use Rattle.std.specs.Prelude.{slice_get, slice_set}
use Rattle.std.proofs.lemmas.Option.{slice_get-get_or, slice_get_within}
use Rattle.grid_islands.specs.Spots.{buses_of_spots}
use Rattle.grid_islands.proofs.FollowedEnds.{AreEither, AreMadeFrom, either_map, either_step, made_step, all_followed}
use Rattle.grid_islands.proofs.LevelChains.{count_to, in_level, none_behind, read_end, before_in_level, goes_down}
use Rattle.grid_islands.proofs.following.follow_level.Goals as goal

pub loop-at-init : goal.loop-at-init
loop-at-init c =
    let index = c.args.spots.now.index in
    let f = buses_of_spots c.args.firsts.now in
    record {
      in_level = in_level index.ends (length index.ends) c.args.level c.last-at.result (c.requires.index.linked.lasting c.args.level c.last-at.result c.last-at.ensures);
      long = c.requires.long;
      either = λ before same. subst (AreEither (f c.args.kept.now) (f before) c.args.spots.now.branches) (sym same) (either_map (f c.args.kept.now) (f before) c.args.spots.now.branches);
      done = record { each = λ place end spots found same le there. absurd (none_behind index.ends c.args.level c.last-at.result place end (c.requires.index.linked.lasting c.args.level c.last-at.result c.last-at.ensures) found same le) };
    }

pub index-end-requires : goal.index-end-requires
index-end-requires c = slice_get_within c.args.spots.now.index.ends c.in-Some.place _ (c.loop-at.invariant.in_level.there c.in-Some.place c.in-Some.is).1

pub index-requires : goal.index-requires
index-requires c =
    let index = c.args.spots.now.index in
    let at = read_end index.ends c.args.level c.in-Some.place c.loop-at.at c.index-end.result.now c.loop-at.invariant.in_level c.in-Some.is c.index-end.ensures in
    c.requires.index.below c.in-Some.place c.index-end.result.now at.0

pub set-requires : goal.set-requires
set-requires c =
    let index = c.args.spots.now.index in
    let at = read_end index.ends c.args.level c.in-Some.place c.loop-at.at c.index-end.result.now c.loop-at.invariant.in_level c.in-Some.is c.index-end.ensures in
    omega (arith, c.requires.index.below c.in-Some.place c.index-end.result.now at.0, c.loop-at.invariant.long)

pub loop-at-preserved : goal.loop-at-preserved
loop-at-preserved c =
    let index = c.args.spots.now.index in
    let branches = c.args.spots.now.branches in
    let level = c.args.level in
    let place = c.in-Some.place in
    let here = c.index-end.result.now in
    let at = read_end index.ends level place c.loop-at.at here c.loop-at.invariant.in_level c.in-Some.is c.index-end.ensures in
    let own = c.index.result.now in
    let inside = c.requires.index.below place here at.0 in
    let spots_at : slice_get branches here.branch ≡ Some own = slice_get-get_or branches here.branch own inside ∙ ap Some (sym c.index.ensures) in
    let f = buses_of_spots c.args.firsts.now c.args.kept.now in
    let ends = c.loop-at.ends in
    let fits : here.branch < length ends = omega (arith, inside, c.loop-at.invariant.long) in
    let written : c.set.new.self ≡ slice_set ends here.branch (f own) = c.set.ensures ∙ ap (slice_set ends here.branch) c.buses_at.ensures in
    record {
      in_level = before_in_level index.ends index.lasts level place here c.requires.index.linked at.0 at.1;
      long = ap length c.set.ensures ∙ length-set ends here.branch c.buses_at.result ∙ c.loop-at.invariant.long;
      either = λ before same. (let g = buses_of_spots c.args.firsts.now before in
          subst (AreEither f g branches) (sym written) (either_step index.ends index.lasts level place here c.requires.index.linked at.0 at.1 f branches ends own spots_at fits g (c.loop-at.invariant.either before same)));
      done = subst (AreMadeFrom f index.ends level (count_to here.before) branches) (sym written)
          (made_step index.ends index.lasts level place here c.requires.index.linked at.0 at.1 f branches ends own spots_at fits
          (subst (λ (z : Option ℕ). AreMadeFrom f index.ends level (count_to z) branches ends) c.in-Some.is c.loop-at.invariant.done));
    }

pub loop-at-smaller : goal.loop-at-smaller
loop-at-smaller c =
    let index = c.args.spots.now.index in
    let here = c.index-end.result.now in
    let at = read_end index.ends c.args.level c.in-Some.place c.loop-at.at here c.loop-at.invariant.in_level c.in-Some.is c.index-end.ensures in
    rw c.in-Some.is (goes_down index.ends index.lasts c.in-Some.place here c.requires.index.linked at.0)

pub returns : goal.returns
unfolding count_to
returns c before others same =
    let spots = c.args.spots.now in
    let f = buses_of_spots c.args.firsts.now c.args.kept.now in
    let none : count_to c.loop-at.at ≡ 0 = ap count_to c.in_default.is in
    all_followed c.args.firsts.now before c.args.kept.now c.args.level spots.branches spots.index c.loop-at.ends c.requires.index c.requires.inside others c.loop-at.invariant.long (c.loop-at.invariant.either before same)
    (subst (λ n. AreMadeFrom f spots.index.ends c.args.level n spots.branches c.loop-at.ends) none c.loop-at.invariant.done)
