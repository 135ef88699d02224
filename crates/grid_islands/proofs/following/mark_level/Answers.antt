use Rattle.std.proofs.Common.{refl, ap, ◌∙◌, subst, ℕ, length, Option, None, arith}
use Rattle.std.specs.Prelude.{slice_get}
use Rattle.std.proofs.lemmas.Option.{get_or_from_slice_get, slice_get_within}
use Rattle.grid_islands.specs.declared.spots.BranchBuses.{BranchBuses}
use Rattle.grid_islands.specs.Rejoining.{is_marked, AreMarked}
use Rattle.grid_islands.specs.Spots.{pairs_of_buses}
use Rattle.grid_islands.proofs.FollowedEnds.{AreMarkedFrom, marked_step}
use Rattle.grid_islands.proofs.LevelChains.{count_to, in_level, none_behind, read_end, before_in_level, goes_down}
use Rattle.grid_islands.proofs.PairEnds.{ends_of}
use Rattle.grid_islands.proofs.following.mark_level.Goals as goal

abbrev no_buses : BranchBuses
no_buses = record { first = None; second = None; third = None }

pub loop-at-init : goal.loop-at-init
loop-at-init c =
    let index = c.args.index.now in
    record {
      in_level = in_level index.ends (length index.ends) c.args.level c.last-at.result (c.requires.linked.lasting c.args.level c.last-at.result c.last-at.ensures);
      long = refl;
      kept = λ x h. h;
      done = λ e f. record { each = λ place end own found same le there. absurd (none_behind index.ends c.args.level c.last-at.result place end (c.requires.linked.lasting c.args.level c.last-at.result c.last-at.ensures) found same le) };
    }

pub index-end-requires : goal.index-end-requires
index-end-requires c = slice_get_within c.args.index.now.ends c.in-Some.place _ (c.loop-at.invariant.in_level.there c.in-Some.place c.in-Some.is).1

pub loop-at-preserved : goal.loop-at-preserved
loop-at-preserved c =
    let index = c.args.index.now in
    let ends = c.args.ends.now in
    let labels = c.args.labels.now in
    let level = c.args.level in
    let place = c.in-Some.place in
    let here = c.index-end.result.now in
    let at = read_end index.ends level place c.loop-at.at here c.loop-at.invariant.in_level c.in-Some.is c.index-end.ensures in
    let m = is_marked labels c.loop-at.marks.items in
    let n = is_marked labels c.mark_branch.new.marks.items in
    record {
      in_level = before_in_level index.ends index.lasts level place here c.requires.linked at.0 at.1;
      long = c.mark_branch.ensures.long ∙ c.loop-at.invariant.long;
      kept = λ x h. c.mark_branch.ensures.kept x (c.loop-at.invariant.kept x h);
      done = λ below fits. marked_step index.ends index.lasts level place here c.requires.linked at.0 at.1 m n ends c.mark_branch.ensures.kept
          (λ own there. subst (AreMarked n) (get_or_from_slice_get ends here.branch own no_buses there)
          (c.mark_branch.ensures.marked (ends_of pairs_of_buses ends here.branch (length labels) no_buses (slice_get_within ends here.branch own there) below) (λ x lt. omega (arith, fits x lt, c.loop-at.invariant.long))))
          (subst (λ (z : Option ℕ). AreMarkedFrom index.ends level (count_to z) m ends) c.in-Some.is (c.loop-at.invariant.done below fits));
    }

pub loop-at-smaller : goal.loop-at-smaller
loop-at-smaller c =
    let index = c.args.index.now in
    let here = c.index-end.result.now in
    let at = read_end index.ends c.args.level c.in-Some.place c.loop-at.at here c.loop-at.invariant.in_level c.in-Some.is c.index-end.ensures in
    rw c.in-Some.is (goes_down index.ends index.lasts c.in-Some.place here c.requires.linked at.0)

pub returns-clause-marked : goal.returns-clause-marked
unfolding count_to
returns-clause-marked c below fits branch own has there =
    (c.loop-at.invariant.done below fits).each has.place has.end own has.found has.of_level (omega (arith, ap count_to c.in_default.is)) (ap (slice_get c.args.ends.now) has.of_branch ∙ there)
