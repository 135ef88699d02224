use Rattle.std.proofs.Common.{refl, ap, ◌∙◌, not}
use Rattle.grid_unions.specs.Halves.{is_marked}
use Rattle.grid_unions.proofs.Joins.{put_more, passed_more, joined_at, passed_at}
use Rattle.grid_unions.proofs.sweeps.join_unmarked.Goals.{then-marks-place+in_ok-push, else-marks-place+in_ok-join}
use Rattle.grid_unions.proofs.sweeps.join_unmarked.Goals as goal

pub loop-place-preserved : goal.loop-place-preserved
loop-place-preserved c = elim c.if-marks-place.branch [
  | then-marks-place+in_ok-push w ↦ record {
    rest = ap (λ v. v.items) w.rest-is
        ∙ put_more (is_marked c.args.marks.now) c.args.pending.now c.loop-place.rest.items w.push.new.self.items c.loop-place.place-index _ c.loop-place-test.true refl
        w.if-marks-place.true c.loop-place.invariant.rest (w.in_ok-push.ensures).items;
    joined = w.summed-is
        ∙ passed_at (λ x. not (is_marked c.args.marks.now x)) c.args.common.now c.args.pending.now c.args.summed.now c.loop-place.summed c.loop-place.place-index _ c.loop-place-test.true refl
        (ap not w.if-marks-place.true) c.loop-place.invariant.joined;
  }
  | else-marks-place+in_ok-join w ↦ record {
    rest = ap (λ v. v.items) w.rest-is
        ∙ passed_more (is_marked c.args.marks.now) c.args.pending.now c.loop-place.rest.items c.loop-place.place-index _ c.loop-place-test.true refl
        w.if-marks-place.false c.loop-place.invariant.rest;
    joined = w.summed-is
        ∙ joined_at (λ x. not (is_marked c.args.marks.now x)) c.args.common.now c.args.pending.now c.args.summed.now c.loop-place.summed w.join.new.self c.loop-place.place-index _ c.loop-place-test.true refl
        (ap not w.if-marks-place.false) c.loop-place.invariant.joined (w.in_ok-join.ensures).ok;
  }
]
