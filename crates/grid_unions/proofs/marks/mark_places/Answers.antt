use Rattle.std.proofs.Common.{refl, ap, ◌∙◌, length, length-set, arith}
use Rattle.grid_unions.specs.Halves.{is_marked}
use Rattle.grid_unions.specs.Sweep.{is_among}
use Rattle.grid_unions.proofs.PlaceMarks.{marked_more}
use Rattle.grid_unions.proofs.marks.mark_places.Goals as goal

pub loop-place-init : goal.loop-place-init
unfolding is_among
loop-place-init c = record { long = refl; marked = λ x. refl }

pub loop-place-preserved : goal.loop-place-preserved
loop-place-preserved c =
    let less = c.requires c.loop-place.place-index 0 c.loop-place-test.true in
    record {
      long = ap length c.set.ensures ∙ length-set c.loop-place.marks _ c.args.mark ∙ c.loop-place.invariant.long;
      marked = λ x. ap (λ marks. is_marked marks x) c.set.ensures
          ∙ marked_more c.args.marks.now c.loop-place.marks c.args.places.now c.args.mark c.loop-place.place-index _ x c.loop-place-test.true refl
          (omega (arith, less, c.loop-place.invariant.long)) (c.loop-place.invariant.marked x);
    }
