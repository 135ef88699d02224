use Rattle.std.proofs.Common.{◌++◌, sym, ap, ◌∙◌, subst, append_assoc, flat_map}
use Rattle.grid_sparse.specs.Options.{AreThere}
use Rattle.grid_sparse.proofs.Passes.{first_there, rest_there}
use Rattle.grid_screen.specs.declared.walk.Touched.{Touched}
use Rattle.grid_screen.specs.Opening.{level_trips}
use Rattle.grid_screen.specs.Walks.{IsTouched, IsTouchedBy}
use Rattle.grid_screen.proofs.BreakerTrips.{trips_of, trips_present}
use Rattle.grid_screen.proofs.tripped.list_tripped.Goals as goal

pub loop-place-init : goal.loop-place-init
loop-place-init c =
    let g = c.args.scene.now in
    let hit = c.args.hit.now in
    let pairs = c.into_iter-place-iterator.ensures.into_iter_gives ∙ c.iter-place-items.ensures.pairs in
    record {
      so_far = ap (λ z. z ++ flat_map (trips_of g hit) c.into_iter-place-iterator.result) c.empty-tripped.ensures ∙ ap (flat_map (trips_of g hit)) pairs ∙ sym (trips_present g hit c.args.touched.now c.requires);
      there = subst (AreThere c.args.touched.now) (sym pairs) c.iter-place-items.ensures.found;
    }

pub push_tripped-requires : goal.push_tripped-requires
push_tripped-requires c =
    let g = c.args.scene.now in
    let k = c.in-Some.place.now in
    let at = first_there c.args.touched.now (k, c.in-Some.here.now) c.next.new.self c.loop-place.place-iterator c.in-Some.ensures.steps c.loop-place.invariant.there in
    subst (IsTouched g k) (sym c.deref.ensures) (subst (IsTouchedBy g k) at (c.requires.each k))

pub loop-place-preserved : goal.loop-place-preserved
loop-place-preserved c =
    let g = c.args.scene.now in
    let hit = c.args.hit.now in
    let old = c.loop-place.tripped in
    let rest = c.next.new.self in
    record {
      so_far = ap (λ z. z ++ flat_map (trips_of g hit) rest) (c.in_ok-push_tripped.ensures ∙ ap (λ (z : Touched). old ++ level_trips g hit c.in-Some.place.now z) c.deref.ensures)
          ∙ append_assoc old (level_trips g hit c.in-Some.place.now c.in-Some.here.now.value) (flat_map (trips_of g hit) rest) ∙ ap (λ z. old ++ flat_map (trips_of g hit) z) (sym c.in-Some.ensures.steps) ∙ c.loop-place.invariant.so_far;
      there = rest_there c.args.touched.now (c.in-Some.place.now, c.in-Some.here.now) rest c.loop-place.place-iterator c.in-Some.ensures.steps c.loop-place.invariant.there;
    }
