use Rattle.std.proofs.Common.{◌++◌, sym, ap, ◌∙◌, subst, append_assoc, flat_map}
use Rattle.grid_sparse.specs.Options.{AreThere}
use Rattle.grid_sparse.proofs.Passes.{first_there, rest_there}
use Rattle.grid_screen.specs.Listing.{Fits, hit_sites}
use Rattle.grid_screen.specs.Walks.{IsTouchedBy}
use Rattle.grid_screen.proofs.HitSites.{sites_hit, zone_present, fits}
use Rattle.grid_screen.proofs.zone.list_hit.Goals as goal

pub loop-place-init : goal.loop-place-init
loop-place-init c =
    let g = c.args.scene.now in
    let pairs = c.into_iter-place-iterator.ensures.into_iter_gives ∙ c.iter-place-items.ensures.pairs in
    record {
      so_far = ap (λ z. z ++ flat_map sites_hit c.into_iter-place-iterator.result) c.empty-zone.ensures ∙ ap (flat_map sites_hit) pairs ∙ sym (zone_present g c.args.touched.now c.requires);
      there = subst (AreThere c.args.touched.now) (sym pairs) c.iter-place-items.ensures.found;
    }

pub push_hit-requires : goal.push_hit-requires
push_hit-requires c =
    let g = c.args.scene.now in
    let k = c.in-Some.place.now in
    let at = first_there c.args.touched.now (k, c.in-Some.here.now) c.next.new.self c.loop-place.place-iterator c.in-Some.ensures.steps c.loop-place.invariant.there in
    subst Fits (sym c.deref.ensures) (fits g k c.in-Some.here.now.value (subst (IsTouchedBy g k) at (c.requires.each k)))

pub loop-place-preserved : goal.loop-place-preserved
loop-place-preserved c =
    let k = c.in-Some.place.now in
    let old = c.loop-place.zone in
    let rest = c.next.new.self in
    record {
      so_far = ap (λ z. z ++ flat_map sites_hit rest) (c.in_ok-push_hit.ensures ∙ ap (λ z. old ++ hit_sites k z) c.deref.ensures)
          ∙ append_assoc old (hit_sites k c.in-Some.here.now.value) (flat_map sites_hit rest) ∙ ap (λ z. old ++ flat_map sites_hit z) (sym c.in-Some.ensures.steps) ∙ c.loop-place.invariant.so_far;
      there = rest_there c.args.touched.now (k, c.in-Some.here.now) rest c.loop-place.place-iterator c.in-Some.ensures.steps c.loop-place.invariant.there;
    }
