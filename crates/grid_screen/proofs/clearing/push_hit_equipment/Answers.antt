use Rattle.std.proofs.Common.{◌++◌, sym, ap, ◌∙◌, subst, append_assoc, flat_map, Option, List}
use Rattle.std.specs.List.{list_all}
use Rattle.std.specs.Prelude.{IsTrue}
use Rattle.grid_level.specs.declared.Placed.{Placed}
use Rattle.grid_level.specs.VoltageLevel.{VoltageLevel}
use Rattle.grid_level.specs.Kept.{among}
use Rattle.grid_level.specs.Passing.{nodes}
use Rattle.grid_structure.specs.Sites.{levels}
use Rattle.grid_sparse.specs.Options.{AreThere}
use Rattle.grid_sparse.proofs.Passes.{first_there, rest_there}
use Rattle.grid_screen.specs.declared.walk.Touched.{Touched}
use Rattle.grid_screen.specs.Listing.{Fits}
use Rattle.grid_screen.specs.Opening.{equipment_hit}
use Rattle.grid_screen.specs.Walks.{IsTouched, IsTouchedBy}
use Rattle.grid_screen.proofs.WalkSteps.{got_below}
use Rattle.grid_screen.proofs.HitSites.{fits}
use Rattle.grid_screen.proofs.Clearings.{placed_of, equipment_of, equipment_present, placed_in}
use Rattle.grid_screen.proofs.clearing.push_hit_equipment.Goals as goal

pub loop-place-init : goal.loop-place-init
loop-place-init c =
    let g = c.args.scene.now in
    let pairs = c.into_iter-place-iterator.ensures.into_iter_gives ∙ c.iter-place-items.ensures.pairs in
    record {
      so_far = ap (λ z. c.args.ids.now ++ z) (ap (flat_map (equipment_of g)) pairs ∙ sym (equipment_present g c.args.touched.now c.keeps.ensures c.requires));
      there = subst (AreThere c.args.touched.now) (sym pairs) c.iter-place-items.ensures.found;
    }

pub level-requires : goal.level-requires
level-requires c =
    let g = c.args.scene.now in
    let k = c.in-Some.place.now in
    let at = first_there c.args.touched.now (k, c.in-Some.here.now) c.next.new.self c.loop-place.place-iterator c.in-Some.ensures.steps c.loop-place.invariant.there in
    let h = subst (IsTouchedBy g k) at (c.requires.each k) in
    got_below (levels g.net) k c.in-Some.here.now.value.level.now h.at

pub push_equipment-requires-clause-nodes : goal.push_equipment-requires-clause-nodes
push_equipment-requires-clause-nodes c =
    let g = c.args.scene.now in
    let k = c.in-Some.place.now in
    let at = first_there c.args.touched.now (k, c.in-Some.here.now) c.next.new.self c.loop-place.place-iterator c.in-Some.ensures.steps c.loop-place.invariant.there in
    let h = subst (IsTouched g k) (sym c.deref.ensures) (subst (IsTouchedBy g k) at (c.requires.each k)) in
    subst (λ (z : List Placed). IsTrue (list_all (λ (p : Placed). among (nodes c.deref.result.now.level.now) p.node) z)) (sym c.placed.ensures)
    (placed_in g c.keeps.ensures k c.deref.result.now c.level.result.now h c.level.ensures)

pub push_equipment-requires-clause-fits : goal.push_equipment-requires-clause-fits
push_equipment-requires-clause-fits c =
    let g = c.args.scene.now in
    let k = c.in-Some.place.now in
    let at = first_there c.args.touched.now (k, c.in-Some.here.now) c.next.new.self c.loop-place.place-iterator c.in-Some.ensures.steps c.loop-place.invariant.there in
    subst Fits (sym c.deref.ensures) (fits g k c.in-Some.here.now.value (subst (IsTouchedBy g k) at (c.requires.each k)))

pub loop-place-preserved : goal.loop-place-preserved
loop-place-preserved c =
    let g = c.args.scene.now in
    let k = c.in-Some.place.now in
    let here = c.in-Some.here.now in
    let old = c.loop-place.ids in
    let rest = c.next.new.self in
    record {
      so_far = ap (λ z. z ++ flat_map (equipment_of g) rest) (c.in_ok-push_equipment.ensures ∙ ap (λ (z : Touched). old ++ equipment_hit z c.placed.result.now) c.deref.ensures
          ∙ ap (λ (z : List Placed). old ++ equipment_hit here.value z) c.placed.ensures ∙ ap (λ (z : Option VoltageLevel). old ++ equipment_hit here.value (placed_of z)) (sym c.level.ensures))
          ∙ append_assoc old (equipment_of g (k, here)) (flat_map (equipment_of g) rest) ∙ ap (λ z. old ++ flat_map (equipment_of g) z) (sym c.in-Some.ensures.steps) ∙ c.loop-place.invariant.so_far;
      there = rest_there c.args.touched.now (k, here) rest c.loop-place.place-iterator c.in-Some.ensures.steps c.loop-place.invariant.there;
    }
