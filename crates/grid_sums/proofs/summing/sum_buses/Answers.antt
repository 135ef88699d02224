use Rattle.std.proofs.Common.{◌≡◌, refl, sym, ap, ◌∙◌, subst, ℕ, ℤ, ◌+◌, ◌<◌, ◌≤◌, List, [], ◌∷◌, ◌++◌, length, get_or, set, take, arith, length-set, Option, Some, None, rules}
use Rattle.std.proofs.Math.ListN.{get_or-replicate, length-replicate}
use Rattle.std.specs.Prelude.{zip, map}
use Rattle.std.proofs.lemmas.Int.{to_z-of_z}
use mir.Syntax.{w64}
use mir.Val.{SFits, to_z, of_z}
use Rattle.std.proofs.lemmas.List.{take_more, take_all, length-map, get_or-map, get_or_read}
use Rattle.std.proofs.lemmas.Slice.Zip.{length-zip, get_or-zip}
use Rattle.grid_level.specs.declared.Placed.{Placed}
use Rattle.grid_level.specs.VoltageLevel.{VoltageLevel}
use Rattle.grid_level.specs.Passing.{nodes}
use Rattle.grid_level.specs.Kept.{KeepsLimits}
use Rattle.grid_powers.specs.Listed.{Listed}
use Rattle.grid_graph.proofs.Reach.{In}
use Rattle.grid_groups.proofs.Indices.{index_below}
use Rattle.grid_groups.proofs.TerminalNodes.{placed_node}
use Rattle.grid_busview.specs.Views.{Fed, watts_over}
use Rattle.grid_watts.specs.Watts.{level_watts, watts_at}
use Rattle.grid_unions.specs.declared.summed.Sums.{Sums}
use Rattle.grid_sums.specs.Feeding.{no_sums, with_watts, place_of, sums_in}
use Rattle.grid_sums.proofs.BusSums.{none_fed, one_fed}
use Rattle.grid_sums.proofs.summing.sum_buses.Goals as goal

pub loop-placed-init : goal.loop-placed-init
unfolding sums_in watts_over
loop-placed-init c =
    let all = c.in_ok-sums.ensures.items_if_clones_equal (λ y h. h) in
    record {
      long = ap length all ∙ length-replicate c.args.count no_sums;
      each = λ k lt. ap (λ z. get_or z k no_sums) all ∙ get_or-replicate c.args.count k no_sums no_sums lt;
    }

none_of : (o : Option ℕ) → ((x : ℕ) → o ≡ Some x → ⊥) → o ≡ None
none_of None h = refl
none_of (Some x) h = absurd (h x refl)

-- the terminals of a level, each with its watts
module _ (listed : Listed) (level : VoltageLevel) where
  abbrev fed : List Fed
  fed = zip level.placed (level_watts listed level)

  long : length (level_watts listed level) ≡ length level.placed
  unfolding level_watts
  long = length-map level.placed (watts_at listed)

  next : (placed : List Placed) (i : ℕ) (p : Placed) (w : ℤ) → placed ≡ level.placed → i < length placed → p ≡ get_or placed i p → w ≡ watts_at listed p → take (i + 1) fed ≡ take i fed ++ (p, w) ∷ []
  unfolding level_watts
  next placed i p w same lt at own =
      let here : i < length level.placed = omega (arith, lt, ap length same) in
      let there : i < length (level_watts listed level) = omega (arith, here, long) in
      let inside : i < length fed = omega (arith, here, there, length-zip level.placed (level_watts listed level)) in
      let read : p ≡ get_or level.placed i p = at ∙ ap (λ z. get_or z i p) same in
      let watts : get_or (level_watts listed level) i w ≡ w = get_or-map (watts_at listed) level.placed i p w here ∙ ap (watts_at listed) (sym read) ∙ sym own in
      take_more fed i (p, w) inside
      ∙ ap (λ z. take i fed ++ z ∷ []) (get_or-zip level.placed (level_watts listed level) i (p, w) here there ∙ ap (λ (z : Placed). (z, get_or (level_watts listed level) i w)) (sym read) ∙ ap (λ (z : ℤ). (p, z)) watts)

pub bounds : goal.bounds
bounds c =
    let level = c.args.level.now in
    let i = c.loop-placed.placed-index in
    let p = c.placed-item.result in
    let placed = c.placed-placed-items.result.now in
    let here : i < length level.placed = omega (arith, c.loop-placed-test.true, ap length c.placed-placed-items.ensures) in
    let is : get_or level.placed i p ≡ p = sym (c.placed-item.is ∙ ap (λ z. get_or z i p) c.placed-placed-items.ensures) in
    let low = index_below p.node (nodes level) (subst (λ (z : Placed). In z.node (nodes level)) is (placed_node level c.keeps.ensures i p here)) in
    omega (arith, low, c.index_of.ensures, c.requires.long)

pub loop-placed-preserved-in_default : goal.loop-placed-preserved-in_default
loop-placed-preserved-in_default c =
    let level = c.args.level.now in
    let listed = c.args.powers.now.listed in
    let i = c.loop-placed.placed-index in
    let p = c.placed-item.result in
    let more = next listed level c.placed-placed-items.result.now i p (watts_at listed p) c.placed-placed-items.ensures c.loop-placed-test.true c.placed-item.is refl in
    let place : place_of (nodes level) c.args.places.now p.node ≡ None = ap (λ z. get_or c.args.places.now z None) (sym c.index_of.ensures) ∙ none_of (get_or c.args.places.now c.index_of.result None) c.in_default.not-Some in
    record {
      long = c.loop-placed.invariant.long;
      each = λ k lt. c.loop-placed.invariant.each k lt ∙ sym (ap (λ z. sums_in (nodes level) c.args.places.now z k) more ∙ none_fed (nodes level) c.args.places.now (take i (fed listed level)) (p, watts_at listed p) k place);
    }

pub loop-placed-preserved : goal.loop-placed-preserved
loop-placed-preserved c =
    let level = c.args.level.now in
    let listed = c.args.powers.now.listed in
    let i = c.loop-placed.placed-index in
    let p = c.placed-item.result in
    let k = c.in-Some.bus in
    let sums = c.loop-placed.sums.items in
    let more = next listed level c.placed-placed-items.result.now i p c.watts_at-watts.result c.placed-placed-items.ensures c.loop-placed-test.true c.placed-item.is c.watts_at-watts.ensures in
    let place : place_of (nodes level) c.args.places.now p.node ≡ Some k = ap (λ z. get_or c.args.places.now z None) (sym c.index_of.ensures) ∙ c.in-Some.is in
    let watts = c.watts_at-watts.result in
    let fits : SFits w64 watts = search rules in
    let inside : k < c.args.count = c.requires.below _ k place in
    let at : k < length sums = subst (λ z. k < z) (sym c.loop-placed.invariant.long) inside in
    let new : c.in_ok-sums-2.field-0 ≡ with_watts (get_or sums k no_sums) p.stand c.watts_at-watts.result = c.in_ok-sums-2.ensures ∙ ap (λ z. with_watts z p.stand (to_z w64 (of_z w64 watts))) (get_or_read sums k c.index.result.now at c.index.ensures no_sums) ∙ ap (with_watts (get_or sums k no_sums) p.stand) (to_z-of_z w64 watts fits) in
    record {
      long = length-set sums k c.in_ok-sums-2.field-0 ∙ c.loop-placed.invariant.long;
      each = λ bus lt. ap (λ z. get_or (set sums k z) bus no_sums) new
          ∙ one_fed (nodes level) c.args.places.now (take i (fed listed level)) (p, c.watts_at-watts.result) sums k bus place at (c.loop-placed.invariant.each k inside) (c.loop-placed.invariant.each bus lt)
          ∙ sym (ap (λ z. sums_in (nodes level) c.args.places.now z bus) more);
    }

pub returns-clause-each : goal.returns-clause-each
returns-clause-each c = λ k lt.
    let level = c.args.level.now in
    let listed = c.args.powers.now.listed in
    let over : length (fed listed level) ≤ c.loop-placed.placed-index = omega (arith, c.loop-placed-test.false, ap length c.placed-placed-items.ensures, length-zip level.placed (level_watts listed level), long listed level) in
    c.loop-placed.invariant.each k lt ∙ ap (λ z. sums_in (nodes level) c.args.places.now z k) (take_all c.loop-placed.placed-index (fed listed level) over)
