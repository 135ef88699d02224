use Rattle.std.proofs.Common.{◌≡◌, refl, sym, ap, ◌∙◌, ℕ, ◌+◌, true, false, Some, None, get_or, arith}
use Rattle.std.specs.Vec.{vec_len, vec_capacity}
use Rattle.grid_graph.specs.Components.{places}
use Rattle.grid_groups.proofs.GroupMembers.{few_passed}
use Rattle.grid_busview.specs.Labelled.{leads_bus, led_place}
use Rattle.grid_busview.proofs.LeadingLabels.{before_more, before_past, other_leads, place_next, leads_place, leads_none, place_there}
use Rattle.grid_busview.proofs.leading.bus_places.Goals as goal
use Rattle.grid_busview.proofs.leading.bus_places.Goals.{then-label-index, else-label-index+then-leads_bus, else-label-index+else-leads_bus}

pub loop-index-init : goal.loop-index-init
unfolding places
loop-index-init c = record { done = c.in_ok-places.ensures.items; count = refl; len = c.in_ok-places.ensures.len; room = omega (arith, c.in_ok-places.ensures.capacity) }

pub overflow_add-bus_count : goal.overflow_add-bus_count
overflow_add-bus_count c =
    omega (arith, few_passed (leads_bus c.args.labels.now c.args.counts.now) c.loop-index.index, c.loop-index.invariant.count, c.loop-index-test.true, c.requires.few)

pub loop-index-preserved : goal.loop-index-preserved
loop-index-preserved c =
    let labels = c.args.labels.now in
    let counts = c.args.counts.now in
    let i = c.loop-index.index in
    let label : ℕ = get_or labels i 0 in
    let now = c.loop-index.places.items in
    let lt = c.loop-index-test.true in
    let before_it = c.loop-index.invariant in
    elim c.if-label-index.branch [
      | then-label-index w ↦ record {
        done = ap (λ z. z.items) w.places-is ∙ w.push_reserved.ensures.items
            ∙ place_next labels counts i now w.index-place.result.now lt before_it.done (w.index-place.ensures ∙ place_there labels counts i label now w.index-place.result.now c.requires.rooted lt refl w.if-label-index.true before_it.done);
        count = w.bus_count-is ∙ before_it.count ∙ sym (before_past labels counts i (other_leads labels counts i w.if-label-index.true));
        len = omega (arith, ap vec_len w.places-is, w.push_reserved.ensures.len, before_it.len);
        room = omega (arith, ap vec_capacity w.places-is, w.push_reserved.ensures.capacity, before_it.room);
      }
      | else-label-index+then-leads_bus w ↦
          (let leads : leads_bus labels counts i ≡ true = sym w.leads_bus.ensures ∙ w.if-leads_bus.true in record {
            done = ap (λ z. z.items) w.places-is ∙ w.push_reserved-then-leads_bus.ensures.items
                ∙ place_next labels counts i now (Some c.loop-index.bus_count) lt before_it.done (ap (λ z. Some z) before_it.count ∙ sym (leads_place labels counts i lt leads) ∙ ap (led_place labels counts) (sym w.if-label-index.false));
            count = w.bus_count-is ∙ ap (λ z. z + 1) before_it.count ∙ sym (before_more labels counts i leads);
            len = omega (arith, ap vec_len w.places-is, w.push_reserved-then-leads_bus.ensures.len, before_it.len);
            room = omega (arith, ap vec_capacity w.places-is, w.push_reserved-then-leads_bus.ensures.capacity, before_it.room);
          })
      | else-label-index+else-leads_bus w ↦
          (let other : leads_bus labels counts i ≡ false = sym w.leads_bus.ensures ∙ w.if-leads_bus.false in record {
            done = ap (λ z. z.items) w.places-is ∙ w.push_reserved-else-leads_bus.ensures.items
                ∙ place_next labels counts i now None lt before_it.done (sym (leads_none labels counts i other) ∙ ap (led_place labels counts) (sym w.if-label-index.false));
            count = w.bus_count-is ∙ before_it.count ∙ sym (before_past labels counts i other);
            len = omega (arith, ap vec_len w.places-is, w.push_reserved-else-leads_bus.ensures.len, before_it.len);
            room = omega (arith, ap vec_capacity w.places-is, w.push_reserved-else-leads_bus.ensures.capacity, before_it.room);
          })
    ]
