use Rattle.std.proofs.Common.{◌≡◌, refl, sym, ap, ◌∙◌, subst, ℕ, ◌<◌, ◌≤◌, ◌+◌, pos, Option, Some, None, List, length, get_or, set, arith, rules}
use Rattle.std.proofs.lemmas.Int.{to_z-of_z}
use mir.Syntax.{w64}
use mir.Val.{SFits}
use Rattle.grid_groups.specs.Labels.{labels_placed}
use Rattle.grid_groups.proofs.TerminalNodes.{few_placed}
use Rattle.grid_busview.specs.declared.ViewBus.{ViewBus}
use Rattle.grid_busview.specs.Labelled.{led_place, bus_leaders, bus_nodes, with_fed, no_bus}
use Rattle.grid_busview.proofs.LeadingLabels.{led_within, none_found}
use Rattle.grid_busview.proofs.PlacedIndices.{node_among, node_from, index_inside, key_is, index_next, keys_long}
use Rattle.grid_busview.proofs.BusFilling.{fed_to, fed_none, fed_all, key_leads, key_below, fed_put, fed_kept, AllWithin, within_start, nodes_within, within_kept, within_put, within_limit}
use Rattle.grid_busview.proofs.view.put_terminals.Goals as goal
use Rattle.grid_busview.proofs.view.put_terminals.Goals.{After-placed-item, After-index_from-index, In-Some, in-Some+in_ok-feed_at, in_default}

pub loop-place-init : goal.loop-place-init
loop-place-init c =
    let level = c.args.level.now in
    let labels = c.args.labels.now in
    let leaders = bus_leaders labels c.args.led.now.counts in
    record {
      next = λ d lt. omega arith;
      fed = c.requires.buses.1 ∙ fed_none level c.args.powers.now labels (labels_placed level labels) leaders;
      within = within_start (bus_nodes level labels) leaders c.args.buses.now.items c.requires.buses.1 (nodes_within level labels);
    }

-- the terminal at its place
inside : (c : After-placed-item) → c.loop-place.place < length c.args.level.now.placed
inside c = omega (arith, c.loop-place-test.true, ap length c.placed-placed-items.ensures)

item : (c : After-placed-item) → c.placed-item.result ≡ get_or c.args.level.now.placed c.loop-place.place c.placed-item.result
item c = c.placed-item.is ∙ ap (λ z. get_or z c.loop-place.place c.placed-item.result) c.placed-placed-items.ensures

pub index_from-index-requires-clause-node : goal.index_from-index-requires-clause-node
index_from-index-requires-clause-node c =
    let a = (goal.at.index_from-index-requires-clause-node c).After-placed-item in
    node_among c.args.level.now c.keeps.ensures c.loop-place.place c.placed-item.result (inside a) (item a)

pub index_from-index-requires-clause-start : goal.index_from-index-requires-clause-start
index_from-index-requires-clause-start c =
    let a = (goal.at.index_from-index-requires-clause-start c).After-placed-item in
    node_from c.args.level.now c.keeps.ensures c.loop-place.place c.placed-item.result (inside a) (item a) c.loop-place.index (c.loop-place.invariant.next c.placed-item.result (inside a))

-- the index that was found is one of the labels, and has the terminal's label
found : (c : After-index_from-index)
    → (c.index_from-index.result < length c.args.labels.now) × (get_or (labels_placed c.args.level.now c.args.labels.now) c.loop-place.place 0 ≡ get_or c.args.labels.now c.index_from-index.result 0)
found c =
    let a = (goal.at.After-index_from-index c).After-placed-item in
    let level = c.args.level.now in
    let labels = c.args.labels.now in
    let i = c.loop-place.place in
    let p = c.placed-item.result in (
      index_inside level c.keeps.ensures i p (inside a) (item a) labels c.index_from-index.result c.index_from-index.ensures c.requires.buses.0.long,
      key_is level c.keeps.ensures i p (inside a) (item a) labels c.index_from-index.result c.index_from-index.ensures,
    )

pub bounds-labels-index : goal.bounds-labels-index
bounds-labels-index c = (found (goal.at.bounds-labels-index c).After-index_from-index).0

pub bounds-powers-place : goal.bounds-powers-place
bounds-powers-place c = omega (arith, inside (goal.at.bounds-powers-place c).After-placed-item, c.requires.powers)

numbered : (c : In-Some) → c.in-Some.number < length c.loop-place.buses.items
numbered c =
    let level = c.args.level.now in
    let labels = c.args.labels.now in
    let led = c.args.led.now in
    let i = c.loop-place.place in
    let index = c.index_from-index.result in
    let key = get_or labels index 0 in
    let f = found (goal.at.In-Some c).After-index_from-index in
    led_within labels led.counts (fed_to level c.args.powers.now labels (labels_placed level labels) i) c.loop-place.buses.items key c.in-Some.number (key_below level c.args.powers.now labels led c.requires.buses.0 i index key f.0 refl f.1)
    (key_leads level c.args.powers.now labels led c.requires.buses.0 i index key f.0 refl f.1 c.slice-places.result.now (Some c.in-Some.number) c.slice-places.ensures c.in-Some.is) c.loop-place.invariant.fed

pub feed_at-requires-clause-number : goal.feed_at-requires-clause-number
feed_at-requires-clause-number c = numbered (goal.at.feed_at-requires-clause-number c).In-Some

pub feed_at-requires-clause-sums : goal.feed_at-requires-clause-sums
feed_at-requires-clause-sums c =
    let number = c.in-Some.number in
    let few : c.loop-place.place ≤ 1024 = omega (arith, inside (goal.at.feed_at-requires-clause-sums c).After-placed-item, few_placed c.args.level.now c.keeps.ensures) in
    within_limit c.loop-place.place (get_or c.loop-place.buses.items number no_bus) few (c.loop-place.invariant.within number (numbered (goal.at.feed_at-requires-clause-sums c).In-Some))

pub loop-place-preserved : goal.loop-place-preserved
loop-place-preserved c =
    let level = c.args.level.now in
    let powers = c.args.powers.now in
    let labels = c.args.labels.now in
    let led = c.args.led.now in
    let s = c.requires.buses.0 in
    let i = c.loop-place.place in
    let p = c.placed-item.result in
    let index = c.index_from-index.result in
    let key = get_or labels index 0 in
    let table = c.slice-places.result.now in
    let buses : List ViewBus = c.loop-place.buses.items in
    let lt = inside (goal.at.loop-place-preserved c).After-placed-item in
    let here = item (goal.at.loop-place-preserved c).After-placed-item in
    let f = found (goal.at.loop-place-preserved c).After-index_from-index in
    let leads : (place : Option ℕ) → get_or table key None ≡ place → led_place labels led.counts key ≡ place = λ place e. key_leads level powers labels led s i index key f.0 refl f.1 table place c.slice-places.ensures e in
    let next = index_next level c.keeps.ensures i p lt here labels index c.index_from-index.ensures in
    elim c.match-places-labels.branch [
      | in-Some+in_ok-feed_at w ↦
          (let n = w.in-Some.number in
          let x = get_or powers i (pos 0) in
          let fits : SFits w64 x = search rules in
          let now : c.match-places-labels.buses.items ≡ set buses n (with_fed (get_or buses n no_bus) (p, x)) =
          ap (λ z. z.items) w.buses-is ∙ w.in_ok-feed_at.ensures ∙ ap (λ z. set buses n (with_fed (get_or buses n no_bus) (p, z))) (to_z-of_z w64 x fits) in
          let within = led_within labels led.counts (fed_to level powers labels (labels_placed level labels) i) buses key n (key_below level powers labels led s i index key f.0 refl f.1) (leads (Some n) w.in-Some.is) c.loop-place.invariant.fed in
          record {
            next = next;
            fed = now ∙ fed_put level powers labels led s i index key f.0 refl f.1 buses c.loop-place.invariant.fed n p x (leads (Some n) w.in-Some.is) c.requires.powers lt here refl;
            within = subst (AllWithin (i + 1)) (sym now) (within_put i n buses p x within fits c.loop-place.invariant.within);
          })
      | in_default w ↦
          (let now : c.match-places-labels.buses.items ≡ buses = ap (λ z. z.items) w.buses-is in record {
            next = next;
            fed = now ∙ fed_kept level powers labels led s i index key f.0 refl f.1 buses c.loop-place.invariant.fed (leads None (none_found _ w.in_default.not-Some));
            within = subst (AllWithin (i + 1)) (sym now) (within_kept i buses c.loop-place.invariant.within);
          })
    ]

pub returns : goal.returns
returns c =
    let level = c.args.level.now in
    let labels = c.args.labels.now in
    let keys = labels_placed level labels in
    let all : c.loop-place.place ≡ length keys = omega (arith, c.loop-place-test.false, c.loop-place.auto.place-end, ap length c.placed-placed-items.ensures, keys_long level labels) in
    c.loop-place.invariant.fed ∙ fed_all level c.args.powers.now labels keys c.loop-place.place (bus_leaders labels c.args.led.now.counts) all refl
