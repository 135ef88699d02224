use Rattle.std.proofs.Common.{◌≡◌, refl, sym, ap, ◌∙◌, ℕ, ◌<◌, ◌+◌, Option, Some, None, List, length, get_or, arith}
use Rattle.grid_level.specs.VoltageLevel.{VoltageLevel}
use Rattle.grid_busview.specs.declared.leading.Led.{Led}
use Rattle.grid_busview.specs.Labelled.{AreLed, led_place, bus_leaders, with_node}
use Rattle.grid_busview.proofs.LeadingLabels.{label_below, of_index, led_within, none_found}
use Rattle.grid_busview.proofs.BusFilling.{nodes_to, nodes_none, nodes_all, nodes_next, nodes_past, put_at, kept_at}
use Rattle.grid_busview.proofs.view.put_nodes.Goals as goal
use Rattle.grid_busview.proofs.view.put_nodes.Goals.{in-Some+in_ok-push_node, in_default}

pub loop-index-init : goal.loop-index-init
loop-index-init c = c.requires.buses ∙ nodes_none c.args.level.now c.args.labels.now (bus_leaders c.args.labels.now c.args.led.now.counts)

pub overflow_cast-index : goal.overflow_cast-index
overflow_cast-index c = omega (arith, c.loop-index-test.true, c.requires.led.long, c.keeps.ensures.few_nodes)

-- what a node's label leads
found : (level : VoltageLevel) (labels : List ℕ) (led : Led) (s : AreLed level labels led) (table : List (Option ℕ)) → table ≡ led.places → (i : ℕ) (place : Option ℕ) → i < length labels → get_or table (get_or labels i 0) None ≡ place
    → led_place labels led.counts (get_or labels i 0) ≡ place
found level labels led s table same i place lt is = sym (of_index level labels led s i None lt) ∙ ap (λ z. get_or z (get_or labels i 0) None) (sym same) ∙ is

pub push_node-requires : goal.push_node-requires
push_node-requires c =
    let level = c.args.level.now in
    let labels = c.args.labels.now in
    let i = c.loop-index.index in
    led_within labels c.args.led.now.counts (nodes_to level labels i) c.loop-index.buses.items (get_or labels i 0) c.in-Some.number (label_below level labels c.args.led.now c.requires.led i c.loop-index-test.true)
    (found c.args.level.now labels c.args.led.now c.requires.led c.slice-places.result.now c.slice-places.ensures i (Some c.in-Some.number) c.loop-index-test.true c.in-Some.is) c.loop-index.invariant

pub loop-index-preserved : goal.loop-index-preserved
loop-index-preserved c =
    let level = c.args.level.now in
    let labels = c.args.labels.now in
    let counts = c.args.led.now.counts in
    let i = c.loop-index.index in
    let label : ℕ = get_or labels i 0 in
    let led = c.args.led.now in
    let lt = c.loop-index-test.true in
    let below = label_below level labels led c.requires.led i lt in
    let leads : (place : Option ℕ) → get_or c.slice-places.result.now label None ≡ place → led_place labels counts label ≡ place = λ place is. found level labels led c.requires.led c.slice-places.result.now c.slice-places.ensures i place lt is in
    let f = nodes_to level labels i in
    let g = nodes_to level labels (i + 1) in
    elim c.match-places-label.branch [
      | in-Some+in_ok-push_node w ↦
          ap (λ z. z.items) w.buses-is ∙ w.in_ok-push_node.ensures
          ∙ put_at labels counts f g c.loop-index.buses.items label below (λ l. nodes_past level labels i label l refl) c.loop-index.invariant (λ z. with_node z w.node_at.result) w.in-Some.number (leads (Some w.in-Some.number) w.in-Some.is)
          (nodes_next level labels i label w.node_at.result refl w.node_at.ensures)
      | in_default w ↦
          ap (λ z. z.items) w.buses-is
          ∙ kept_at labels counts f g c.loop-index.buses.items label below (λ l. nodes_past level labels i label l refl) c.loop-index.invariant (leads None (none_found _ w.in_default.not-Some))
    ]

pub returns : goal.returns
returns c =
    let labels = c.args.labels.now in (
      c.requires.led,
      c.loop-index.invariant ∙ nodes_all c.args.level.now labels c.loop-index.index (bus_leaders labels c.args.led.now.counts) (omega (arith, c.loop-index-test.false, c.loop-index.auto.index-end)),
    )
