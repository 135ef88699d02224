use Rattle.std.proofs.Common.{◌≡◌, sym, ap, ◌∙◌, ℕ, true, false, length, map, get_or, arith}
use Rattle.std.specs.Prelude.{filter}
use Rattle.std.proofs.lemmas.Option.{get_or_from_slice_get}
use Rattle.grid_graph.specs.Components.{places}
use Rattle.grid_level.specs.Passing.{nodes}
use Rattle.grid_groups.proofs.Steps.{mapped_place, unmapped_place}
use Rattle.grid_busview.specs.declared.ViewBus.{ViewBus}
use Rattle.grid_busview.specs.Labelled.{leads_bus, bus_leaders, empty_bus}
use Rattle.grid_busview.proofs.view.empty_buses.Goals as goal
use Rattle.grid_busview.proofs.view.empty_buses.Goals.{then-leads_bus+in_ok-empty_bus+in_ok-push, else-leads_bus}

pub loop-index-init : goal.loop-index-init
unfolding places
loop-index-init c = c.new-buses.ensures.items

pub loop-index-preserved : goal.loop-index-preserved
loop-index-preserved c =
    let level = c.args.level.now in
    let labels = c.args.labels.now in
    let counts = c.args.counts.now in
    let i = c.loop-index.index in
    let made : ℕ → ViewBus = λ k. empty_bus (get_or (nodes level) k 0) in
    elim c.if-leads_bus.branch [
      | then-leads_bus+in_ok-empty_bus+in_ok-push w ↦
          let leads : leads_bus labels counts i ≡ true = sym c.leads_bus.ensures ∙ w.if-leads_bus.true in
          ap (λ z. z.items) w.buses-is ∙ w.in_ok-push.ensures.items
          ∙ mapped_place made (leads_bus labels counts) i c.loop-index.buses.items w.in_ok-empty_bus.field-0 leads c.loop-index.invariant
          (w.in_ok-empty_bus.ensures ∙ ap empty_bus (sym (get_or_from_slice_get (nodes level) i w.node_at.result 0 w.node_at.ensures)))
      | else-leads_bus w ↦
          let other : leads_bus labels counts i ≡ false = sym c.leads_bus.ensures ∙ w.if-leads_bus.false in
          ap (λ z. z.items) w.buses-is ∙ unmapped_place made (leads_bus labels counts) i c.loop-index.buses.items other c.loop-index.invariant
    ]

pub returns : goal.returns
unfolding bus_leaders
returns c =
    let all : c.loop-index.index ≡ length c.args.labels.now = omega (arith, c.loop-index-test.false, c.loop-index.auto.index-end, c.node_count-index-end.ensures, c.requires.labels) in
    c.loop-index.invariant ∙ ap (λ n. map (λ k. empty_bus (get_or (nodes c.args.level.now) k 0)) (filter (leads_bus c.args.labels.now c.args.counts.now) (places n))) all
