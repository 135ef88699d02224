use Rattle.std.proofs.Common.{◌≡◌, sym, ap, ap₂, ◌∙◌, ◌&&◌, ◌||◌, subst, List, length, take, replicate, true, false, arith}
use Rattle.std.specs.Prelude.{eqb}
use Rattle.std.specs.List.{list_all}
use Rattle.std.proofs.Math.ListN.{length-replicate}
use Rattle.grid_graph.proofs.Reach.{In}
use Rattle.grid_level.specs.declared.Placed.{Placed}
use Rattle.grid_level.specs.Passing.{nodes}
use Rattle.grid_level.specs.Kept.{among}
use Rattle.grid_lemmas.proofs.Lists.{take_next}
use Rattle.grid_paths.specs.Routes.{is_goal}
use Rattle.grid_groups.proofs.Indices.{among_In, index_below}
use Rattle.grid_groups.proofs.Steps.{all_at}
use Rattle.grid_connect.proofs.Lists.{BusbarsTo, bars_none, bars_more, bars_end}
use Rattle.grid_connect.proofs.connect.busbars.Goals as goal
use Rattle.grid_connect.proofs.connect.busbars.Goals.{After-placed-item}

inside : (c : After-placed-item) → In c.placed-item.result.node (nodes c.args.level.now)
inside c =
    let test : Placed → _ = λ p. among (nodes c.args.level.now) p.node in
    let P : List Placed → Type 0 = λ z. list_all test z ≡ true in
    among_In c.placed-item.result.node (nodes c.args.level.now)
    (all_at test c.placed-placed-items.result.now c.loop-placed.placed-index c.placed-item.result (subst P (sym c.placed-placed-items.ensures) c.keeps.ensures.placed_are_nodes) c.loop-placed-test.true c.placed-item.is)

pub mark_if-requires : goal.mark_if-requires
mark_if-requires c =
    let low = index_below c.placed-item.result.node (nodes c.args.level.now) (inside (goal.at.mark_if-requires c).After-placed-item) in
    omega (arith, low, c.index_of.ensures, c.loop-placed.invariant.long)

pub loop-placed-init : goal.loop-placed-init
loop-placed-init c =
    let e : c.in_ok-marks.marks.items ≡ replicate c.node_count-count.result false = c.in_ok-marks.ensures.items_if_clones_equal (λ y e. e) in
    record {
      long = ap length e ∙ length-replicate c.node_count-count.result false ∙ c.node_count-count.ensures;
      busbars = bars_none (nodes c.args.level.now) c.in_ok-marks.marks.items c.node_count-count.result c.placed-placed-items.result.now e;
    }

pub loop-placed-preserved : goal.loop-placed-preserved
loop-placed-preserved c =
    let all = c.placed-placed-items.result.now in
    let i = c.loop-placed.placed-index in
    let p = c.placed-item.result in
    let old = c.loop-placed.marks.items in
    let new = c.mark_if.new.marks.items in
    let P : List Placed → Type 0 = λ z. BusbarsTo (nodes c.args.level.now) z new in
    record {
      long = c.mark_if.ensures.long ∙ c.loop-placed.invariant.long;
      busbars = subst P (sym (take_next all i p c.loop-placed-test.true c.placed-item.is))
          (bars_more (nodes c.args.level.now) (take i all) p old new (inside (goal.at.loop-placed-preserved c).After-placed-item)
          (λ k. c.mark_if.ensures.marks k ∙ ap₂ (λ j t. is_goal old k || (eqb j k && t)) c.index_of.ensures c.is_busbar.ensures) c.loop-placed.invariant.busbars);
    }

pub returns-clause-busbars : goal.returns-clause-busbars
returns-clause-busbars c =
    bars_end c.args.level.now c.loop-placed.marks.items c.placed-placed-items.result.now c.loop-placed.placed-index c.placed-placed-items.ensures c.loop-placed-test.false c.loop-placed.invariant.busbars
