use Rattle.std.proofs.Common.{sym, ap, ◌∙◌, ◌++◌, ◌∷◌, []}
use Rattle.std.proofs.lemmas.List.{append-nil, take_all}
use Rattle.grid_level.specs.Passing.{nodes}
use Rattle.grid_screen.specs.Opening.{equipment_hit}
use Rattle.grid_screen.proofs.Grown.{placed_among_at}
use Rattle.grid_screen.proofs.Clearings.{terminals_more, terminals_skipped}
use Rattle.grid_screen.proofs.clearing.push_equipment.Goals as goal

pub loop-placed-init : goal.loop-placed-init
unfolding equipment_hit
loop-placed-init c = sym (append-nil c.args.ids.now)

pub is_hit_at-requires-clause-node : goal.is_hit_at-requires-clause-node
is_hit_at-requires-clause-node c = placed_among_at (nodes c.args.touched.now.level.now) c.args.placed.now c.loop-placed.placed-index c.placed-item.result c.requires.nodes c.loop-placed-test.true c.placed-item.is

pub loop-placed-preserved-then-not-is_hit_at : goal.loop-placed-preserved-then-not-is_hit_at
loop-placed-preserved-then-not-is_hit_at c =
    terminals_skipped c.args.touched.now c.args.placed.now c.loop-placed.placed-index c.placed-item.result c.args.ids.now c.loop-placed.ids c.loop-placed-test.true c.placed-item.is (sym c.is_hit_at.ensures ∙ c.if-not-is_hit_at.true) c.loop-placed.invariant

pub loop-placed-preserved : goal.loop-placed-preserved
loop-placed-preserved c =
    terminals_more c.args.touched.now c.args.placed.now c.loop-placed.placed-index c.placed-item.result c.args.ids.now c.loop-placed.ids _ c.loop-placed-test.true c.placed-item.is (sym c.is_hit_at.ensures ∙ c.if-not-is_hit_at.false) c.loop-placed.invariant
    (c.in_ok-push.ensures.ok ∙ ap (λ z. c.loop-placed.ids ++ z ∷ []) c.in_ok-copy.ensures)

pub returns : goal.returns
returns c = c.loop-placed.invariant ∙ ap (λ z. c.args.ids.now ++ equipment_hit c.args.touched.now z) (take_all c.loop-placed.placed-index c.args.placed.now c.loop-placed-test.false)
