use Rattle.std.proofs.Common.{sym, ap, ◌∙◌, ◌++◌, ◌∷◌, []}
use Rattle.std.proofs.lemmas.List.{append-nil, take_all}
use Rattle.grid_level.specs.declared.Placed.{Placed}
use Rattle.grid_contingencies.specs.Pieces.{is_stand_of, placed_of}
use Rattle.grid_contingencies.proofs.ItemLoops.{passed_more, passed_left, item_at}
use Rattle.grid_contingencies.proofs.listing.push_placed.Goals as goal

pub loop-placed-init : goal.loop-placed-init
unfolding placed_of
loop-placed-init c = sym (append-nil c.args.ids.now)

pub loop-placed-preserved-then-not-is_stand_of : goal.loop-placed-preserved-then-not-is_stand_of
unfolding placed_of
loop-placed-preserved-then-not-is_stand_of c =
    passed_left (λ (p : Placed). p.terminal.equipment) (λ (p : Placed). is_stand_of c.args.kind p.stand) c.args.placed.now c.loop-placed.placed-index c.placed-item.result
    (item_at c.args.placed.now c.loop-placed.placed-index c.placed-item.result c.loop-placed-test.true c.placed-item.is)
    c.args.ids.now c.loop-placed.ids (sym c.is_stand_of.ensures ∙ c.if-not-is_stand_of.true) c.loop-placed.invariant

pub loop-placed-preserved : goal.loop-placed-preserved
unfolding placed_of
loop-placed-preserved c =
    passed_more (λ (p : Placed). p.terminal.equipment) (λ (p : Placed). is_stand_of c.args.kind p.stand) c.args.placed.now c.loop-placed.placed-index c.placed-item.result
    (item_at c.args.placed.now c.loop-placed.placed-index c.placed-item.result c.loop-placed-test.true c.placed-item.is)
    c.args.ids.now c.loop-placed.ids _ (sym c.is_stand_of.ensures ∙ c.if-not-is_stand_of.false) c.loop-placed.invariant (c.in_ok-push.ensures.ok ∙ ap (λ z. c.loop-placed.ids ++ z ∷ []) c.in_ok-copy.ensures)

pub returns : goal.returns
returns c = c.loop-placed.invariant ∙ ap (λ z. c.args.ids.now ++ placed_of c.args.kind z) (take_all c.loop-placed.placed-index c.args.placed.now c.loop-placed-test.false)
