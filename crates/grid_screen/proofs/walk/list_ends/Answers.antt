use Rattle.std.proofs.Common.{sym, ap, ◌∙◌, ◌++◌, ◌∷◌, [], get_or, arith}
use Rattle.std.specs.Prelude.{slice_set}
use Rattle.grid_level.specs.Passing.{nodes}
use Rattle.grid_screen.proofs.Grown.{no_ends, ends_more, ends_skipped, placed_among_at}
use Rattle.grid_screen.proofs.walk.list_ends.Goals as goal

pub loop-placed-init : goal.loop-placed-init
loop-placed-init c = no_ends c.args.level.now c.args.labels.now c.in_ok-ends.ends.items c.in_ok-ends.ensures.long c.in_ok-ends.ensures.none

pub label_among-requires-clause-node : goal.label_among-requires-clause-node
label_among-requires-clause-node c = placed_among_at (nodes c.args.level.now) c.args.placed.now c.loop-placed.placed-index c.placed-item.result c.requires.there c.loop-placed-test.true c.placed-item.is

pub push_end-requires : goal.push_end-requires
push_end-requires c =
    let here = placed_among_at (nodes c.args.level.now) c.args.placed.now c.loop-placed.placed-index c.placed-item.result c.requires.there c.loop-placed-test.true c.placed-item.is in
    omega (arith, c.requires.below _ here, c.label_among.ensures, c.loop-placed.invariant.long)

pub loop-placed-preserved-then-not-is_branch_end : goal.loop-placed-preserved-then-not-is_branch_end
loop-placed-preserved-then-not-is_branch_end c =
    ends_skipped c.args.level.now c.args.labels.now c.args.placed.now c.loop-placed.placed-index c.placed-item.result c.loop-placed.ends.items c.loop-placed-test.true c.placed-item.is c.loop-placed.invariant
    (sym c.is_branch_end.ensures ∙ c.if-not-is_branch_end.true)

pub loop-placed-preserved : goal.loop-placed-preserved
loop-placed-preserved c =
    let p = c.placed-item.result in
    let ends = c.loop-placed.ends.items in
    let here = placed_among_at (nodes c.args.level.now) c.args.placed.now c.loop-placed.placed-index p c.requires.there c.loop-placed-test.true c.placed-item.is in
    ends_more c.args.level.now c.args.labels.now c.args.placed.now c.loop-placed.placed-index p ends c.loop-placed-test.true c.placed-item.is c.loop-placed.invariant
    _ (sym c.is_branch_end.ensures ∙ c.if-not-is_branch_end.false) (omega (arith, c.requires.below _ here, c.loop-placed.invariant.long))
    (c.in_ok-push_end.ensures ∙ ap (λ z. slice_set ends z (get_or ends z [] ++ p.terminal.equipment ∷ [])) c.label_among.ensures)
