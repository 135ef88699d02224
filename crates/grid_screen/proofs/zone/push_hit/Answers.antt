use Rattle.std.proofs.Common.{sym, ◌∙◌, arith}
use Rattle.std.proofs.lemmas.List.{append-nil}
use Rattle.grid_screen.proofs.HitSites.{hit_more, hit_skipped, hit_all}
use Rattle.grid_screen.proofs.zone.push_hit.Goals as goal

pub loop-index-init : goal.loop-index-init
loop-index-init c = sym (append-nil c.args.zone.now)

pub is_hit-requires-clause-index : goal.is_hit-requires-clause-index
is_hit-requires-clause-index c = omega (arith, c.loop-index-test.true, c.node_count-index-end.ensures, c.requires.long)

pub is_hit-requires-clause-below : goal.is_hit-requires-clause-below
is_hit-requires-clause-below c = c.requires.below

pub loop-index-preserved-then-not-is_hit : goal.loop-index-preserved-then-not-is_hit
loop-index-preserved-then-not-is_hit c =
    hit_skipped c.args.place c.args.touched.now c.loop-index.index c.args.zone.now c.loop-index.zone c.requires (omega (arith, c.loop-index-test.true, c.node_count-index-end.ensures)) (sym c.is_hit.ensures ∙ c.if-not-is_hit.true) c.loop-index.invariant

pub loop-index-preserved : goal.loop-index-preserved
loop-index-preserved c =
    hit_more c.args.place c.args.touched.now c.loop-index.index c.node_at-node.result c.args.zone.now c.loop-index.zone _ c.requires c.node_at-node.ensures (sym c.is_hit.ensures ∙ c.if-not-is_hit.false) c.loop-index.invariant c.in_ok-push.ensures.ok

pub returns : goal.returns
returns c = hit_all c.args.place c.args.touched.now c.loop-index.index c.args.zone.now c.loop-index.zone (omega (arith, c.loop-index-test.false, c.node_count-index-end.ensures)) c.loop-index.invariant
