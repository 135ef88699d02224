use Rattle.std.proofs.Common.{ap, ◌∙◌, rules, drop, ◌+◌, ◌∷◌, [], ◌++◌}
use Rattle.std.proofs.lemmas.Int.{to_z-of_z}
use mir.Syntax.{w64}
use mir.Val.{SFits}
use Rattle.grid_watts.proofs.RowWatts.{read_none, rises_ahead, row_ahead, values_more, read_all}
use Rattle.grid_watts.proofs.rows.merged.Goals as goal

pub loop-placed-init : goal.loop-placed-init
loop-placed-init c = λ listed is. read_none listed c.args.level.now c.placed-placed-items.result.now c.empty-values.result c.args.row.now c.placed-placed-items.ensures c.empty-values.ensures is

pub loop-placed-preserved : goal.loop-placed-preserved
loop-placed-preserved c = λ listed is.
    let ps = c.placed-placed-items.result.now in
    let i = c.loop-placed.placed-index in
    let p = c.placed-item.result in
    let values = c.loop-placed.values in
    let left = c.loop-placed.left.now in
    let watts = c.next_watts-watts.result.0 in
    let wide : SFits w64 watts = search rules in
    let are = c.loop-placed.invariant listed is in
    let lt = c.loop-placed-test.true in
    let rise = rises_ahead c.args.level.now ps i p c.keeps.ensures.placed_rise c.placed-placed-items.ensures lt c.placed-item.is in
    let told = c.next_watts-watts.ensures listed (drop (i + 1) ps) rise (row_ahead listed ps i p values left are lt c.placed-item.is) in
    record {
      values_are = c.in_ok-push.ensures.ok ∙ ap (λ w. values ++ w ∷ []) (to_z-of_z w64 watts wide ∙ told.0) ∙ values_more listed ps i p values left are lt c.placed-item.is;
      left_is = told.1;
    }

pub returns : goal.returns
returns c = λ listed is.
    read_all listed c.args.level.now c.placed-placed-items.result.now c.loop-placed.placed-index c.loop-placed.values c.loop-placed.left.now c.placed-placed-items.ensures c.loop-placed-test.false (c.loop-placed.invariant listed is)
