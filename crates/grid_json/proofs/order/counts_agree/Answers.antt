use Rattle.std.proofs.Common.{◌<◌, ◌≤◌, ◌^◌, sym, ◌∙◌, arith, eq-eqb, map, length}
use Rattle.std.specs.Int.{w64}
use Rattle.std.proofs.lemmas.Bool.{ne_eqb}
use Rattle.std.proofs.lemmas.Int.{to_z_pos}
use Rattle.std.proofs.lemmas.List.{length-map}
use Rattle.grid_json.proofs.Counts.{differs, goes_on, ends, at_script}
use Rattle.grid_json.proofs.order.counts_agree.Goals as goal

pub returns-then-times-len : goal.returns-then-times-len
returns-then-times-len c =
    let small : c.loop-worker.worker < 2 ^ 63 = omega arith in
    let t = rw (to_z_pos w64 c.loop-worker.worker small) at c.times.ensures in
    let at = at_script c.args.scripts.now c.loop-worker.worker c.index-scripts-worker.result c.loop-worker-test.true c.index-scripts-worker.is in
    let lt : c.loop-worker.worker < length (map length c.args.scripts.now) = rw length-map c.loop-worker-test.true in
    differs (map length c.args.scripts.now) c.args.order.now c.loop-worker.worker _ lt (ne_eqb _ _ (λ e. c.if-times-len.true (t ∙ e ∙ at ∙ sym c.len.ensures))) c.loop-worker.invariant

pub loop-worker-preserved : goal.loop-worker-preserved
loop-worker-preserved c =
    let small : c.loop-worker.worker < 2 ^ 63 = omega arith in
    let t = rw (to_z_pos w64 c.loop-worker.worker small) at c.times.ensures in
    let at = at_script c.args.scripts.now c.loop-worker.worker c.index-scripts-worker.result c.loop-worker-test.true c.index-scripts-worker.is in
    let lt : c.loop-worker.worker < length (map length c.args.scripts.now) = rw length-map c.loop-worker-test.true in
    goes_on (map length c.args.scripts.now) c.args.order.now c.loop-worker.worker _ lt (eq-eqb _ _ (sym t ∙ c.if-times-len.false ∙ c.len.ensures ∙ sym at)) c.loop-worker.invariant

pub returns : goal.returns
returns c =
    let le : length (map length c.args.scripts.now) ≤ c.loop-worker.worker = rw length-map c.loop-worker-test.false in
    ends _ _ _ _ le c.loop-worker.invariant
