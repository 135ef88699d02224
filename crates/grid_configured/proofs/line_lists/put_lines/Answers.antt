use Rattle.std.proofs.Common.{arith}
use Rattle.grid_configured.specs.Translation.{translated_line}
use Rattle.grid_configured.proofs.LinePuts.{line_made}
use Rattle.grid_configured.proofs.line_lists.put_lines.Goals as goal

pub loop-place-preserved : goal.loop-place-preserved
loop-place-preserved c =
    let n = c.args.network.now in
    let more = line_made (translated_line n) n.lines c.loop-place.place c.in_ok-put_line.field-0 (let less = c.loop-place-test.true in let count = c.len-place-end.ensures in omega (arith, less, count)) c.in_ok-put_line.ensures.line in
    let done = c.in_ok-push.ensures.ok in
    let made = c.loop-place.invariant.made in
    record { made = cc; levels = c.in_ok-put_line.ensures.levels }
