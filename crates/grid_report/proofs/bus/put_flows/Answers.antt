use Rattle.std.proofs.Common.{append_assoc}
use Rattle.grid_report.proofs.bus.put_flows.Goals as goal

pub returns : goal.returns
returns c =
    let a = c.in_ok-put.ensures.ok in
    let b = c.in_ok-put_signed.ensures.ok in
    let d = c.in_ok-put-2.ensures.ok in
    let e = c.in_ok-put_signed-2.ensures.ok in
    let f = c.in_ok-put-3.ensures.ok in
    record { ok = simp append_assoc (simp (e, d, b, a, append_assoc) at f); err = tt }
