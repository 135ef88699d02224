use Rattle.std.proofs.Common.{append_assoc, append-nil}
use Rattle.grid_screen.specs.Lines.{effect_fields}
use Rattle.grid_screen.proofs.line.put_effect.Goals as goal

pub returns : goal.returns
unfolding effect_fields
returns c =
    let a = c.in_ok-put_number.ensures.ok in
    let b = c.in_ok-put_number-2.ensures.ok in
    let d = c.in_ok-put_number-3.ensures.ok in
    let e = c.in_ok-put_sum_of.ensures.ok in
    let f = c.put_sum_of-2.ensures in
    let t = c.from.ensures in
    let u = c.from-2.ensures in
    let v = c.from-3.ensures in
    record { ok = simp (append-nil) (simp (e, d, b, a, t, u, v, append_assoc) at f.ok); err = f.err }
