use Rattle.std.proofs.Common.{append_assoc}
use Rattle.grid_cli.specs.Counts.{counts_text}
use Rattle.grid_cli.proofs.counts.CountsShown.show.Goals as goal

pub returns : goal.returns
unfolding counts_text
returns c =
    let last = c.put_counted-4.ensures in
    record { ok = simp append_assoc (simp (c.in_ok-put_counted-3.ensures.ok, c.in_ok-put_counted-2.ensures.ok, c.in_ok-put_counted.ensures.ok, c.in_ok-put.ensures.ok, c.from.ensures, c.from-2.ensures, c.from-3.ensures, append_assoc) at last.ok); err = last.err }
