use Rattle.std.proofs.Common.{sym, append-nil}
use Rattle.grid_jsonl.proofs.step.put_first_refused.Goals as goal

pub returns-in-Some : goal.returns-in-Some
returns-in-Some c = rw (sym c.in-Some.ensures) (simp append-nil c.put_found.ensures)

pub returns-in-None : goal.returns-in-None
returns-in-None c = rw (sym c.in-None.ensures) (record { ok = sym (append-nil c.args.out.now); err = tt })
