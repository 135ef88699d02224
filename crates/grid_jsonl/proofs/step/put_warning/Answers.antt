use Rattle.std.proofs.Common.{sym, append-nil}
use Rattle.grid_jsonl.specs.Borrowed.{step_in}
use Rattle.grid_jsonl.specs.Steps.{warning_of, warning_text}
use Rattle.grid_jsonl.proofs.Steps.{warned}
use Rattle.grid_jsonl.proofs.step.put_warning.Goals as goal

pub returns-in_ok-put_told-in-Some : goal.returns-in_ok-put_told-in-Some
unfolding warning_text
returns-in_ok-put_told-in-Some c =
    rw (sym c.in-Some.ensures) (warned c.args.journal.now (step_in c.in-Some.step) c.args.out.now c.put_counts.new.out c.in_ok-put_counts-in-Some.ensures.ok c.in_ok-put_told-in-Some.ensures.ok c.put.ensures)

pub returns-in-None : goal.returns-in-None
unfolding warning_text warning_of
returns-in-None c = rw (sym c.in-None.ensures) (record { ok = sym (append-nil c.args.out.now); err = tt })
