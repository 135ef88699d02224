use Rattle.std.proofs.Common.{Result, Ok, Err, List, ℕ, ap, ◌∙◌}
use Rattle.std.specs.Prelude.{OnErr}
use Rattle.std.specs.List.{flat_map}
use Rattle.grid_report.proofs.Begun.{at_start}
use Rattle.grid_jsonl.specs.Outcomes.{objects}
use Rattle.grid_jsonl.proofs.RemainingLines.{texts_joined}
use Rattle.grid_jsonl.proofs.write.write_lines.Goals as goal

on_err : {T E P : Type 0} (r : Result T E) → P → OnErr r P
on_err (Ok x) p = tt
on_err (Err e) p = p

pub returns-in_err-steps-clause-err : goal.returns-in_err-steps-clause-err
returns-in_err-steps-clause-err g c = on_err c.from_residual.result (at_start _ _)

pub returns-clause-ok : goal.returns-clause-ok
returns-clause-ok g c = rw (ap (flat_map (λ (line : List ℕ). line)) c.of.ensures ∙ texts_joined (objects c.args.outcome.now)) at c.write_text.ensures.ok

pub returns-clause-err : goal.returns-clause-err
returns-clause-err g c = rw (ap (flat_map (λ (line : List ℕ). line)) c.of.ensures ∙ texts_joined (objects c.args.outcome.now)) at c.write_text.ensures.err
