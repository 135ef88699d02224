use Rattle.std.proofs.Common.{ℕ, ap, ◌∙◌, length}
use Rattle.std.specs.List.{count_by}
use Rattle.grid_jsonl.specs.declared.line.Counts.{Counts}
use Rattle.grid_configured.specs.Lines.{counts_of, is_refused}
use Rattle.grid_configured.proofs.PartObjects.{counts_told}
use Rattle.grid_configured.proofs.plan.counts_of.Goals as goal

pub returns : goal.returns
returns c =
    let o = c.outcome.inside in
    ap (λ (n : ℕ). let s : Counts = record { workers = o.workers; commands = n; refused = c.count_refused.result; variants = c.len-2.result; listeners = 0 } in s) c.len.ensures
    ∙ ap (λ (n : ℕ). let s : Counts = record { workers = o.workers; commands = length o.journal; refused = n; variants = c.len-2.result; listeners = 0 } in s) (c.count_refused.ensures ∙ ap (count_by is_refused) c.slice.ensures)
    ∙ ap (λ (n : ℕ). let s : Counts = record { workers = o.workers; commands = length o.journal; refused = count_by is_refused o.replies; variants = n; listeners = 0 } in s) c.len-2.ensures
    ∙ counts_told o.journal o.replies o.workers o.views c.outcome.invariant
    ∙ ap counts_of c.outcome.view_is
