-- Equal lines tell alike.
use Rattle.std.proofs.Common.{◌≡◌, length, refl, sym, ap, ◌∙◌}
use Rattle.std.specs.Prelude.{codes}
use Rattle.grid_report.specs.declared.outcome.Outcome.{Outcome}
use Rattle.grid_print.proofs.Each.{each_of}
use Rattle.grid_jsonl.specs.Trees.{ordered}
use Rattle.grid_jsonl.specs.Steps.{steps}
use Rattle.grid_jsonl.specs.Outcomes.{end_of, counts_of, end_object, objects, lines}
use Rattle.grid_told.specs.Outcomes.{IsVariantView, IsHeld}
use Rattle.grid_told.specs.Laws.{OutcomesAreTold}
use Rattle.grid_told.proofs.Fields.{natural_of, at}
use Rattle.grid_told.proofs.Lines.{same_lines, wholes_of}
use Rattle.grid_told.proofs.Objects.{objects_readable}
use Rattle.grid_told.proofs.ObjectKinds.{variants_of, same_parts}
use Rattle.grid_told.proofs.CommandObjects.{same_said}
use Rattle.grid_told.proofs.ListenerLines.{cut, variants_cut, heard_alike}

same_objects : (o p : Outcome) → IsHeld o → IsHeld p → lines (objects o) ≡ lines (objects p) → objects o ≡ objects p
same_objects o p h k e = same_lines (objects o) (objects p) (wholes_of (objects o) (objects_readable o h)) (wholes_of (objects p) (objects_readable p k)) e

workers_counted : (o : Outcome) → natural_of (at (codes "workers") (end_object o)) ≡ o.workers
unfolding end_of counts_of ordered
workers_counted o = refl

listeners_counted : (o : Outcome) → natural_of (at (codes "listeners") (end_object o)) ≡ length o.filters
unfolding end_of counts_of ordered
listeners_counted o = refl

views_cut : (o : Outcome) → IsHeld o → (cut (variants_of o)).1 ≡ o.views
views_cut o h = ap (λ c. c.1) (variants_cut o.views (each_of IsVariantView o.views h.views))

pub outcomes_are_told : OutcomesAreTold
outcomes_are_told o p h k fits also e =
    let parts = same_parts o p (same_objects o p h k e) in
    let workers = sym (workers_counted o) ∙ ap (λ d. natural_of (at (codes "workers") d)) parts.last ∙ workers_counted p in
    let listeners = sym (listeners_counted o) ∙ ap (λ d. natural_of (at (codes "listeners") d)) parts.last ∙ listeners_counted p in
    record {
      said = same_said o p h k fits also workers parts.order parts.commands;
      workers = workers;
      listeners = listeners;
      views = sym (views_cut o h) ∙ ap (λ ds. (cut ds).1) parts.variants ∙ views_cut p k;
      heard = heard_alike (steps o.journal) (steps p.journal) 0 o.filters p.filters listeners parts.heard;
    }
