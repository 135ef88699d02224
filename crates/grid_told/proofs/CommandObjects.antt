-- The lines of commands tell what was said, step by step.
use Rattle.std.proofs.Common.{◌≡◌, ℕ, zero, suc, ◌+◌, ◌<◌, ◌==◌, Bool, true, false, List, [], ◌∷◌, ◌++◌, map, filter, cond, refl, sym, ap, ap₂, ◌∙◌, subst}
use Rattle.std.specs.Prelude.{codes}
use Rattle.std.specs.List.{AllByRecursion, flat_map, range_with_len}
use Rattle.std.proofs.lemmas.List.{map-append}
use Rattle.serde_json.specs.Data.{Data}
use Rattle.grid_requests.specs.declared.request.Request.{Request}
use Rattle.grid_core.specs.declared.reply.Reply.{Reply}
use Rattle.grid_core.specs.declared.journal.Entry.{Entry}
use Rattle.grid_report.specs.declared.outcome.Outcome.{Outcome}
use Rattle.grid_print.specs.Objects.{array_of, natural}
use Rattle.grid_print.proofs.Each.{each_of}
use Rattle.grid_jsonl.specs.Trees.{ordered}
use Rattle.grid_jsonl.specs.Replies.{reply_value}
use Rattle.grid_jsonl.specs.Steps.{Step, step_at, steps_from, steps, step_fields}
use Rattle.grid_jsonl.specs.Outcomes.{order_object, command_object, steps_by, worker_objects}
use Rattle.grid_told.specs.Outcomes.{IsEntry, Fits, IsHeld, IsFitting}
use Rattle.grid_told.specs.Told.{Said, said_of}
use Rattle.grid_told.proofs.Fields.{text_of, natural_of, list_of, at}
use Rattle.grid_told.proofs.Each.{each_map}
use Rattle.grid_told.proofs.CommandsTold.{request_in, request_back}
use Rattle.grid_told.proofs.Replies.{reply_in, reply_back}
use Rattle.grid_told.proofs.WorkerMerges.{own, grouped, told_by_groups}
use Rattle.grid_told.proofs.ObjectKinds.{commands_of}

-- ---- a command

unfoldable pub said_in : Data → Said
said_in d = record {
  worker = natural_of (at (codes "worker") d);
  variant = text_of (at (codes "variant") d);
  request = request_in (at (codes "command") d);
  reply = reply_in (request_in (at (codes "command") d)) (at (codes "reply") d);
}

-- what an entry's types hold, and that its reply fits
abbrev pub IsSaid : Entry → Type 0
IsSaid e = IsEntry e × Fits e.request e.reply

abbrev step_said : Step → Said
step_said s = said_of s.entry

pub said_back : (s : Step) → IsSaid s.entry → said_in (command_object s) ≡ step_said s
unfolding command_object step_fields ordered said_in
said_back s h =
    ap (λ (q : Request). record { worker = s.entry.worker; variant = s.entry.variant; request = q; reply = reply_in q (reply_value s.entry.request s.entry.reply) }) (request_back s.entry.request)
    ∙ ap (λ (r : Reply). record { worker = s.entry.worker; variant = s.entry.variant; request = s.entry.request; reply = r }) (reply_back s.entry.request s.entry.reply h.0.reply h.1)

-- ---- the commands of workers

abbrev pub worker_of : Said → ℕ
worker_of x = x.worker

own_said : (worker : ℕ) (all : List Step) → AllByRecursion (λ s. IsSaid s.entry) all
    → map said_in (map command_object (filter (λ s. s.entry.worker == worker) all)) ≡ own worker_of worker (map step_said all)
own_said worker [] h = refl
own_said worker (s ∷ all) h = by (s.entry.worker == worker) (own_said worker all h.1)
  where
    by : (b : Bool) → map said_in (map command_object (filter (λ s. s.entry.worker == worker) all)) ≡ own worker_of worker (map step_said all)
        → map said_in (map command_object (cond b (s ∷ filter (λ s. s.entry.worker == worker) all) (filter (λ s. s.entry.worker == worker) all))) ≡ cond b (step_said s ∷ own worker_of worker (map step_said all)) (own worker_of worker (map step_said all))
    by true e = ap₂ (λ x xs. x ∷ xs) (said_back s h.0) e
    by false e = e

grouped_said : (first count : ℕ) (all : List Step) → AllByRecursion (λ s. IsSaid s.entry) all
    → map said_in (flat_map (worker_objects all) (range_with_len first count)) ≡ grouped worker_of first count (map step_said all)
unfolding worker_objects steps_by
grouped_said first zero all h = refl
grouped_said first (suc count) all h =
    map-append said_in (worker_objects all first) (flat_map (worker_objects all) (range_with_len (first + 1) count))
    ∙ ap₂ (λ a b. a ++ b) (own_said first all h) (grouped_said (first + 1) count all h)

-- ---- steps and entries

from_said : (journal : List Entry) (place : ℕ) (rest : List Entry) → map step_said (steps_from journal place rest) ≡ map said_of rest
unfolding steps_from step_at
from_said journal place [] = refl
from_said journal place (e ∷ rest) = ap (λ l. said_of e ∷ l) (from_said journal (suc place) rest)

steps_said : (journal : List Entry) → map step_said (steps journal) ≡ map said_of journal
unfolding steps
steps_said journal = from_said journal 0 journal

from_are : (journal : List Entry) (place : ℕ) (rest : List Entry) → AllByRecursion IsSaid rest → AllByRecursion (λ s. IsSaid s.entry) (steps_from journal place rest)
unfolding steps_from step_at
from_are journal place [] h = tt
from_are journal place (e ∷ rest) h = (h.0, from_are journal (suc place) rest h.1)

steps_are : (journal : List Entry) → AllByRecursion IsSaid journal → AllByRecursion (λ s. IsSaid s.entry) (steps journal)
unfolding steps
steps_are journal h = from_are journal 0 journal h

both : (entries : List Entry) → AllByRecursion IsEntry entries → AllByRecursion (λ e. Fits e.request e.reply) entries → AllByRecursion IsSaid entries
both [] h k = tt
both (e ∷ entries) h k = ((h.0, k.0), both entries h.1 k.1)

commands_said : (o : Outcome) → IsHeld o → IsFitting o → map said_in (commands_of o) ≡ grouped worker_of 0 o.workers (map said_of o.journal)
commands_said o held fitting =
    let are = both o.journal (each_of IsEntry o.journal held.entries) (each_of (λ e. Fits e.request e.reply) o.journal fitting.replies) in
    grouped_said 0 o.workers (steps o.journal) (steps_are o.journal are) ∙ ap (grouped worker_of 0 o.workers) (steps_said o.journal)

-- ---- the order

abbrev workers_in : Data → List ℕ
workers_in d = map natural_of (list_of (at (codes "order") d))

listed_workers : (journal : List Entry) → map natural_of (list_of (array_of (λ (e : Entry). natural e.worker) journal)) ≡ map worker_of (map said_of journal)
listed_workers [] = refl
listed_workers (e ∷ journal) = ap (λ l. e.worker ∷ l) (listed_workers journal)

order_said : (journal : List Entry) → workers_in (order_object journal) ≡ map worker_of (map said_of journal)
unfolding order_object ordered
order_said journal = listed_workers journal

workers_few : (count : ℕ) (journal : List Entry) → AllByRecursion (λ e. e.worker < count) journal → AllByRecursion (λ x. worker_of x < count) (map said_of journal)
workers_few count journal h = each_map (λ (e : Entry). e.worker < count) (λ x. worker_of x < count) said_of (λ e k. k) journal h

-- equal orders and equal commands of equally many workers tell the same steps
pub same_said : (o p : Outcome) → IsHeld o → IsHeld p → IsFitting o → IsFitting p → o.workers ≡ p.workers → order_object o.journal ≡ order_object p.journal → commands_of o ≡ commands_of p
    → map said_of o.journal ≡ map said_of p.journal
same_said o p h k fits also count order commands =
    told_by_groups worker_of o.workers (map said_of o.journal) (map said_of p.journal)
    (workers_few o.workers o.journal (each_of (λ e. e.worker < o.workers) o.journal fits.workers))
    (subst (λ n. AllByRecursion (λ x. worker_of x < n) (map said_of p.journal)) (sym count) (workers_few p.workers p.journal (each_of (λ e. e.worker < p.workers) p.journal also.workers)))
    (sym (order_said o.journal) ∙ ap workers_in order ∙ order_said p.journal)
    (sym (commands_said o h fits) ∙ ap (map said_in) commands ∙ commands_said p k also ∙ ap (λ n. grouped worker_of 0 n (map said_of p.journal)) (sym count))
