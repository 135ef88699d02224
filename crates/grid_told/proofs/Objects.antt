-- The objects of an outcome are readable.
use Rattle.std.proofs.Common.{ℕ, suc, ◌+◌, ◌^◌, ◌<◌, ◌≤◌, ◌==◌, List, [], ◌∷◌, ◌++◌, length, take, filter, refl, arith}
use Rattle.std.specs.Prelude.{⊤, IsUtf8}
use Rattle.std.specs.List.{AllByRecursion, flat_map, range_with_len, count_by}
use Rattle.std.proofs.lemmas.List.Sums.{count_by-le-length}
use Rattle.std.proofs.lemmas.List.{length-take}
use Rattle.serde_json.specs.Data.{Data}
use Rattle.grid_busview.specs.declared.BusView.{BusView}
use Rattle.grid_events.specs.declared.event.Event.{Event}
use Rattle.grid_events.specs.declared.event.Event.TheVariants as events
use Rattle.grid_events.specs.declared.filter.Filter.{Filter}
use Rattle.grid_events.specs.Filters.{matches}
use Rattle.grid_core.specs.declared.journal.Entry.{Entry}
use Rattle.grid_report.specs.declared.outcome.VariantView.{VariantView}
use Rattle.grid_report.specs.declared.outcome.Outcome.{Outcome}
use Rattle.grid_print.specs.Objects.{array_of, natural}
use Rattle.grid_print.specs.Command.{request_value}
use Rattle.grid_print.proofs.Each.{each_of}
use Rattle.grid_jsonl.specs.Parts.{view_bus_value}
use Rattle.grid_jsonl.specs.Steps.{Step, step_at, steps_from, steps, step_fields, is_refused, refused_count}
use Rattle.grid_jsonl.specs.Outcomes.{order_object, command_object, steps_by, worker_objects, variant_object, level_object, variant_objects, event_fields, event_object, heard_objects, listener_objects, listeners_from, end_of, counts_of, end_object, objects}
use Rattle.grid_told.specs.Held.{IsUnsigned, IsBusView, IsEvent}
use Rattle.grid_told.specs.Outcomes.{IsEntry, IsVariantView, IsHeld}
use Rattle.grid_told.specs.Shapes.{IsReadable}
use Rattle.grid_told.proofs.Each.{each_append, each_map, each_flat, each_filter, all_of}
use Rattle.grid_told.proofs.Readable.{word_readable, text_readable, flag_readable, natural_readable, array_readable, ordered_readable, deeper}
use Rattle.grid_told.proofs.Commands.{request_readable}
use Rattle.grid_told.proofs.Replies.{buses_readable, reply_readable}

abbrev pub Readable : Data → Type 0
Readable d = IsReadable 6 d

-- ---- steps

pub record IsStep (s : Step) : Type 0 where
  pub place : IsUnsigned s.place
  pub number : IsUnsigned s.number
  pub entry : IsEntry s.entry

count_few : (worker place : ℕ) (journal : List Entry) → count_by (λ e. e.worker == worker) (take place journal) ≤ length journal
count_few worker place journal = omega (arith, count_by-le-length (λ (e : Entry). e.worker == worker) (take place journal), length-take place journal)

from_held : (journal : List Entry) → IsUnsigned (length journal) → (place : ℕ) (rest : List Entry) → place + length rest ≤ length journal → AllByRecursion IsEntry rest → AllByRecursion IsStep (steps_from journal place rest)
unfolding steps_from step_at
from_held journal few place [] within h = tt
from_held journal few place (e ∷ rest) within h = (
  record { place = omega (arith, few, within); number = omega (arith, few, count_few e.worker (suc place) journal); entry = h.0 },
  from_held journal few (suc place) rest (omega (arith, within)) h.1,
)

pub steps_held : (journal : List Entry) → IsUnsigned (length journal) → AllByRecursion IsEntry journal → AllByRecursion IsStep (steps journal)
unfolding steps
steps_held journal few h = from_held journal few 0 journal (omega arith) h

-- ---- lines

order_readable : (journal : List Entry) → AllByRecursion IsEntry journal → Readable (order_object journal)
unfolding order_object
order_readable journal h =
    deeper 2 6 _ (omega arith) (ordered_readable 1 _ refl (word_readable 1 _ refl, (array_readable IsEntry 0 (λ e. natural e.worker) (λ e k. natural_readable 0 e.worker k.worker) journal h, tt)))

command_readable : (s : Step) → IsStep s → Readable (command_object s)
unfolding command_object step_fields
command_readable s h = ordered_readable 5 _ refl (
  word_readable 5 _ refl,
  (
    natural_readable 5 s.place h.place,
    (
      natural_readable 5 s.entry.worker h.entry.worker,
      (
        natural_readable 5 s.number h.number,
        (
          text_readable 5 s.entry.variant h.entry.variant,
          (
            deeper 3 5 (request_value s.entry.request) (omega arith) (request_readable s.entry.request h.entry.request),
            (reply_readable s.entry.request s.entry.reply h.entry.request h.entry.reply, tt),
          ),
        ),
      ),
    ),
  ),
)

worker_readable : (all : List Step) → AllByRecursion IsStep all → (worker : ℕ) → AllByRecursion Readable (worker_objects all worker)
unfolding worker_objects steps_by
worker_readable all h worker = each_map IsStep Readable command_object command_readable (filter (λ s. s.entry.worker == worker) all) (each_filter IsStep (λ s. s.entry.worker == worker) all h)

name_readable : (name : List ℕ) → IsUtf8 name → Readable (variant_object name)
unfolding variant_object
name_readable name h = ordered_readable 5 _ refl (word_readable 5 _ refl, (text_readable 5 name h, tt))

level_readable : (name : List ℕ) → IsUtf8 name → (v : BusView) → IsBusView v → Readable (level_object name v)
unfolding level_object
level_readable name known v h = ordered_readable 5 _ refl (
  word_readable 5 _ refl,
  (text_readable 5 name known, (text_readable 5 v.level h.level, (deeper 4 5 (array_of (view_bus_value v.level) v.buses) (omega arith) (buses_readable v h), tt))),
)

variant_readable : (v : VariantView) → IsVariantView v → AllByRecursion Readable (variant_objects v)
unfolding variant_objects
variant_readable v h = (name_readable v.name h.name, each_map IsBusView Readable (level_object v.name) (level_readable v.name h.name) v.views (each_of IsBusView v.views h.views))

event_readable : (listener : ℕ) → IsUnsigned listener → (s : Step) → IsStep s → (event : Event) → IsEvent event → Readable (event_object listener s event)
unfolding event_object event_fields
event_readable listener small s h (events.Created id) k = ordered_readable 5 _ refl (
  word_readable 5 _ refl,
  (
    natural_readable 5 listener small,
    (natural_readable 5 s.place h.place, (natural_readable 5 s.entry.worker h.entry.worker, (natural_readable 5 s.number h.number, (word_readable 5 _ refl, (text_readable 5 id k, tt))))),
  ),
)
event_readable listener small s h (events.Removed id) k = ordered_readable 5 _ refl (
  word_readable 5 _ refl,
  (
    natural_readable 5 listener small,
    (natural_readable 5 s.place h.place, (natural_readable 5 s.entry.worker h.entry.worker, (natural_readable 5 s.number h.number, (word_readable 5 _ refl, (text_readable 5 id k, tt))))),
  ),
)
event_readable listener small s h (events.Updated variant switch opened) k = ordered_readable 5 _ refl (
  word_readable 5 _ refl,
  (
    natural_readable 5 listener small,
    (
      natural_readable 5 s.place h.place,
      (
        natural_readable 5 s.entry.worker h.entry.worker,
        (natural_readable 5 s.number h.number, (word_readable 5 _ refl, (text_readable 5 variant k.0, (text_readable 5 switch k.1, (flag_readable 5 opened, tt))))),
      ),
    ),
  ),
)
event_readable listener small s h (events.VariantCreated from to) k = ordered_readable 5 _ refl (
  word_readable 5 _ refl,
  (
    natural_readable 5 listener small,
    (
      natural_readable 5 s.place h.place,
      (natural_readable 5 s.entry.worker h.entry.worker, (natural_readable 5 s.number h.number, (word_readable 5 _ refl, (text_readable 5 from k.0, (text_readable 5 to k.1, tt))))),
    ),
  ),
)
event_readable listener small s h (events.VariantOverwritten from to) k = ordered_readable 5 _ refl (
  word_readable 5 _ refl,
  (
    natural_readable 5 listener small,
    (
      natural_readable 5 s.place h.place,
      (natural_readable 5 s.entry.worker h.entry.worker, (natural_readable 5 s.number h.number, (word_readable 5 _ refl, (text_readable 5 from k.0, (text_readable 5 to k.1, tt))))),
    ),
  ),
)
event_readable listener small s h (events.VariantRemoved name) k = ordered_readable 5 _ refl (
  word_readable 5 _ refl,
  (
    natural_readable 5 listener small,
    (natural_readable 5 s.place h.place, (natural_readable 5 s.entry.worker h.entry.worker, (natural_readable 5 s.number h.number, (word_readable 5 _ refl, (text_readable 5 name k, tt))))),
  ),
)

heard_readable : (listener : ℕ) → IsUnsigned listener → (wanted : Filter) (s : Step) → IsStep s → AllByRecursion Readable (heard_objects listener wanted s)
unfolding heard_objects
heard_readable listener small wanted s h =
    each_map IsEvent Readable (event_object listener s) (event_readable listener small s h) (filter (matches wanted) s.entry.events) (each_filter IsEvent (matches wanted) s.entry.events (each_of IsEvent s.entry.events h.entry.events))

listeners_readable : (all : List Step) → AllByRecursion IsStep all → (listener : ℕ) (filters : List Filter) → listener + length filters < 2 ^ 64 → AllByRecursion Readable (listeners_from all listener filters)
unfolding listeners_from listener_objects
listeners_readable all h listener [] few = tt
listeners_readable all h listener (wanted ∷ rest) few =
    each_append Readable (listener_objects all listener wanted) (listeners_from all (suc listener) rest)
    (each_flat IsStep Readable (heard_objects listener wanted) (heard_readable listener (omega (arith, few)) wanted) all h)
    (listeners_readable all h (suc listener) rest (omega (arith, few)))

end_readable : (o : Outcome) → IsHeld o → Readable (end_object o)
unfolding end_of counts_of refused_count
end_readable o h =
    let few = count_by-le-length (λ (e : Entry). is_refused e.reply) o.journal in
    ordered_readable 5 _ refl (
      word_readable 5 _ refl,
      (
        natural_readable 5 o.workers h.workers,
        (
          natural_readable 5 (length o.journal) h.commands,
          (
            natural_readable 5 (refused_count o.journal) (omega (arith, h.commands, few)),
            (natural_readable 5 (length o.views) h.variants, (natural_readable 5 (length o.filters) h.listeners, tt)),
          ),
        ),
      ),
    )

pub objects_readable : (o : Outcome) → IsHeld o → AllByRecursion Readable (objects o)
unfolding objects
objects_readable o h =
    let entries = each_of IsEntry o.journal h.entries in
    let all = steps_held o.journal h.commands entries in
    let commands = flat_map (worker_objects (steps o.journal)) (range_with_len 0 o.workers) in
    let variants = flat_map variant_objects o.views in
    let heard = listeners_from (steps o.journal) 0 o.filters in
    let some = each_flat (λ worker. ⊤) Readable (worker_objects (steps o.journal)) (λ worker k. worker_readable (steps o.journal) all worker) (range_with_len 0 o.workers) (all_of (λ worker. ⊤) (λ worker. tt) (range_with_len 0 o.workers)) in
    let more = each_flat IsVariantView Readable variant_objects variant_readable o.views (each_of IsVariantView o.views h.views) in
    let last = listeners_readable (steps o.journal) all 0 o.filters (omega (arith, h.listeners)) in (
      order_readable o.journal entries,
      each_append Readable (commands ++ variants ++ heard) (end_object o ∷ []) (each_append Readable (commands ++ variants) heard (each_append Readable commands variants some more) last) (end_readable o h, tt),
    )
