-- The lines that are still to come, one less at a time.
use Rattle.std.proofs.Common.{◌≡◌, ℕ, suc, ◌+◌, ◌-◌, ◌<◌, ◌≤◌, Option, Some, List, [], ◌∷◌, ◌++◌, map, refl, sym, ap, ◌∙◌, arith, add-one}
use Rattle.std.proofs.lemmas.List.{map-append}
use Rattle.std.specs.List.{flat_map, range_with_len}
use Rattle.serde_json.specs.Data.{Data}
use Rattle.grid_events.specs.declared.event.Event.{Event}
use Rattle.grid_events.specs.declared.filter.Filter.{Filter}
use Rattle.grid_print.specs.Job.{line_of}
use Rattle.grid_jsonl.specs.Steps.{Step}
use Rattle.grid_jsonl.specs.Outcomes.{command_object, steps_by, worker_objects, heard_objects, listener_objects, listeners_from}
use Rattle.grid_jsonl.specs.Lines.{texts, told_for, heard_for}

-- ---- numbers from one on

range_next : {A : Type 0} (f : ℕ → List A) (next end : ℕ) → next < end → flat_map f (range_with_len next (end - next)) ≡ f next ++ flat_map f (range_with_len (next + 1) (end - (next + 1)))
range_next f next end lt =
    let e : end - next ≡ suc (end - (next + 1)) = omega (arith, lt) in
    ap (λ n. flat_map f (range_with_len next n)) e

range_over : {A : Type 0} (f : ℕ → List A) (next end : ℕ) → end ≤ next → flat_map f (range_with_len next (end - next)) ≡ []
range_over f next end le =
    let e : end - next ≡ 0 = omega (arith, le) in
    ap (λ n. flat_map f (range_with_len next n)) e

-- ---- workers

abbrev pub workers_for : List Step → ℕ → List Step → ℕ → ℕ → List Data
workers_for rest worker all next workers = worker_objects rest worker ++ flat_map (worker_objects all) (range_with_len next (workers - next))

module _ (worker : ℕ) (before : List Step) where
  commands_none : steps_by worker before ≡ [] → worker_objects before worker ≡ []
  unfolding worker_objects
  commands_none none = ap (map command_object) none

  -- a step comes next
  pub command_next : (after all : List Step) (s : Step) (next workers : ℕ) → steps_by worker before ≡ s ∷ steps_by worker after → workers_for before worker all next workers ≡ command_object s ∷ workers_for after worker all next workers
  unfolding worker_objects
  command_next after all s next workers found = ap (λ l. map command_object l ++ flat_map (worker_objects all) (range_with_len next (workers - next))) found

  -- another worker comes next
  pub worker_next : (all : List Step) (next workers : ℕ) → steps_by worker before ≡ [] → next < workers → workers_for before worker all next workers ≡ workers_for all next all (next + 1) workers
  worker_next all next workers none lt = ap (λ l. l ++ flat_map (worker_objects all) (range_with_len next (workers - next))) (commands_none none) ∙ range_next (worker_objects all) next workers lt

  -- none does
  pub workers_over : (all : List Step) (next workers : ℕ) → steps_by worker before ≡ [] → workers ≤ next → workers_for before worker all next workers ≡ []
  workers_over all next workers none le = ap (λ l. l ++ flat_map (worker_objects all) (range_with_len next (workers - next))) (commands_none none) ∙ range_over (worker_objects all) next workers le

-- ---- what is heard

module _ (listener : ℕ) (wanted : Filter) (step : Option Step) (rest : List Step) where
  abbrev told : List Event → List (List ℕ)
  told events = texts (told_for listener wanted step events)

  abbrev heard : List Event → List (List ℕ)
  heard events = texts (heard_for listener (Some wanted) step events rest)

  abbrev later : List (List ℕ)
  later = texts (listener_objects rest listener wanted)

  parts : (events : List Event) → heard events ≡ told events ++ later
  unfolding heard_for
  parts events = map-append line_of (told_for listener wanted step events) (listener_objects rest listener wanted)

  -- an event is heard
  pub heard_next : (events more : List Event) (line : List ℕ) → told events ≡ line ∷ told more → heard events ≡ line ∷ heard more
  heard_next events more line e = parts events ∙ ap (λ l. l ++ later) e ∙ ap (λ l. line ∷ l) (sym (parts more))

  -- none of these events is heard
  pub heard_on : (events : List Event) → told events ≡ [] → heard events ≡ texts (listener_objects rest listener wanted)
  heard_on events none = parts events ∙ ap (λ l. l ++ later) none

  -- nor of any later step, where there is none
  pub heard_over : (events : List Event) → told events ≡ [] → rest ≡ [] → heard events ≡ []
  unfolding listener_objects
  heard_over events none over = heard_on events none ∙ ap (λ l. texts (listener_objects l listener wanted)) over

-- the next step's events come
pub heard_step : (listener : ℕ) (wanted : Filter) (s : Step) (rest : List Step) → heard_for listener (Some wanted) (Some s) s.entry.events rest ≡ listener_objects (s ∷ rest) listener wanted
unfolding heard_for told_for listener_objects heard_objects
heard_step listener wanted s rest = refl

-- ---- listeners

-- another listener comes next
pub listener_next : (all : List Step) (number : ℕ) (filters rest : List Filter) (wanted : Filter) (heard : List (List ℕ)) → filters ≡ wanted ∷ rest → heard ≡ texts (listener_objects all number wanted) → texts (listeners_from all number filters) ≡ heard ++ texts (listeners_from all (number + 1) rest)
unfolding listeners_from
listener_next all number filters rest wanted heard is hears =
    ap (λ l. texts (listeners_from all number l)) is
    ∙ map-append line_of (listener_objects all number wanted) (listeners_from all (suc number) rest)
    ∙ ap (λ n. texts (listener_objects all number wanted) ++ texts (listeners_from all n rest)) (sym (add-one number))
    ∙ ap (λ l. l ++ texts (listeners_from all (number + 1) rest)) (sym hears)

-- none does
pub listeners_over : (all : List Step) (number : ℕ) (filters : List Filter) → filters ≡ [] → texts (listeners_from all number filters) ≡ []
unfolding listeners_from
listeners_over all number filters none = ap (λ l. texts (listeners_from all number l)) none

-- ---- all lines

-- the lines, one after the other
pub texts_joined : (objects : List Data) → flat_map (λ line. line) (texts objects) ≡ flat_map line_of objects
texts_joined [] = refl
texts_joined (d ∷ objects) = ap (λ l. line_of d ++ l) (texts_joined objects)
