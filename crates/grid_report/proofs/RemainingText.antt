-- The text that is still to come of a report, one block less at a time.
use Rattle.std.proofs.Common.{◌≡◌, ℕ, suc, ◌+◌, ◌-◌, ◌<◌, ◌≤◌, ◌==◌, cond, Some, List, [], ◌∷◌, ◌++◌, drop, get_or, length, sym, ap, ◌∙◌, length-append, append_assoc, drop-cons, arith, add-one}
use Rattle.std.specs.Prelude.{Option, None, IfSome, filter, codes}
use Rattle.std.specs.List.{flat_map, range_with_len}
use Rattle.std.proofs.lemmas.Bool.{eq-eqb, ne_eqb}
use Rattle.std.proofs.lemmas.List.{drop_all, nil_from_length}
use Rattle.std.proofs.lemmas.List.Elements.{filter-append}
use Rattle.grid_events.specs.declared.event.Event.{Event}
use Rattle.grid_events.specs.declared.filter.Filter.{Filter}
use Rattle.grid_events.specs.Filters.{matches}
use Rattle.grid_core.specs.declared.journal.Entry.{Entry}
use Rattle.grid_report.specs.declared.outcome.Outcome.{Outcome}
use Rattle.grid_report.specs.declared.plan.Block.{Block}
use Rattle.grid_report.specs.declared.plan.Block.TheVariants as blocks
use Rattle.grid_report.specs.Lines.{level_text}
use Rattle.grid_report.specs.Events.{event_text, event_line}
use Rattle.grid_report.specs.Outcomes.{numbered, order_line, worker_line, step_text, steps_by, variant_line, variant_text, listener_line, listener_text, report_of}
use Rattle.grid_report.specs.Blocks.{block_text}
use Rattle.grid_report.specs.Cursors.{lines_for, Gives, front_of, back_of}

drop_next : {X : Type 0} (xs : List X) (i : ℕ) (x : X) → i < length xs → x ≡ get_or xs i x → drop i xs ≡ x ∷ drop (i + 1) xs
drop_next xs i x lt is = drop-cons xs i x lt ∙ ap (λ w. w ∷ drop (suc i) xs) (sym is) ∙ ap (λ n. x ∷ drop n xs) (sym (add-one i))

-- ---- numbered items

module _ {X : Type 0} (text : ℕ → X → List ℕ) where
  pub items_next : (xs : List X) (i : ℕ) (x : X) → i < length xs → x ≡ get_or xs i x → numbered text i (drop i xs) ≡ text i x ++ numbered text (i + 1) (drop (i + 1) xs)
  unfolding numbered
  items_next xs i x lt is = ap (numbered text i) (drop_next xs i x lt is) ∙ ap (λ n. text i x ++ numbered text n (drop (i + 1) xs)) (sym (add-one i))

  pub none_left : (xs : List X) (n i : ℕ) → length xs ≤ i → numbered text n (drop i xs) ≡ []
  unfolding numbered
  none_left xs n i le = ap (numbered text n) (drop_all i xs le)

-- ---- steps of a worker

module _ (worker : ℕ) (journal : List Entry) (place : ℕ) (e : Entry) (lt : place < length journal) (is : e ≡ get_or journal place e) where
  rest_by : steps_by worker (drop place journal) ≡ cond (e.worker == worker) (e ∷ steps_by worker (drop (place + 1) journal)) (steps_by worker (drop (place + 1) journal))
  unfolding steps_by
  rest_by = ap (filter (λ (x : Entry). x.worker == worker)) (drop_next journal place e lt is)

  -- the step at the place is the worker's
  pub step_next : (number : ℕ) → e.worker ≡ worker → numbered step_text (number + 1) (steps_by worker (drop place journal)) ≡ step_text (number + 1) e ++ numbered step_text ((number + 1) + 1) (steps_by worker (drop (place + 1) journal))
  unfolding numbered
  step_next number own =
      ap (numbered step_text (number + 1)) (rest_by ∙ ap (λ b. cond b (e ∷ steps_by worker (drop (place + 1) journal)) (steps_by worker (drop (place + 1) journal))) (eq-eqb e.worker worker own))
      ∙ ap (λ n. step_text (number + 1) e ++ numbered step_text n (steps_by worker (drop (place + 1) journal))) (sym (add-one (number + 1)))

  -- it is another worker's
  pub step_passed : (number : ℕ) → (e.worker ≡ worker → ⊥) → numbered step_text (number + 1) (steps_by worker (drop place journal)) ≡ numbered step_text (number + 1) (steps_by worker (drop (place + 1) journal))
  step_passed number other =
      ap (numbered step_text (number + 1)) (rest_by ∙ ap (λ b. cond b (e ∷ steps_by worker (drop (place + 1) journal)) (steps_by worker (drop (place + 1) journal))) (ne_eqb e.worker worker other))

pub no_step : (worker number : ℕ) (journal : List Entry) (place : ℕ) → length journal ≤ place → numbered step_text number (steps_by worker (drop place journal)) ≡ []
unfolding numbered steps_by
no_step worker number journal place le = ap (λ l. numbered step_text number (steps_by worker l)) (drop_all place journal le)

-- ---- workers

-- the texts of the numbers from one on
pub range_next : (f : ℕ → List ℕ) (next end : ℕ) → next < end → flat_map f (range_with_len next (end - next)) ≡ f next ++ flat_map f (range_with_len (next + 1) (end - (next + 1)))
range_next f next end lt =
    let e : end - next ≡ suc (end - (next + 1)) = omega (arith, lt) in
    ap (λ n. flat_map f (range_with_len next n)) e

-- ---- what is heard

module _ (f : Filter) where
  -- an event is heard, behind others that are not
  pub heard_next : (events more rest : List Event) (event : Event) → filter (matches f) events ≡ event ∷ filter (matches f) more → lines_for (Some f) (events ++ rest) ≡ event_line event ++ lines_for (Some f) (more ++ rest)
  unfolding lines_for
  heard_next events more rest event found =
      ap (flat_map event_line) (filter-append (matches f) events rest ∙ ap (λ l. l ++ filter (matches f) rest) found ∙ ap (λ l. event ∷ l) (sym (filter-append (matches f) more rest)))

  -- none of these events is heard
  pub heard_on : (events rest : List Event) → filter (matches f) events ≡ [] → lines_for (Some f) (events ++ rest) ≡ lines_for (Some f) rest
  unfolding lines_for
  heard_on events rest none = ap (flat_map event_line) (filter-append (matches f) events rest ∙ ap (λ l. l ++ filter (matches f) rest) none)

  -- nor of any later step, where there is none
  pub heard_all : (events : List Event) (journal : List Entry) → filter (matches f) events ≡ [] → length journal ≡ 0 → lines_for (Some f) (events ++ flat_map (λ (e : Entry). e.events) journal) ≡ []
  unfolding lines_for
  heard_all events journal none over =
      heard_on events (flat_map (λ (e : Entry). e.events) journal) none ∙ ap (λ l. lines_for (Some f) (flat_map (λ (e : Entry). e.events) l)) (nil_from_length journal over)

  -- the next step's events come
  pub heard_step : (events : List Event) (journal rest : List Entry) (entry : Entry) → filter (matches f) events ≡ [] → journal ≡ entry ∷ rest → lines_for (Some f) (events ++ flat_map (λ (e : Entry). e.events) journal) ≡ lines_for (Some f) (entry.events ++ flat_map (λ (e : Entry). e.events) rest)
  heard_step events journal rest entry none is =
      heard_on events (flat_map (λ (e : Entry). e.events) journal) none ∙ ap (λ l. lines_for (Some f) (flat_map (λ (e : Entry). e.events) l)) is

-- ---- each block has text

within_some : (c : ℕ) (xs ys : List ℕ) → 0 < length (xs ++ c ∷ ys)
within_some c xs ys = let e = length-append xs (c ∷ ys) in omega (arith, e)

some_step : (number : ℕ) (e : Entry) → 0 < length (step_text number e)
unfolding step_text
some_step number e = simp length-append (omega arith)

pub some_text : (block : Block) → 0 < length (block_text block)
unfolding order_line worker_line variant_line level_text listener_line event_line
some_text (blocks.Order journal) = omega arith
some_text (blocks.Worker worker) = omega arith
some_text (blocks.Step number entry) = some_step number entry.now
some_text (blocks.Variant name) = omega arith
some_text (blocks.Level view) = omega arith
some_text (blocks.Listener number) = omega arith
some_text (blocks.Heard event) = within_some 10 (event_text event.now) []
some_text blocks.End = omega arith

-- a block less is still to come
pub less_left : (block : Block) (before after : List ℕ) → before ≡ block_text block ++ after → length after < length before
less_left block before after e =
    let long : length before ≡ length (block_text block) + length after = ap length e ∙ length-append (block_text block) after in
    omega (arith, some_text block, long)

pub less_given : (next : Option Block) (before after : List ℕ) → Gives before next after → IfSome next (λ _. length after < length before)
less_given None before after e = tt
less_given (Some block) before after e = less_left block before after e

-- ---- a report in three parts

pub three_parts : (o : Outcome) → report_of o ≡ front_of o ++ (flat_map variant_text o.views ++ back_of o)
unfolding report_of
three_parts o =
    let front = front_of o in
    let variants = flat_map variant_text o.views in
    let listeners = numbered (listener_text o.journal) 0 o.filters in
    append_assoc (front ++ variants) listeners (codes "end\n") ∙ append_assoc front variants (back_of o)
