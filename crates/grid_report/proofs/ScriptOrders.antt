-- Steps of scripts in an order, one more at a time.
use Rattle.std.proofs.Common.{◌≡◌, ℕ, zero, suc, ◌+◌, ◌<◌, ◌≤◌, ◌==◌, cond, Bool, true, false, List, [], ◌∷◌, ◌++◌, Option, None, Some, map, take, length, refl, sym, ap, ◌∙◌, append_assoc, append-nil, length-append, arith}
use Rattle.std.specs.Prelude.{reverse, filter, slice_get, option_map, option_and_then}
use Rattle.std.specs.List.{filter_map, cons_option, count_by, range_with_len}
use Rattle.std.proofs.lemmas.Bool.{eq-eqb}
use Rattle.std.proofs.lemmas.List.{reverse-append, length-reverse, take-append-le}
use Rattle.std.proofs.Math.Seq.{take-append_seam}
use Rattle.std.proofs.lemmas.List.Elements.{filter_map-append}
use Rattle.std.proofs.lemmas.List.Sums.{sum_by-append}
use Rattle.grid_lemmas.proofs.Lists.{get_front}
use Rattle.grid_lemmas.proofs.Ranges.{range_last}
use Rattle.grid_requests.specs.declared.request.Request.{Request}
use Rattle.grid_core.specs.History.{Command, command, asked_by}
use Rattle.grid_report.specs.Histories.{next_of, step_at, steps_of, told_order, script_of, OrderTellsSteps}

-- ---- lists

pub last_first : {X : Type 0} (x : X) (xs : List X) → reverse (x ∷ xs) ≡ reverse xs ++ x ∷ []
last_first x xs = reverse-append (x ∷ []) xs

get_seam : {X : Type 0} (xs : List X) (y : X) (ys : List X) → slice_get (xs ++ y ∷ ys) (length xs) ≡ Some y
get_seam [] y ys = refl
get_seam (x ∷ xs) y ys = get_seam xs y ys

reverse_push : {X : Type 0} (xs : List X) (o : Option X) → reverse (xs ++ cons_option o []) ≡ cons_option o (reverse xs)
reverse_push xs None = ap reverse (append-nil xs)
reverse_push xs (Some x) = reverse-append xs (x ∷ [])

-- ---- an order with one more

module _ (scripts : List (List Request)) (order : List ℕ) (worker : ℕ) where
  same_step : (place : ℕ) → place < length order → step_at scripts (order ++ worker ∷ []) place ≡ step_at scripts order place
  unfolding step_at
  same_step place lt =
      let le : place ≤ length order = omega arith in
      ap (λ l. option_and_then (next_of scripts l) (slice_get (order ++ worker ∷ []) place)) (take-append-le place order (worker ∷ []) le)
      ∙ ap (option_and_then (next_of scripts (take place order))) (get_front order (worker ∷ []) place lt)

  last_step : step_at scripts (order ++ worker ∷ []) (length order) ≡ next_of scripts order worker
  unfolding step_at
  last_step =
      ap (λ l. option_and_then (next_of scripts l) (slice_get (order ++ worker ∷ []) (length order))) (take-append_seam order (worker ∷ []))
      ∙ ap (option_and_then (next_of scripts order)) (get_seam order worker [])

  same_steps : (a n : ℕ) → a + n ≤ length order → filter_map (step_at scripts (order ++ worker ∷ [])) (range_with_len a n) ≡ filter_map (step_at scripts order) (range_with_len a n)
  same_steps a zero le = refl
  same_steps a (suc n) le =
      ap (λ o. cons_option o (filter_map (step_at scripts (order ++ worker ∷ [])) (range_with_len (a + 1) n))) (same_step a (omega arith))
      ∙ ap (cons_option (step_at scripts order a)) (same_steps (a + 1) n (omega arith))

  -- the worker's next command comes last, where it has one
  pub steps_longer : steps_of scripts (order ++ worker ∷ []) ≡ cons_option (next_of scripts order worker) (steps_of scripts order)
  unfolding steps_of
  steps_longer =
      let long : length (order ++ worker ∷ []) ≡ suc (length order) = omega (arith, length-append order (worker ∷ [])) in
      let here : 0 + length order ≡ length order = omega arith in
      let steps = step_at scripts (order ++ worker ∷ []) in
      ap (λ n. reverse (filter_map steps (range_with_len 0 n))) long
      ∙ ap (λ l. reverse (filter_map steps l)) (range_last 0 (length order))
      ∙ ap reverse (filter_map-append steps (range_with_len 0 (length order)) ((0 + length order) ∷ []))
      ∙ ap (λ n. reverse (filter_map steps (range_with_len 0 (length order)) ++ cons_option (steps n) [])) here
      ∙ ap (λ l. reverse (l ++ cons_option (steps (length order)) [])) (same_steps 0 (length order) (omega arith))
      ∙ ap (λ o. reverse (filter_map (step_at scripts order) (range_with_len 0 (length order)) ++ cons_option o [])) last_step
      ∙ reverse_push (filter_map (step_at scripts order) (range_with_len 0 (length order))) (next_of scripts order worker)

-- ---- what was asked

pub told_last : (step : Command) (before : List Command) → told_order (step ∷ before) ≡ told_order before ++ step.worker ∷ []
unfolding told_order
told_last step before = last_first step.worker (map (λ (s : Command). s.worker) before)

pub asked_own : (worker : ℕ) (step : Command) (before : List Command) → (step.worker == worker) ≡ true → asked_by worker (step ∷ before) ≡ step.request ∷ asked_by worker before
unfolding asked_by
asked_own worker step before own =
    let rest = filter (λ (s : Command). s.worker == worker) before in
    ap (λ b. map (λ (s : Command). s.request) (cond b (step ∷ rest) rest)) own

pub asked_other : (worker : ℕ) (step : Command) (before : List Command) → (step.worker == worker) ≡ false → asked_by worker (step ∷ before) ≡ asked_by worker before
unfolding asked_by
asked_other worker step before other =
    let rest = filter (λ (s : Command). s.worker == worker) before in
    ap (λ b. map (λ (s : Command). s.request) (cond b (step ∷ rest) rest)) other

asked_none : (worker : ℕ) → 0 ≡ length (asked_by worker [])
unfolding asked_by
asked_none worker = refl

pub told_none : told_order [] ≡ []
unfolding told_order
told_none = refl

counted_own : (worker c all : ℕ) (step : Command) (before : List Command) → (step.worker == worker) ≡ true → c ≡ length (asked_by worker before) → all ≡ c + (0 + cond {A = ℕ} (step.worker == worker) 1 0) → all ≡ length (asked_by worker (step ∷ before))
counted_own worker c all step before own h e =
    let one : cond {A = ℕ} (step.worker == worker) 1 0 ≡ 1 = ap (λ (b : Bool). cond {A = ℕ} b 1 0) own in
    let long : length (asked_by worker (step ∷ before)) ≡ suc (length (asked_by worker before)) = ap length (asked_own worker step before own) in
    omega (arith, one, long, h, e)

counted_other : (worker c all : ℕ) (step : Command) (before : List Command) → (step.worker == worker) ≡ false → c ≡ length (asked_by worker before) → all ≡ c + (0 + cond {A = ℕ} (step.worker == worker) 1 0) → all ≡ length (asked_by worker (step ∷ before))
counted_other worker c all step before other h e =
    let none : cond {A = ℕ} (step.worker == worker) 1 0 ≡ 0 = ap (λ (b : Bool). cond {A = ℕ} b 1 0) other in
    let long : length (asked_by worker (step ∷ before)) ≡ length (asked_by worker before) = ap length (asked_other worker step before other) in
    omega (arith, none, long, h, e)

counted_by : (worker c all : ℕ) (step : Command) (before : List Command) (b : Bool) → (step.worker == worker) ≡ b → c ≡ length (asked_by worker before) → all ≡ c + (0 + cond {A = ℕ} (step.worker == worker) 1 0) → all ≡ length (asked_by worker (step ∷ before))
counted_by worker c all step before true own h e = counted_own worker c all step before own h e
counted_by worker c all step before false other h e = counted_other worker c all step before other h e

-- how often a worker stands in the order of some steps
pub counted : (worker : ℕ) (steps : List Command) → count_by (λ w. w == worker) (told_order steps) ≡ length (asked_by worker steps)
counted worker [] = ap (count_by (λ w. w == worker)) told_none ∙ asked_none worker
counted worker (step ∷ before) =
    counted_by worker (count_by (λ w. w == worker) (told_order before)) (count_by (λ w. w == worker) (told_order (step ∷ before))) step before (step.worker == worker) refl (counted worker before)
    (ap (count_by (λ w. w == worker)) (told_last step before) ∙ sum_by-append (λ w. cond (w == worker) 1 0) (told_order before) (step.worker ∷ []))

-- ---- steps by their order

-- each worker asked a front of its script
abbrev Fronts : List (List Request) → List Command → Type 0
Fronts scripts steps = (worker : ℕ) → (more : List Request) × (script_of (slice_get scripts worker) ≡ reverse (asked_by worker steps) ++ more)

own_front : (script : List Request) (worker : ℕ) (step : Command) (before : List Command) (more : List Request) → (step.worker == worker) ≡ true → script ≡ reverse (asked_by worker (step ∷ before)) ++ more → script ≡ reverse (asked_by worker before) ++ step.request ∷ more
own_front script worker step before more own e =
    e
    ∙ ap (λ l. reverse l ++ more) (asked_own worker step before own)
    ∙ ap (λ l. l ++ more) (last_first step.request (asked_by worker before))
    ∙ append_assoc (reverse (asked_by worker before)) (step.request ∷ []) more

front_by : (script : List Request) (worker : ℕ) (step : Command) (before : List Command) (more : List Request) (b : Bool) → (step.worker == worker) ≡ b → script ≡ reverse (asked_by worker (step ∷ before)) ++ more → (rest : List Request) × (script ≡ reverse (asked_by worker before) ++ rest)
front_by script worker step before more true own e = (step.request ∷ more, own_front script worker step before more own e)
front_by script worker step before more false other e = (more, e ∙ ap (λ l. reverse l ++ more) (asked_other worker step before other))

next_in : (o : Option (List Request)) (front more : List Request) (r : Request) (n : ℕ) → script_of o ≡ front ++ r ∷ more → n ≡ length front → option_and_then (λ script. slice_get script n) o ≡ Some r
unfolding script_of
next_in None front more r n e c =
    let long : 0 ≡ length front + suc (length more) = ap length e ∙ length-append front (r ∷ more) in
    let no : ⊥ = omega (arith, long) in
    absurd no
next_in (Some script) front more r n e c = ap (λ s. slice_get s n) e ∙ ap (slice_get (front ++ r ∷ more)) c ∙ get_seam front r more

own_next : (scripts : List (List Request)) (step : Command) (before : List Command) (more : List Request) → script_of (slice_get scripts step.worker) ≡ reverse (asked_by step.worker (step ∷ before)) ++ more → next_of scripts (told_order before) step.worker ≡ Some step
unfolding next_of
own_next scripts step before more e =
    let asked = asked_by step.worker before in
    let count : count_by (λ w. w == step.worker) (told_order before) ≡ length (reverse asked) = counted step.worker before ∙ sym (length-reverse asked) in
    ap (option_map (command step.worker))
    (next_in (slice_get scripts step.worker) (reverse asked) more step.request (count_by (λ w. w == step.worker) (told_order before))
    (own_front (script_of (slice_get scripts step.worker)) step.worker step before more (eq-eqb step.worker step.worker refl) e) count)

pub steps_none : (scripts : List (List Request)) → steps_of scripts [] ≡ []
unfolding steps_of
steps_none scripts = refl

steps_in_front : (scripts : List (List Request)) (steps : List Command) → Fronts scripts steps → steps_of scripts (told_order steps) ≡ steps
steps_in_front scripts [] h = ap (steps_of scripts) told_none ∙ steps_none scripts
steps_in_front scripts (step ∷ before) h =
    let own = h step.worker in
    ap (steps_of scripts) (told_last step before)
    ∙ steps_longer scripts (told_order before) step.worker
    ∙ ap (λ o. cons_option o (steps_of scripts (told_order before))) (own_next scripts step before own.0 own.1)
    ∙ ap (λ l. step ∷ l) (steps_in_front scripts before (λ worker. front_by (script_of (slice_get scripts worker)) worker step before (h worker).0 (step.worker == worker) refl (h worker).1))

pub steps_told : OrderTellsSteps
steps_told scripts steps asks = steps_in_front scripts steps (λ worker. ([], sym (asks worker) ∙ sym (append-nil (reverse (asked_by worker steps)))))
