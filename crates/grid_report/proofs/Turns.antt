-- Orders of scripts, one place more at a time, and the workers in turn.
use Rattle.std.proofs.Common.{◌≡◌, ℕ, zero, suc, ◌+◌, ◌<◌, ◌≤◌, ◌==◌, cond, Bool, List, [], ◌∷◌, ◌++◌, Option, None, Some, map, take, drop, get_or, length, refl, sym, ap, ◌∙◌, subst, take-append-drop, add-one, arith}
use Rattle.std.specs.Prelude.{slice_get, option_map, option_and_then}
use Rattle.std.specs.List.{All, cons_option, count_by}
use Rattle.std.proofs.lemmas.Bool.{eq-eqb, ne_eqb}
use Rattle.std.proofs.lemmas.Grind.{get_or_default_zero}
use Rattle.std.proofs.Math.Seq.{take-suc}
use Rattle.std.proofs.lemmas.List.{take_more, take_all}
use Rattle.std.proofs.lemmas.List.Sums.{sum_by-append, sum_by-cons, count_by_more_yes}
use Rattle.std.proofs.lemmas.Option.{slice_get-get_or, slice_get_within}
use Rattle.std.proofs.lemmas.List.Elements.{All-cons}
use Rattle.grid_requests.specs.declared.request.Request.{Request}
use Rattle.grid_core.specs.History.{Command, command}
use Rattle.grid_report.specs.Histories.{next_of, steps_of, history_of, told_order, script_of, in_turn, in_turn_from, IsOrder, OrdersMakeHistories, StepsTellOrder, InTurnIsOrder}
use Rattle.grid_report.proofs.ScriptOrders.{steps_longer, told_last, told_none, steps_none}

-- ---- places of an order

count_front : (p : ℕ → Bool) (xs : List ℕ) (i : ℕ) → count_by p (take i xs) ≤ count_by p xs
count_front p xs i =
    let both : count_by p xs ≡ count_by p (take i xs) + count_by p (drop i xs) = ap (count_by p) (sym (take-append-drop i xs)) ∙ sum_by-append (λ x. cond {A = ℕ} (p x) 1 0) (take i xs) (drop i xs) in
    omega (arith, both)

-- a worker's script has a command for each place of the worker
within : (order : List ℕ) (i worker : ℕ) → i < length order → worker ≡ get_or order i worker → count_by (λ w. w == worker) (take i order) < count_by (λ w. w == worker) order
within order i worker lt is =
    let more : count_by (λ w. w == worker) (take (i + 1) order) ≡ count_by (λ w. w == worker) (take i order) + 1 = count_by_more_yes (λ w. w == worker) order i worker lt (eq-eqb (get_or order i worker) worker (sym is)) in
    let front = count_front (λ w. w == worker) order (i + 1) in
    omega (arith, more, front)

next_within : (o : Option (List Request)) (worker k : ℕ) → k < length (script_of o) → (r : Request) × (option_map (command worker) (option_and_then (λ script. slice_get script k) o) ≡ Some (command worker r))
unfolding script_of
next_within None worker k lt =
    let no : ⊥ = omega (arith, lt) in
    absurd no
next_within (Some []) worker k lt =
    let no : ⊥ = omega (arith, lt) in
    absurd no
next_within (Some (r ∷ rest)) worker k lt = (get_or (r ∷ rest) k r, ap (option_map (command worker)) (slice_get-get_or (r ∷ rest) k r lt))

-- the command at a place of an order
pub has_next : (scripts : List (List Request)) (order : List ℕ) (i worker : ℕ) → IsOrder scripts order → i < length order → worker ≡ get_or order i worker → (r : Request) × (next_of scripts (take i order) worker ≡ Some (command worker r))
unfolding next_of
has_next scripts order i worker ordered lt is =
    let few = within order i worker lt is in
    let all = ordered worker in
    next_within (slice_get scripts worker) worker (count_by (λ w. w == worker) (take i order)) (omega (arith, few, all))

-- the steps up to a place, with one more
pub steps_taken : (scripts : List (List Request)) (order : List ℕ) (i worker : ℕ) → i < length order → worker ≡ get_or order i worker → steps_of scripts (take (i + 1) order) ≡ cons_option (next_of scripts (take i order) worker) (steps_of scripts (take i order))
steps_taken scripts order i worker lt is = ap (steps_of scripts) (take_more order i worker lt ∙ ap (λ w. take i order ++ w ∷ []) (sym is)) ∙ steps_longer scripts (take i order) worker

told_so_far : (scripts : List (List Request)) (order : List ℕ) → IsOrder scripts order → (i : ℕ) → i ≤ length order → told_order (steps_of scripts (take i order)) ≡ take i order
told_so_far scripts order ordered zero le = ap told_order (steps_none scripts) ∙ told_none
told_so_far scripts order ordered (suc i) le =
    let lt : i < length order = omega (arith, le) in
    let is : get_or order i 0 ≡ get_or order i (get_or order i 0) = sym (get_or_default_zero order i (get_or order i 0) lt) in
    let next = has_next scripts order i (get_or order i 0) ordered lt is in
    ap (λ n. told_order (steps_of scripts (take n order))) (sym (add-one i))
    ∙ ap told_order (steps_taken scripts order i (get_or order i 0) lt is ∙ ap (λ o. cons_option o (steps_of scripts (take i order))) next.1)
    ∙ told_last (command (get_or order i 0) next.0) (steps_of scripts (take i order))
    ∙ ap (λ l. l ++ get_or order i 0 ∷ []) (told_so_far scripts order ordered i (omega (arith, le)))
    ∙ sym (take-suc order i 0 lt)

pub order_told : StepsTellOrder
order_told scripts order ordered = ap (λ l. told_order (steps_of scripts l)) (sym (take_all (length order) order (omega arith))) ∙ told_so_far scripts order ordered (length order) (omega arith) ∙ take_all (length order) order (omega arith)

-- ---- the workers of steps

next_is_by : (o : Option Request) (worker n : ℕ) (step : Command) → worker < n → option_map (command worker) o ≡ Some step → step.worker < n
next_is_by None worker n step lt e = absurd cc
next_is_by (Some r) worker n step lt e =
    let same : command worker r ≡ step = cc in
    subst (λ (s : Command). s.worker < n) same lt

next_by : (scripts : List (List Request)) (before : List ℕ) (worker : ℕ) (step : Command) → next_of scripts before worker ≡ Some step → step.worker < length scripts
unfolding next_of
next_by scripts before worker step e = by_script (slice_get scripts worker) refl e
  where
    by_script : (o : Option (List Request)) → slice_get scripts worker ≡ o → option_map (command worker) (option_and_then (λ script. slice_get script (count_by (λ w. w == worker) before)) o) ≡ Some step → step.worker < length scripts
    by_script None is e = absurd cc
    by_script (Some script) is e = next_is_by (slice_get script (count_by (λ w. w == worker) before)) worker (length scripts) step (slice_get_within scripts worker script is) e

all_pushed : {X : Type 0} (P : X → Type 0) (o : Option X) (xs : List X) → ((x : X) → o ≡ Some x → P x) → All P xs → All P (cons_option o xs)
all_pushed P None xs h all = all
all_pushed P (Some x) xs h all = All-cons P x xs (h x refl) all

none_all : {X : Type 0} (P : X → Type 0) → All P []
none_all P k d lt =
    let no : ⊥ = omega (arith, lt) in
    absurd no

workers_so_far : (scripts : List (List Request)) (order : List ℕ) (i : ℕ) → i ≤ length order → All (λ (s : Command). s.worker < length scripts) (steps_of scripts (take i order))
workers_so_far scripts order zero le = subst (All (λ (s : Command). s.worker < length scripts)) (sym (steps_none scripts)) (none_all (λ (s : Command). s.worker < length scripts))
workers_so_far scripts order (suc i) le =
    let lt : i < length order = omega (arith, le) in
    let is : get_or order i 0 ≡ get_or order i (get_or order i 0) = sym (get_or_default_zero order i (get_or order i 0) lt) in
    let longer = sym (steps_taken scripts order i (get_or order i 0) lt is) ∙ ap (λ n. steps_of scripts (take n order)) (add-one i) in
    subst (All (λ (s : Command). s.worker < length scripts)) longer
    (all_pushed (λ (s : Command). s.worker < length scripts) (next_of scripts (take i order) (get_or order i 0)) (steps_of scripts (take i order)) (next_by scripts (take i order) (get_or order i 0)) (workers_so_far scripts order i (omega (arith, le))))

pub by_workers : OrdersMakeHistories
unfolding history_of
by_workers origin scripts order = subst (λ l. All (λ (s : Command). s.worker < length scripts) (steps_of scripts l)) (take_all (length order) order (omega arith)) (workers_so_far scripts order (length order) (omega arith))

-- ---- in turn

own_turn : (worker : ℕ) (script : List Request) → count_by (λ w. w == worker) (map (λ (r : Request). worker) script) ≡ length script
own_turn worker [] = refl
own_turn worker (r ∷ script) =
    let one : cond {A = ℕ} (worker == worker) 1 0 ≡ 1 = ap (λ (b : Bool). cond {A = ℕ} b 1 0) (eq-eqb worker worker refl) in
    let all : count_by (λ w. w == worker) (map (λ (x : Request). worker) (r ∷ script)) ≡ cond {A = ℕ} (worker == worker) 1 0 + count_by (λ w. w == worker) (map (λ (x : Request). worker) script) = sum_by-cons (λ w. cond {A = ℕ} (w == worker) 1 0) worker (map (λ (x : Request). worker) script) in
    omega (arith, one, all, own_turn worker script)

other_turn : (worker n : ℕ) (script : List Request) → (n ≡ worker → ⊥) → count_by (λ w. w == worker) (map (λ (r : Request). n) script) ≡ 0
other_turn worker n [] other = refl
other_turn worker n (r ∷ script) other =
    let none : cond {A = ℕ} (n == worker) 1 0 ≡ 0 = ap (λ (b : Bool). cond {A = ℕ} b 1 0) (ne_eqb n worker other) in
    let all : count_by (λ w. w == worker) (map (λ (x : Request). n) (r ∷ script)) ≡ cond {A = ℕ} (n == worker) 1 0 + count_by (λ w. w == worker) (map (λ (x : Request). n) script) = sum_by-cons (λ w. cond {A = ℕ} (w == worker) 1 0) n (map (λ (x : Request). n) script) in
    omega (arith, none, all, other_turn worker n script other)

-- how often a worker stands in the turns from a script on
turns : (worker n : ℕ) (script : List Request) (rest : List (List Request)) → count_by (λ w. w == worker) (in_turn_from n (script ∷ rest)) ≡ count_by (λ w. w == worker) (map (λ (r : Request). n) script) + count_by (λ w. w == worker) (in_turn_from (suc n) rest)
unfolding in_turn_from
turns worker n script rest = sum_by-append (λ w. cond {A = ℕ} (w == worker) 1 0) (map (λ (r : Request). n) script) (in_turn_from (suc n) rest)

no_turns : (worker n : ℕ) → count_by (λ w. w == worker) (in_turn_from n []) ≡ 0
unfolding in_turn_from
no_turns worker n = refl

turns_before : (worker n : ℕ) (scripts : List (List Request)) → worker < n → count_by (λ w. w == worker) (in_turn_from n scripts) ≡ 0
turns_before worker n [] lt = no_turns worker n
turns_before worker n (script ∷ rest) lt =
    let all = turns worker n script rest in
    let other = other_turn worker n script (λ e. omega (arith, lt, e)) in
    omega (arith, all, other, turns_before worker (suc n) rest (omega (arith, lt)))

script_first : (script : List Request) (rest : List (List Request)) → length script ≡ length (script_of (slice_get (script ∷ rest) 0))
unfolding script_of
script_first script rest = refl

no_script : (place : ℕ) → 0 ≡ length (script_of (slice_get {X = List Request} [] place))
unfolding script_of
no_script place = refl

turns_at : (n place worker : ℕ) (scripts : List (List Request)) → worker ≡ n + place → count_by (λ w. w == worker) (in_turn_from n scripts) ≡ length (script_of (slice_get scripts place))
turns_at n place worker [] e = no_turns worker n ∙ no_script place
turns_at n zero worker (script ∷ rest) e =
    let here : worker ≡ n = omega (arith, e) in
    let all = turns worker n script rest in
    let own : count_by (λ w. w == worker) (map (λ (r : Request). n) script) ≡ length script = ap (λ k. count_by (λ w. w == worker) (map (λ (r : Request). k) script)) (sym here) ∙ own_turn worker script in
    let later = turns_before worker (suc n) rest (omega (arith, here)) in
    omega (arith, all, own, later, script_first script rest)
turns_at n (suc place) worker (script ∷ rest) e =
    let all = turns worker n script rest in
    let other = other_turn worker n script (λ same. omega (arith, e, same)) in
    let later : count_by (λ w. w == worker) (in_turn_from (suc n) rest) ≡ length (script_of (slice_get rest place)) = turns_at (suc n) place worker rest (omega (arith, e)) in
    omega (arith, all, other, later)

pub turns_are_order : InTurnIsOrder
unfolding in_turn
turns_are_order scripts worker = turns_at 0 worker worker scripts (omega arith)
