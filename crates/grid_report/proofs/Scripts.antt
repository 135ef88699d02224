-- The commands of each worker in a report.
use Rattle.std.proofs.Common.{◌≡◌, ℕ, zero, suc, ◌+◌, ◌<◌, ◌≤◌, ◌==◌, cond, Bool, true, false, List, [], ◌∷◌, ◌++◌, Option, None, Some, map, take, get_or, length, refl, sym, ap, ◌∙◌, append-nil, add-one, arith}
use Rattle.std.specs.Prelude.{reverse, filter, slice_get, option_map, option_and_then}
use Rattle.std.specs.List.{cons_option, count_by}
use Rattle.std.proofs.lemmas.Bool.{eqb-true}
use Rattle.std.proofs.lemmas.Grind.{get_or_default_zero}
use Rattle.std.proofs.lemmas.List.{map-append, take_more, take_all}
use Rattle.std.proofs.lemmas.List.Elements.{filter-append}
use Rattle.std.proofs.lemmas.List.Sums.{count_by_more_yes, count_by_more_no}
use Rattle.std.proofs.lemmas.Option.{slice_get_within, get_or_from_slice_get}
use Rattle.grid_structure.specs.Network.{Network}
use Rattle.grid_requests.specs.declared.request.Request.{Request}
use Rattle.grid_core.specs.declared.journal.Entry.{Entry}
use Rattle.grid_core.specs.History.{Command, command, asked_by}
use Rattle.grid_core.specs.Journals.{journal_of, entry_of}
use Rattle.grid_report.specs.Outcomes.{steps_by}
use Rattle.grid_report.specs.Histories.{next_of, steps_of, script_of, IsOrder, ReportShowsScripts}
use Rattle.grid_report.proofs.ScriptOrders.{last_first, asked_own, asked_other, steps_none}
use Rattle.grid_report.proofs.Turns.{has_next, steps_taken}

-- ---- requests of a journal

shown : ℕ → List Entry → List Request
shown worker journal = map (λ (e : Entry). e.request) (steps_by worker journal)

shown_last : (worker : ℕ) (journal : List Entry) (e : Entry) (b : Bool) → (e.worker == worker) ≡ b → shown worker (journal ++ e ∷ []) ≡ shown worker journal ++ cond b (e.request ∷ []) []
unfolding shown steps_by
shown_last worker journal e b is =
    let front = filter (λ (x : Entry). x.worker == worker) journal in
    ap (map (λ (x : Entry). x.request)) (filter-append (λ (x : Entry). x.worker == worker) journal (e ∷ []) ∙ ap (λ c. front ++ cond c (e ∷ []) []) is)
    ∙ map-append (λ (x : Entry). x.request) front (cond b (e ∷ []) [])
    ∙ ap (λ l. map (λ (x : Entry). x.request) front ++ l) (one b)
  where
    one : (c : Bool) → map (λ (x : Entry). x.request) (cond c (e ∷ []) []) ≡ cond c (e.request ∷ []) []
    one true = refl
    one false = refl

asked_last : (worker : ℕ) (step : Command) (before : List Command) (b : Bool) → (step.worker == worker) ≡ b → reverse (asked_by worker (step ∷ before)) ≡ reverse (asked_by worker before) ++ cond b (step.request ∷ []) []
asked_last worker step before true is = ap reverse (asked_own worker step before is) ∙ last_first step.request (asked_by worker before)
asked_last worker step before false is = ap reverse (asked_other worker step before is) ∙ sym (append-nil (reverse (asked_by worker before)))

shown_none : (origin : Network) (worker : ℕ) → shown worker (journal_of origin []) ≡ reverse (asked_by worker [])
unfolding shown steps_by journal_of asked_by
shown_none origin worker = refl

requests_shown : (origin : Network) (worker : ℕ) (steps : List Command) → shown worker (journal_of origin steps) ≡ reverse (asked_by worker steps)
unfolding journal_of entry_of
requests_shown origin worker [] = shown_none origin worker
requests_shown origin worker (step ∷ before) =
    shown_last worker (journal_of origin before) (entry_of origin before step) (step.worker == worker) refl
    ∙ ap (λ l. l ++ cond (step.worker == worker) (step.request ∷ []) []) (requests_shown origin worker before)
    ∙ sym (asked_last worker step before (step.worker == worker) refl)

-- ---- requests of an order

next_read : (o : Option (List Request)) (worker k : ℕ) (r : Request) → option_map (command worker) (option_and_then (λ script. slice_get script k) o) ≡ Some (command worker r) → slice_get (script_of o) k ≡ Some r
unfolding script_of
next_read None worker k r e = absurd cc
next_read (Some script) worker k r e = read (slice_get script k) e
  where
    read : (p : Option Request) → option_map (command worker) p ≡ Some (command worker r) → p ≡ Some r
    read None e = absurd cc
    read (Some q) e =
        let same : command worker q ≡ command worker r = cc in
        ap (λ (c : Command). Some c.request) same

-- the command at a place stands next in its worker's script
read_next : (scripts : List (List Request)) (before : List ℕ) (worker : ℕ) (r : Request) → next_of scripts before worker ≡ Some (command worker r) → slice_get (script_of (slice_get scripts worker)) (count_by (λ w. w == worker) before) ≡ Some r
unfolding next_of
read_next scripts before worker r e = next_read (slice_get scripts worker) worker (count_by (λ w. w == worker) before) r e

take_read : (script : List Request) (k : ℕ) (r : Request) → slice_get script k ≡ Some r → take (k + 1) script ≡ take k script ++ r ∷ []
take_read script k r e = take_more script k r (slice_get_within script k r e) ∙ ap (λ x. take k script ++ x ∷ []) (get_or_from_slice_get script k r r e)

-- what a worker asked, with the command at one more place
asked_more : (scripts : List (List Request)) (order : List ℕ) (i worker at : ℕ) (r : Request) (b : Bool) → i < length order → at ≡ get_or order i at → next_of scripts (take i order) at ≡ Some (command at r) → (at == worker) ≡ b
    → reverse (asked_by worker (steps_of scripts (take i order))) ≡ take (count_by (λ w. w == worker) (take i order)) (script_of (slice_get scripts worker))
    → reverse (asked_by worker (command at r ∷ steps_of scripts (take i order))) ≡ take (count_by (λ w. w == worker) (take (i + 1) order)) (script_of (slice_get scripts worker))
asked_more scripts order i worker at r true lt is next own h =
    let script = script_of (slice_get scripts worker) in
    let same : at ≡ worker = eqb-true at worker own in
    let read : slice_get script (count_by (λ w. w == worker) (take i order)) ≡ Some r = ap (λ v. slice_get (script_of (slice_get scripts v)) (count_by (λ w. w == v) (take i order))) (sym same) ∙ read_next scripts (take i order) at r next in
    let more : count_by (λ w. w == worker) (take (i + 1) order) ≡ count_by (λ w. w == worker) (take i order) + 1 = count_by_more_yes (λ w. w == worker) order i at lt (ap (λ v. v == worker) (sym is) ∙ own) in
    asked_last worker (command at r) (steps_of scripts (take i order)) true own
    ∙ ap (λ l. l ++ r ∷ []) h
    ∙ sym (take_read script (count_by (λ w. w == worker) (take i order)) r read)
    ∙ ap (λ n. take n script) (sym more)
asked_more scripts order i worker at r false lt is next other h =
    let script = script_of (slice_get scripts worker) in
    let more : count_by (λ w. w == worker) (take (i + 1) order) ≡ count_by (λ w. w == worker) (take i order) = count_by_more_no (λ w. w == worker) order i at lt (ap (λ v. v == worker) (sym is) ∙ other) in
    asked_last worker (command at r) (steps_of scripts (take i order)) false other
    ∙ append-nil (reverse (asked_by worker (steps_of scripts (take i order))))
    ∙ h
    ∙ ap (λ n. take n script) (sym more)

nothing_asked : (worker : ℕ) (script : List Request) → reverse (asked_by worker []) ≡ take (count_by (λ w. w == worker) []) script
unfolding asked_by
nothing_asked worker script = refl

asked_so_far : (scripts : List (List Request)) (order : List ℕ) → IsOrder scripts order → (worker i : ℕ) → i ≤ length order → reverse (asked_by worker (steps_of scripts (take i order))) ≡ take (count_by (λ w. w == worker) (take i order)) (script_of (slice_get scripts worker))
asked_so_far scripts order ordered worker zero le = ap (λ l. reverse (asked_by worker l)) (steps_none scripts) ∙ nothing_asked worker (script_of (slice_get scripts worker))
asked_so_far scripts order ordered worker (suc i) le =
    let lt : i < length order = omega (arith, le) in
    let at = get_or order i 0 in
    let is : get_or order i 0 ≡ get_or order i (get_or order i 0) = sym (get_or_default_zero order i (get_or order i 0) lt) in
    let next = has_next scripts order i (get_or order i 0) ordered lt is in
    ap (λ n. reverse (asked_by worker (steps_of scripts (take n order)))) (sym (add-one i))
    ∙ ap (λ l. reverse (asked_by worker l)) (steps_taken scripts order i (get_or order i 0) lt is ∙ ap (λ o. cons_option o (steps_of scripts (take i order))) next.1)
    ∙ asked_more scripts order i worker (get_or order i 0) next.0 (get_or order i 0 == worker) lt is next.1 refl (asked_so_far scripts order ordered worker i (omega (arith, le)))
    ∙ ap (λ n. take (count_by (λ w. w == worker) (take n order)) (script_of (slice_get scripts worker))) (add-one i)

scripts_asked : (scripts : List (List Request)) (order : List ℕ) → IsOrder scripts order → (worker : ℕ) → reverse (asked_by worker (steps_of scripts order)) ≡ script_of (slice_get scripts worker)
scripts_asked scripts order ordered worker =
    let script = script_of (slice_get scripts worker) in
    let whole : take (length order) order ≡ order = take_all (length order) order (omega arith) in
    ap (λ l. reverse (asked_by worker (steps_of scripts l))) (sym whole)
    ∙ asked_so_far scripts order ordered worker (length order) (omega arith)
    ∙ ap (λ l. take (count_by (λ w. w == worker) l) script) whole
    ∙ ap (λ n. take n script) (ordered worker)
    ∙ take_all (length script) script (omega arith)

pub scripts_shown : ReportShowsScripts
unfolding shown
scripts_shown origin scripts order ordered worker = requests_shown origin worker (steps_of scripts order) ∙ scripts_asked scripts order ordered worker
