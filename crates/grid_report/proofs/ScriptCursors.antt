-- Scripts whose commands are made one by one, in an order: what was made, and where each script stands.
use Rattle.std.proofs.Common.{◌≡◌, refl, sym, ap, ◌∙◌, subst, inl, inr, ℕ, ◌+◌, ◌<◌, ◌≤◌, Bool, true, false, cond, List, [], ◌∷◌, length, get_or, set, replicate, arith, Option, Some, None}
use Rattle.std.specs.Prelude.{◌==◌, slice_get, unwrap_or, count_by, reverse, take}
use Rattle.std.specs.List.{filter_map, range_with_len}
use Rattle.std.proofs.lemmas.Bool.{true≢false, cases_lt, eqb-true, eq-eqb}
use Rattle.std.proofs.lemmas.List.{reverse-append, get_or-replicate, length-replicate, get_or_past, get_or_default, get_or-set_same, get_or-set_other, length-set, length-take}
use Rattle.std.proofs.lemmas.List.Sums.{sum_by_more_le, count_by-le-length, count_by_more_yes, count_by_more_no}
use Rattle.std.proofs.lemmas.Option.{slice_get-get_or, unwrap_or-slice_get}
use Rattle.grid_requests.specs.declared.request.Request.{Request}
use Rattle.grid_lemmas.proofs.Ranges.{given_more}
use Rattle.grid_core.specs.History.{Command, command}
use Rattle.grid_report.specs.Histories.{next_of, step_at, script_of, IsOrder}

-- Scripts whose commands are made one by one, in an order: what was made, and where each script stands.
abbrev pub made : List (List Request) → List ℕ → ℕ → List Command
made scripts order k = reverse (filter_map (step_at scripts order) (range_with_len 0 k))

pub made_more : (scripts : List (List Request)) (order : List ℕ) (k : ℕ) (step : Command) → step_at scripts order k ≡ Some step
    → made scripts order (k + 1) ≡ step ∷ made scripts order k
made_more scripts order k step is = ap reverse (given_more (step_at scripts order) k step is) ∙ reverse-append (filter_map (step_at scripts order) (range_with_len 0 k)) (step ∷ [])

-- a worker's script, or none
or_none : (found : Option (List Request)) → script_of found ≡ unwrap_or found []
unfolding script_of
or_none None = refl
or_none (Some script) = refl

pub script_at : (scripts : List (List Request)) (worker : ℕ) → script_of (slice_get scripts worker) ≡ get_or scripts worker []
script_at scripts worker = or_none (slice_get scripts worker) ∙ unwrap_or-slice_get scripts worker []

-- how often a worker stands among the first so many of an order
abbrev pub stood : List ℕ → ℕ → ℕ → ℕ
stood order k worker = count_by (λ w. w == worker) (take k order)

-- each worker's cursor tells how many of its commands were made
pub record Cursors (scripts : List (List Request)) (order : List ℕ) (k : ℕ) (cursors : List ℕ) : Type 0 where
  pub many : length cursors ≡ length scripts
  pub each : (worker : ℕ) → worker < length scripts → get_or cursors worker 0 ≡ stood order k worker

pub at_start : (scripts : List (List Request)) (order : List ℕ) (cursors : List ℕ) → cursors ≡ replicate (length scripts) 0 → Cursors scripts order 0 cursors
at_start scripts order cursors is = record {
  many = ap length is ∙ length-replicate {A = ℕ} (length scripts) 0;
  each = λ worker below. ap (λ cs. get_or cs worker 0) is ∙ get_or-replicate {A = ℕ} (length scripts) worker 0 0 below;
}

-- no cursor is beyond the steps made
pub behind : (order : List ℕ) (k worker : ℕ) → stood order k worker ≤ k
behind order k worker = omega (arith, count_by-le-length (λ w. w == worker) (take k order), length-take k order)

module _ (scripts : List (List Request)) (order : List ℕ) (k : ℕ) (lt : k < length order) where
  named : (get_or order k 0 == get_or order k 0) ≡ true
  named = eq-eqb (get_or order k 0) (get_or order k 0) refl

  -- a worker that an order still names has a command left
  has_left : IsOrder scripts order → stood order k (get_or order k 0) < length (get_or scripts (get_or order k 0) [])
  has_left ordered =
      let within = sum_by_more_le (λ w. cond (w == get_or order k 0) 1 0) order k 0 lt in
      let one : ◌≡◌ {A = ℕ} (cond (get_or order k 0 == get_or order k 0) 1 0) 1 = rw named refl in
      omega (arith, within, one, ordered (get_or order k 0), ap length (script_at scripts (get_or order k 0)))

  pub known : IsOrder scripts order → get_or order k 0 < length scripts
  known ordered = elim (cases_lt (get_or order k 0) (length scripts)) [
    | inl h ↦ h
    | inr h ↦ absurd (omega (arith, has_left ordered, ap length (get_or_past scripts (get_or order k 0) [] h)))
  ]

  script_is : (script : List Request) → get_or order k 0 < length scripts → script ≡ get_or scripts (get_or order k 0) script → script ≡ get_or scripts (get_or order k 0) []
  script_is script below is = is ∙ get_or_default scripts (get_or order k 0) script [] below

  pub cursor_is : (cursors : List ℕ) (cursor : ℕ) → IsOrder scripts order → Cursors scripts order k cursors → cursor ≡ get_or cursors (get_or order k 0) cursor → cursor ≡ stood order k (get_or order k 0)
  cursor_is cursors cursor ordered c is =
      let below = known ordered in
      is ∙ get_or_default cursors (get_or order k 0) cursor 0 (rw c.many below) ∙ c.each (get_or order k 0) below

  pub left : (script : List Request) (cursor : ℕ) → IsOrder scripts order → script ≡ get_or scripts (get_or order k 0) script → cursor ≡ stood order k (get_or order k 0) → cursor < length script
  left script cursor ordered is at = omega (arith, has_left ordered, at, ap length (script_is script (known ordered) is))

  pub found : (script : List Request) (cursor : ℕ) (request : Request) → IsOrder scripts order → script ≡ get_or scripts (get_or order k 0) script → cursor ≡ stood order k (get_or order k 0)
      → request ≡ get_or script cursor request → step_at scripts order k ≡ Some (command (get_or order k 0) request)
  unfolding step_at next_of
  found script cursor request ordered is at same =
      let here : slice_get order k ≡ Some (get_or order k 0) = slice_get-get_or order k 0 lt in
      let own : slice_get scripts (get_or order k 0) ≡ Some script = slice_get-get_or scripts (get_or order k 0) [] (known ordered) ∙ ap Some (sym (script_is script (known ordered) is)) in
      let next : slice_get script cursor ≡ Some request = slice_get-get_or script cursor request (left script cursor ordered is at) ∙ ap Some (sym same) in
      let counted : slice_get script (stood order k (get_or order k 0)) ≡ Some request = subst (λ n. slice_get script n ≡ Some request) at next in
      rw (here, own, counted) refl

  pub moved : (cursors : List ℕ) (cursor : ℕ) → IsOrder scripts order → Cursors scripts order k cursors → cursor ≡ stood order k (get_or order k 0) → Cursors scripts order (k + 1) (set cursors (get_or order k 0) (cursor + 1))
  moved cursors cursor ordered c at = record {
    many = length-set cursors (get_or order k 0) (cursor + 1) ∙ c.many;
    each = λ other less. by other less (get_or order k 0 == other) refl;
  }
    where
      by : (other : ℕ) → other < length scripts → (same : Bool) → (get_or order k 0 == other) ≡ same → get_or (set cursors (get_or order k 0) (cursor + 1)) other 0 ≡ stood order (k + 1) other
      by other less true same =
          let below : get_or order k 0 < length cursors = rw c.many (known ordered) in
          let more : stood order (k + 1) (get_or order k 0) ≡ stood order k (get_or order k 0) + 1 = count_by_more_yes (λ w. w == get_or order k 0) order k 0 lt named in
          let own : get_or (set cursors (get_or order k 0) (cursor + 1)) (get_or order k 0) 0 ≡ stood order (k + 1) (get_or order k 0) = get_or-set_same cursors (get_or order k 0) (cursor + 1) 0 below ∙ ap (λ n. n + 1) at ∙ sym more in
          subst (λ z. get_or (set cursors (get_or order k 0) (cursor + 1)) z 0 ≡ stood order (k + 1) z) (eqb-true (get_or order k 0) other same) own
      by other less false same =
          let apart : other ≡ get_or order k 0 → ⊥ = λ e. true≢false (sym (eq-eqb (get_or order k 0) other (sym e)) ∙ same) in
          get_or-set_other cursors (get_or order k 0) other (cursor + 1) 0 apart ∙ c.each other less ∙ sym (count_by_more_no (λ w. w == other) order k 0 lt same)
