-- The steps of a journal, and their numbers.
use Rattle.std.proofs.Common.{◌≡◌, ℕ, zero, suc, ◌+◌, ◌-◌, ◌<◌, ◌≤◌, ◌==◌, Bool, List, [], ◌∷◌, ◌++◌, map, take, get_or, length, min, refl, sym, ap, ◌∙◌, arith, add-one, eq-eqb}
use Rattle.std.specs.List.{count_by}
use Rattle.std.proofs.Math.Seq.{take-suc}
use Rattle.std.proofs.lemmas.List.{get_or-map, get_or-take, length-map, length-take, map-append, take_all}
use Rattle.std.proofs.lemmas.List.Sums.{count_by_more_yes, count_by-le-length}
use Rattle.grid_core.specs.declared.journal.Entry.{Entry}
use Rattle.grid_jsonl.specs.declared.step.Step as borrowed
use Rattle.grid_jsonl.specs.Borrowed.{step_in}
use Rattle.grid_jsonl.specs.Steps.{Step, step_of, step_at, steps_from, steps}

abbrev pub of_worker : ℕ → Entry → Bool
of_worker worker e = e.worker == worker

-- no more of the first steps are a worker's than they are
pub count_few : (worker place : ℕ) (journal : List Entry) → count_by (of_worker worker) (take place journal) ≤ place
count_few worker place journal =
    let few = count_by-le-length (of_worker worker) (take place journal) in
    let long = length-take place journal in
    omega (arith, few, long)

module _ (journal : List Entry) where
  from_long : (place : ℕ) (rest : List Entry) → length (steps_from journal place rest) ≡ length rest
  unfolding steps_from
  from_long place [] = refl
  from_long place (e ∷ rest) = ap suc (from_long (suc place) rest)

  from_at : (rest : List Entry) (place i : ℕ) (e : Entry) (d : Step) → i < length rest → e ≡ get_or rest i e → get_or (steps_from journal place rest) i d ≡ step_at journal (place + i) e
  unfolding steps_from
  from_at [] place i e d lt is = absurd (omega arith)
  from_at (x ∷ rest) place zero e d lt is = ap (step_at journal place) (sym is) ∙ ap (λ n. step_at journal n e) (omega arith)
  from_at (x ∷ rest) place (suc i) e d lt is = from_at rest (suc place) i e d (omega (arith, lt)) is ∙ ap (λ n. step_at journal n e) (omega arith)

  steps_long : length (steps journal) ≡ length journal
  unfolding steps
  steps_long = from_long 0 journal

  steps_place : (i : ℕ) (e : Entry) (d : Step) → i < length journal → e ≡ get_or journal i e → get_or (steps journal) i d ≡ step_at journal i e
  unfolding steps
  steps_place i e d lt is = from_at journal 0 i e d lt is ∙ ap (λ n. step_at journal n e) (omega arith)

  number_at : (i : ℕ) (e : Entry) → (step_at journal i e).number ≡ count_by (of_worker e.worker) (take (suc i) journal)
  unfolding step_at
  number_at i e = refl

  module _ (held : List borrowed.Step) (are : map step_in held ≡ take (length held) (steps journal)) where
    -- no more steps are held than the journal has
    pub held_few : length held ≤ length journal
    held_few =
        let e : length held ≡ min (length held) (length journal) = sym (length-map held step_in) ∙ ap length are ∙ length-take (length held) (steps journal) ∙ ap (min (length held)) steps_long in
        omega (arith, e)

    held_at : (i : ℕ) (s : borrowed.Step) (e : Entry) → i < length held → s ≡ get_or held i s → e ≡ get_or journal i e → step_in s ≡ step_at journal i e
    held_at i s e lt is there =
        let few = held_few in
        ap step_in is
        ∙ sym (get_or-map step_in held i s (step_in s) lt)
        ∙ ap (λ l. get_or l i (step_in s)) are
        ∙ get_or-take (length held) (steps journal) i (step_in s) lt
        ∙ steps_place i e (step_in s) (omega (arith, lt, few)) there

    -- a held step's number is how many of the steps up to it are its worker's
    pub held_number : (place worker : ℕ) (s : borrowed.Step) (e : Entry) → 0 < place → place ≤ length held → s ≡ get_or held (place - 1) s → e ≡ get_or journal (place - 1) e → e.worker ≡ worker → s.number ≡ count_by (of_worker worker) (take place journal)
    held_number place worker s e some le is there own =
        let before : suc (place - 1) ≡ place = omega arith in
        ap (λ (x : Step). x.number) (held_at (place - 1) s e (omega arith) is there)
        ∙ number_at (place - 1) e
        ∙ ap (λ n. count_by (of_worker e.worker) (take n journal)) before
        ∙ ap (λ w. count_by (of_worker w) (take place journal)) own

  step_is : (place : ℕ) (s : borrowed.Step) (e : Entry) → place < length journal → e ≡ get_or journal place e → s.place ≡ place → s.number ≡ suc (count_by (of_worker e.worker) (take place journal)) → s.entry.now ≡ e → step_in s ≡ step_at journal place e
  unfolding step_at
  step_is place s e lt is a b c =
      let own = ap (of_worker e.worker) (sym is) ∙ eq-eqb e.worker e.worker refl in
      let more : suc (count_by (of_worker e.worker) (take place journal)) ≡ count_by (of_worker e.worker) (take (suc place) journal) =
      sym (ap (λ n. count_by (of_worker e.worker) (take n journal)) (sym (add-one place)) ∙ count_by_more_yes (of_worker e.worker) journal place e lt own ∙ add-one (count_by (of_worker e.worker) (take place journal))) in
      ap (λ n. step_of n s.number s.entry.now) a ∙ ap (λ (x : Entry). step_of place s.number x) c ∙ ap (λ n. step_of place n e) (b ∙ more)

  -- a step more
  pub step_more : (held : List borrowed.Step) (place : ℕ) (s : borrowed.Step) (e : Entry) → map step_in held ≡ take place (steps journal) → place < length journal → e ≡ get_or journal place e
      → s.place ≡ place → s.number ≡ suc (count_by (of_worker e.worker) (take place journal)) → s.entry.now ≡ e → map step_in (held ++ s ∷ []) ≡ take (place + 1) (steps journal)
  step_more held place s e are lt is a b c =
      let long = steps_long in
      map-append step_in held (s ∷ [])
      ∙ ap (λ l. l ++ step_in s ∷ []) are
      ∙ ap (λ (x : Step). take place (steps journal) ++ x ∷ []) (step_is place s e lt is a b c ∙ sym (steps_place place e (step_in s) lt is))
      ∙ sym (take-suc (steps journal) place (step_in s) (omega (arith, lt, long)))
      ∙ ap (λ n. take n (steps journal)) (sym (add-one place))

  -- all steps
  pub steps_all : (place : ℕ) → length journal ≤ place → take place (steps journal) ≡ steps journal
  steps_all place le = let long = steps_long in take_all place (steps journal) (omega (arith, le, long))
