-- Workers that made their scripts' calls leave a run of these scripts.
use Rattle.std.proofs.Common.{◌≡◌, ℕ, zero, suc, ◌+◌, ◌<◌, ◌≤◌, Bool, true, false, true≢false, ◌||◌, List, [], ◌∷◌, ◌++◌, length, reverse, map, refl, sym, ap, ◌∙◌, subst, arith, length-append}
use Rattle.std.specs.Prelude.{All, unwrap_or, Option}
use Rattle.std.specs.List.{range_with_len}
use Rattle.std.proofs.lemmas.Bool.{ltb-true, ltb-false}
use Rattle.std.proofs.lemmas.List.{length-reverse, append-nil}
use Rattle.std.proofs.lemmas.List.Elements.{All-head, All-tail}
use Rattle.std.proofs.lemmas.Option.{slice_get_past}
use mathlib.Core.List.{IsPrefix}
use native.Mathlib.Decide.{dec_le}
use Rattle.grid_lemmas.proofs.Bools.{not_either}
use Rattle.grid_structure.specs.Network.{Network}
use Rattle.grid_requests.specs.declared.request.Request.{Request}
use Rattle.grid_core.specs.History.{History, Command, IsHistory, asked_by}
use Rattle.grid_core.specs.Worlds.{begun}
use Rattle.grid_manager.specs.declared.view.Known.{Known}
use Rattle.grid_manager.specs.Calls.{newcomers}
use Rattle.grid_manager.specs.Listed.{Listed}
use Rattle.grid_manager.specs.Rules.{Fits}
use Rattle.grid_manager.specs.Views.{known}
use Rattle.grid_manager.proofs.Histories.{asked_none, asked_other}
use Rattle.grid_workers.specs.Works.{Works, AllWork, has_left, is_short}
use Rattle.grid_workers.specs.Runs.{IsRun, script_at}

-- new callers of the numbers from a on
abbrev callers : History → ℕ → ℕ → List Known
callers begun a count = map (λ (n : ℕ). known n begun [] 0) (range_with_len a count)

-- ---- one worker

-- what a worker asked is what its seat has
asked_is : (h b : History) (n : ℕ) (script : List Request) (new : Known) → Works (known n b [] 0) script new → Fits h new → asked_by n h.steps ≡ new.mine
asked_is h b n script new works fits = ap (λ (k : ℕ). asked_by k h.steps) (sym works.number) ∙ fits.mine

-- a front that is as long is all
all_of : (front script : List Request) → IsPrefix front script → length script ≤ length front → front ≡ script
all_of front script p le = sym (append-nil front) ∙ (ap (λ (l : List Request). front ++ l) (sym (none p.0 (omega (arith, ap length p.1, length-append front p.0, le)))) ∙ p.1)
  where
    none : (l : List Request) → length l ≡ 0 → l ≡ []
    none [] e = refl
    none (x ∷ xs) e = absurd (omega (arith, e))

or_yes : (a b : Bool) → a ≡ false → (a || b) ≡ true → b ≡ true
or_yes a b off e = sym (ap (λ (x : Bool). x || b) off) ∙ e

-- ---- all workers

fronts : (h b : History) (a count : ℕ) (scripts : List (List Request)) (news : List Known) (i : ℕ) → AllWork (callers b a count) scripts news → All (Fits h) news → count ≡ length scripts → i < length scripts
    → IsPrefix (reverse (asked_by (a + i) h.steps)) (script_at scripts i)
fronts h b a count [] news i work fits same below = absurd (omega (arith, below))
fronts h b a zero (s ∷ ss) news i work fits same below = absurd (omega (arith, same))
fronts h b a (suc count) (s ∷ ss) [] i work fits same below = absurd work
fronts h b a (suc count) (s ∷ ss) (new ∷ news) zero work fits same below =
    let e : a ≡ a + 0 = omega arith in
    subst (λ (n : ℕ). IsPrefix (reverse (asked_by n h.steps)) s) e
    (subst (λ (l : List Request). IsPrefix (reverse l) s) (sym (asked_is h b a s new work.0 (All-head (Fits h) new news fits))) work.0.mine)
fronts h b a (suc count) (s ∷ ss) (new ∷ news) (suc i) work fits same below =
    let e : a + 1 + i ≡ a + suc i = omega arith in
    subst (λ (n : ℕ). IsPrefix (reverse (asked_by n h.steps)) (script_at ss i)) e
    (fronts h b (a + 1) count ss news i work.1 (All-tail (Fits h) new news fits) (omega (arith, same)) (omega (arith, below)))

whole : (h b : History) (a count : ℕ) (scripts : List (List Request)) (news : List Known) (i : ℕ) → AllWork (callers b a count) scripts news → All (Fits h) news → count ≡ length scripts → i < length scripts → is_short scripts news ≡ false
    → reverse (asked_by (a + i) h.steps) ≡ script_at scripts i
whole h b a count [] news i work fits same below full = absurd (omega (arith, below))
whole h b a zero (s ∷ ss) news i work fits same below full = absurd (omega (arith, same))
whole h b a (suc count) (s ∷ ss) [] i work fits same below full = absurd work
whole h b a (suc count) (s ∷ ss) (new ∷ news) zero work fits same below full =
    let e : a ≡ a + 0 = omega arith in
    let most : length s ≤ length new.mine = ltb-false (length new.mine) (length s) (not_either (has_left s new) (is_short ss news) full).0 in
    subst (λ (n : ℕ). reverse (asked_by n h.steps) ≡ s) e
    (ap (λ (l : List Request). reverse l) (asked_is h b a s new work.0 (All-head (Fits h) new news fits)) ∙ all_of (reverse new.mine) s work.0.mine (omega (arith, most, length-reverse new.mine)))
whole h b a (suc count) (s ∷ ss) (new ∷ news) (suc i) work fits same below full =
    let e : a + 1 + i ≡ a + suc i = omega arith in
    subst (λ (n : ℕ). reverse (asked_by n h.steps) ≡ script_at ss i) e
    (whole h b (a + 1) count ss news i work.1 (All-tail (Fits h) new news fits) (omega (arith, same)) (omega (arith, below)) (not_either (has_left s new) (is_short ss news) full).1)

-- a worker, counted from a on, that has commands left
abbrev Left : History → ℕ → List (List Request) → Type 0
Left h a scripts = (i : ℕ) × (length (asked_by (a + i) h.steps) < length (script_at scripts i))

left : (h b : History) (a count : ℕ) (scripts : List (List Request)) (news : List Known) → AllWork (callers b a count) scripts news → All (Fits h) news → count ≡ length scripts → is_short scripts news ≡ true → Left h a scripts
left h b a count [] news work fits same short = absurd (true≢false (sym short))
left h b a zero (s ∷ ss) news work fits same short = absurd (omega (arith, same))
left h b a (suc count) (s ∷ ss) [] work fits same short = absurd work
left h b a (suc count) (s ∷ ss) (new ∷ news) work fits same short =
    by_first (has_left s new) refl (λ is. left h b (a + 1) count ss news work.1 (All-tail (Fits h) new news fits) (omega (arith, same)) (or_yes (has_left s new) (is_short ss news) is short))
  where
    by_first : (first : Bool) → has_left s new ≡ first → (has_left s new ≡ false → Left h (a + 1) ss) → Left h a (s ∷ ss)
    by_first true is rest =
        let e : a ≡ a + 0 = omega arith in
        let less : length new.mine < length s = ltb-true (length new.mine) (length s) is in
        (0, subst (λ (n : ℕ). length (asked_by n h.steps) < length s) e (subst (λ (l : List Request). length l < length s) (sym (asked_is h b a s new work.0 (All-head (Fits h) new news fits))) less))
    by_first false is rest =
        let l = rest is in
        let e : a + 1 + l.0 ≡ a + suc l.0 = omega arith in
        (suc l.0, subst (λ (n : ℕ). length (asked_by n h.steps) < length (script_at ss l.0)) e l.1)

origin_is : (h b : History) (a count : ℕ) (scripts : List (List Request)) (news : List Known) → AllWork (callers b a count) scripts news → All (Fits h) news → count ≡ length scripts → 0 < length scripts → h.origin ≡ b.origin
origin_is h b a count [] news work fits same some = absurd (omega (arith, some))
origin_is h b a zero (s ∷ ss) news work fits same some = absurd (omega (arith, same))
origin_is h b a (suc count) (s ∷ ss) [] work fits same some = absurd work
origin_is h b a (suc count) (s ∷ ss) (new ∷ news) work fits same some = sym (work.0.seen.origin ∙ (All-head (Fits h) new news fits).seen.origin)

-- ---- workers beyond the scripts

none_beyond : (m : ℕ) (steps : List Command) (n : ℕ) → All (λ (step : Command). step.worker < m) steps → m ≤ n → asked_by n steps ≡ []
none_beyond m [] n all le = asked_none n
none_beyond m (step ∷ steps) n all le =
    let low = All-head (λ (s : Command). s.worker < m) step steps all in
    asked_other n step steps (λ e. absurd (omega (arith, low, le, e))) ∙ none_beyond m steps n (All-tail (λ (s : Command). s.worker < m) step steps all) le

no_script : (scripts : List (List Request)) (n : ℕ) → length scripts ≤ n → script_at scripts n ≡ []
no_script scripts n le = ap (λ (o : Option (List Request)). unwrap_or o []) (slice_get_past scripts n le)

none_asked : (h : History) (scripts : List (List Request)) (n : ℕ) → IsHistory h → h.workers ≡ length scripts → length scripts ≤ n → asked_by n h.steps ≡ []
none_asked h scripts n legal workers le = none_beyond h.workers h.steps n legal (omega (arith, workers, le))

-- ---- the run

run_of : (h b : History) (count : ℕ) (scripts : List (List Request)) (news : List Known) (short : Bool) → AllWork (callers b 0 count) scripts news → All (Fits h) news → count ≡ length scripts → 0 < length scripts
    → short ≡ is_short scripts news → h.workers ≡ length scripts → IsHistory h → IsRun b.origin scripts h short
run_of h b count scripts news short work fits same some short_is workers legal = record {
  origin = origin_is h b 0 count scripts news work fits same some;
  workers = workers;
  steps = legal;
  fronts = λ n. front_at n (dec_le (length scripts) n);
  whole = λ full n. whole_at (sym short_is ∙ full) n (dec_le (length scripts) n);
  left = λ is. from_first (left h b 0 count scripts news work fits same (sym short_is ∙ is));
}
  where
    none_before : (n : ℕ) → 0 + n ≡ n
    none_before n = omega arith

    from_first : Left h 0 scripts → (n : ℕ) × (length (asked_by n h.steps) < length (script_at scripts n))
    from_first l = (l.0, subst (λ (n : ℕ). length (asked_by n h.steps) < length (script_at scripts l.0)) (none_before l.0) l.1)

    front_at : (n : ℕ) → Dec (length scripts ≤ n) → IsPrefix (reverse (asked_by n h.steps)) (script_at scripts n)
    front_at n (yes le) = (script_at scripts n, ap (λ (l : List Request). reverse l ++ script_at scripts n) (none_asked h scripts n legal workers le))
    front_at n (no below) = subst (λ (m : ℕ). IsPrefix (reverse (asked_by m h.steps)) (script_at scripts n)) (none_before n) (fronts h b 0 count scripts news n work fits same (omega (arith, below)))

    whole_at : is_short scripts news ≡ false → (n : ℕ) → Dec (length scripts ≤ n) → reverse (asked_by n h.steps) ≡ script_at scripts n
    whole_at full n (yes le) = ap (λ (l : List Request). reverse l) (none_asked h scripts n legal workers le) ∙ sym (no_script scripts n le)
    whole_at full n (no below) = subst (λ (m : ℕ). reverse (asked_by m h.steps) ≡ script_at scripts n) (none_before n) (whole h b 0 count scripts news n work fits same (omega (arith, below)) full)

-- from a new manager to the board that it leaves
pub finishes : (structure : Network) (workers : ℕ) (scripts : List (List Request)) (seats : Listed) (news : List Known) (h : History) (short : Bool) → seats ≡ record { known = newcomers structure workers workers; spare = 0 }
    → AllWork seats.known scripts news → short ≡ is_short scripts news → All (Fits h) news → (h.workers ≡ workers) × IsHistory h → length scripts ≡ workers → 0 < length scripts → IsRun structure scripts h short
finishes structure workers scripts seats news h short e work short_is fits closed count some =
    run_of h (begun structure workers) workers scripts news short (subst (λ (s : Listed). AllWork s.known scripts news) e work) fits (sym count) some short_is (closed.0 ∙ sym count) closed.1

-- where there is no script
pub finishes_none : (structure : Network) (scripts : List (List Request)) (h : History) → h ≡ begun structure 0 → length scripts ≡ 0 → IsRun structure scripts h false
finishes_none structure scripts h e none = subst (λ (k : History). IsRun structure scripts k false) (sym e) (record {
  origin = refl;
  workers = sym none;
  steps = λ k d below. absurd (omega (arith, below));
  fronts = λ n. (script_at scripts n, ap (λ (l : List Request). reverse l ++ script_at scripts n) (asked_none n));
  whole = λ full n. ap (λ (l : List Request). reverse l) (asked_none n) ∙ sym (no_script scripts n (omega (arith, none)));
  left = λ is. absurd (true≢false (sym is));
})
