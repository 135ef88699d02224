-- The initial variant is always live, what is told of a list of contingencies, and of the parts in which it is written.
use Rattle.std.proofs.Common.{◌≡◌, refl, sym, ap, ◌∙◌, ℕ, suc, ◌+◌, ◌<◌, Bool, true, false, cond, List, [], ◌∷◌, ◌++◌, map, length, get_or, Some, None, Option, arith, append_assoc, append-nil, length-append}
use Rattle.std.specs.Prelude.{not, ◌&&◌, ◌||◌, filter}
use Rattle.std.specs.List.{list_any, flat_map, enumerate_from}
use Rattle.std.proofs.lemmas.Bool.{and_parts, false≢true, true≢false}
use Rattle.std.proofs.lemmas.List.{get_or-map, map-append}
use Rattle.std.proofs.lemmas.List.Concat.{flat_map-append}
use Rattle.std.proofs.lemmas.List.Elements.{filter-append}
use Rattle.std.proofs.lemmas.List.Filters.{length-filter_both}
use Rattle.std.proofs.lemmas.Slice.Eq.{bytes_eq-Decides}
use Rattle.grid_lemmas.proofs.Bools.{or_right}
use Rattle.grid_source.specs.Whole.{IsBegun}
use Rattle.grid_ids.specs.Name.{same_id, has_id, id_below}
use Rattle.grid_slots.specs.Names.{initial_state, with_name, without_name, may_clone, may_remove}
use Rattle.grid_requests.specs.declared.request.Request.{Request}
use Rattle.grid_requests.specs.declared.request.Request.TheVariants as requests
use Rattle.grid_core.specs.declared.journal.Entry.{Entry}
use Rattle.grid_core.specs.declared.case.Case.{Case}
use Rattle.grid_core.specs.Cases.{case_of, case_seen}
use Rattle.grid_core.specs.History.{History, Command, live_after, live, is_live}
use Rattle.grid_core.specs.Journals.{journal_of}
use Rattle.grid_core.specs.Replies.{state_of}
use Rattle.grid_core.specs.Solo.{State}
use Rattle.grid_json.specs.declared.format.Format.{Format}
use Rattle.grid_print.specs.Job.{line_of}
use Rattle.grid_jsonl.specs.Steps.{state_value, state_line}
use Rattle.grid_jsonl.specs.Outcomes.{lines}
use Rattle.grid_contingencies.specs.declared.Contingency.{Contingency}
use Rattle.grid_contingencies.specs.declared.ScreenJob.{ScreenJob}
use Rattle.grid_contingencies.specs.declared.Told.{Told}
use Rattle.grid_contingencies.specs.declared.Told.TheVariants as whose
use Rattle.grid_figures.specs.declared.Figures.{Figures}
use Rattle.grid_screen.specs.declared.Finding.{Finding}
use Rattle.grid_screen.specs.Findings.{figures_of}
use Rattle.grid_screen.specs.Found.{finding_of, is_loss}
use Rattle.grid_screen.specs.Bodies.{body_text, left_out, is_told, told_line}
use Rattle.grid_forms.specs.declared.words.Layout.{Layout}
use Rattle.grid_forms.specs.declared.words.Layout.TheVariants as layouts
use Rattle.grid_report.specs.Histories.{history_of}
use Rattle.grid_cli.specs.Orders.{order_of}
use Rattle.grid_cli.specs.Layouts.{in_layout}
use Rattle.grid_cli.specs.Findings.{absent_object, absent_text, case_state, end_object, end_text, found_object, is_told_at, left_count, list_in, list_objects, list_text, listed_in, part_lines, part_text, tells, told_count}
use Rattle.grid_cli.specs.declared.findings.Part.{Part}
use Rattle.grid_cli.specs.Screen.{absent_in, all_of, answer_objects, answer_text, findings_objects, findings_text, screen_text, screened_in, screened_objects, state_after, variant_of}
use Rattle.grid_cli.proofs.ItemTexts.{lines_between}

-- ---- names

-- a name stays where another one, or the same, is put in
kept_with : (name q : List ℕ) (names : List (List ℕ)) → has_id names q ≡ true → has_id (with_name name names) q ≡ true
unfolding has_id with_name
kept_with name q [] h = absurd (false≢true h)
kept_with name q (n ∷ rest) h = by (id_below name n) (same_id name n) (same_id q n) refl h (kept_with name q rest)
  where
    by : (below same here : Bool) → same_id q n ≡ here → (same_id q n || list_any (same_id q) rest) ≡ true → (has_id rest q ≡ true → has_id (with_name name rest) q ≡ true)
        → list_any (same_id q) (cond below (name ∷ n ∷ rest) (cond same (n ∷ rest) (n ∷ with_name name rest))) ≡ true
    by true same here is h again = or_right (same_id q name) (same_id q n || list_any (same_id q) rest) h
    by false true here is h again = h
    by false false true is h again = ap (λ b. b || list_any (same_id q) (with_name name rest)) is
    by false false false is h again = ap (λ b. b || list_any (same_id q) (with_name name rest)) is ∙ again (sym (ap (λ b. b || list_any (same_id q) rest) is) ∙ h)

-- a name stays where another one is taken away
kept_without : (name q : List ℕ) (names : List (List ℕ)) → same_id q name ≡ false → has_id names q ≡ true → has_id (without_name name names) q ≡ true
unfolding has_id without_name
kept_without name q [] other h = h
kept_without name q (n ∷ rest) other h = by (same_id name n) (same_id q n) refl refl h (kept_without name q rest other)
  where
    by : (gone here : Bool) → same_id name n ≡ gone → same_id q n ≡ here → (same_id q n || list_any (same_id q) rest) ≡ true → (has_id rest q ≡ true → has_id (without_name name rest) q ≡ true)
        → list_any (same_id q) (cond (not gone) (n ∷ filter (λ m. not (same_id name m)) rest) (filter (λ m. not (same_id name m)) rest)) ≡ true
    by true true gone_is here_is h again =
        let same : q ≡ name = (bytes_eq-Decides q n).0 here_is ∙ sym ((bytes_eq-Decides name n).0 gone_is) in
        absurd (true≢false (sym ((bytes_eq-Decides q name).1 same) ∙ other))
    by true false gone_is here_is h again = again (sym (ap (λ b. b || list_any (same_id q) rest) here_is) ∙ h)
    by false true gone_is here_is h again = ap (λ b. b || list_any (same_id q) (filter (λ m. not (same_id name m)) rest)) here_is
    by false false gone_is here_is h again =
        ap (λ b. b || list_any (same_id q) (filter (λ m. not (same_id name m)) rest)) here_is ∙ again (sym (ap (λ b. b || list_any (same_id q) rest) here_is) ∙ h)

-- ---- the initial variant

name_stays : (names : List (List ℕ)) (request : Request) → has_id names initial_state ≡ true → has_id (live_after names request) initial_state ≡ true
unfolding live_after may_remove
name_stays names (requests.CloneVariant from to overwrite) h = by (may_clone names from to overwrite)
  where
    by : (b : Bool) → has_id (cond b (with_name to names) names) initial_state ≡ true
    by true = kept_with to initial_state names h
    by false = h
name_stays names (requests.RemoveVariant name) h = by (not (same_id initial_state name) && has_id names name) refl
  where
    flipped : (b : Bool) → not b ≡ true → b ≡ false
    flipped true e = absurd (false≢true e)
    flipped false e = refl

    by : (b : Bool) → (not (same_id initial_state name) && has_id names name) ≡ b → has_id (cond b (without_name name names) names) initial_state ≡ true
    by true is = kept_without name initial_state names (flipped (same_id initial_state name) (and_parts (not (same_id initial_state name)) (has_id names name) is).0) h
    by false is = h
name_stays names other h = h

pub initial_live : (steps : List Command) → is_live steps initial_state ≡ true
unfolding is_live live has_id
initial_live [] = ap (λ b. b || false) ((bytes_eq-Decides initial_state initial_state).1 refl)
initial_live (step ∷ before) = name_stays (live before) step.request (initial_live before)

-- ---- what a world shows

-- a live variant's state is what its case stands at
pub seen : (h : History) (name : List ℕ) (case : Case) → case_of h.origin h.steps name ≡ Some case → state_after h name ≡ Some (case_state case)
unfolding case_of case_seen state_after
seen h name case is = by (is_live h.steps name) is
  where
    state : State
    state = state_of h.origin h.steps name

    by : (b : Bool) → ◌≡◌ {A = Option Case} (cond b (Some (case_seen state)) None) (Some case) → ◌≡◌ {A = Option State} (cond b (Some state) None) (Some (case_state case))
    by true e = let same : case_seen state ≡ case = cc in ap (λ (c : Case). Some (case_state c)) same
    by false e = absurd (cc)

pub unseen : (h : History) (name : List ℕ) → case_of h.origin h.steps name ≡ None → state_after h name ≡ None
unfolding case_of state_after
unseen h name is = by (is_live h.steps name) is
  where
    state : State
    state = state_of h.origin h.steps name

    by : (b : Bool) → ◌≡◌ {A = Option Case} (cond b (Some (case_seen state)) None) None → ◌≡◌ {A = Option State} (cond b (Some state) None) None
    by true e = absurd (cc)
    by false e = refl

-- ---- lists

enumerate_from-append : {X : Type 0} (n : ℕ) (xs ys : List X) → enumerate_from n (xs ++ ys) ≡ enumerate_from n xs ++ enumerate_from (n + length xs) ys
enumerate_from-append n [] ys = let same : n ≡ n + 0 = omega arith in ap (λ k. enumerate_from k ys) same
enumerate_from-append n (x ∷ xs) ys =
    let same : (n + 1) + length xs ≡ n + suc (length xs) = omega arith in
    ap (λ z. (n, x) ∷ z) (enumerate_from-append (n + 1) xs ys ∙ ap (λ k. enumerate_from (n + 1) xs ++ enumerate_from k ys) same)

module _ (format : Format) (only : Told) (state : State) where
  pub list_text-append : (xs ys : List Contingency) → list_text format only state (xs ++ ys) ≡ list_text format only state xs ++ list_text format only state ys
  unfolding list_text
  list_text-append xs ys =
      ap (flat_map (told_line format state)) (filter-append (is_told only state) xs ys)
      ∙ flat_map-append (told_line format state) (filter (is_told only state) xs) (filter (is_told only state) ys)

  pub lines-append : (first : ℕ) (xs ys : List Contingency)
      → lines (list_objects format only state first (xs ++ ys)) ≡ lines (list_objects format only state first xs) ++ lines (list_objects format only state (first + length xs) ys)
  unfolding list_objects
  lines-append first xs ys =
      let shown = found_object format state in
      let told = is_told_at only state in
      let front = filter told (enumerate_from first xs) in
      let back = filter told (enumerate_from (first + length xs) ys) in
      ap (λ l. lines (map shown l)) (ap (filter told) (enumerate_from-append first xs ys) ∙ filter-append told (enumerate_from first xs) (enumerate_from (first + length xs) ys))
      ∙ ap lines (map-append shown front back)
      ∙ flat_map-append line_of (map shown front) (map shown back)

  pub told_count-append : (xs ys : List Contingency) → told_count only state (xs ++ ys) ≡ told_count only state xs + told_count only state ys
  unfolding told_count
  told_count-append xs ys = ap length (filter-append (is_told only state) xs ys) ∙ length-append (filter (is_told only state) xs) (filter (is_told only state) ys)

  -- a list from its first place on, and another one behind it
  pub list_in-append : (layout : Layout) (first : ℕ) (xs ys : List Contingency)
      → list_in layout format only state first (xs ++ ys) ≡ list_in layout format only state first xs ++ list_in layout format only state (first + length xs) ys
  unfolding list_in
  list_in-append layouts.Text first xs ys = list_text-append xs ys
  list_in-append layouts.Lines first xs ys = lines-append first xs ys

  -- what parts tell in each layout
  pub parts_told : (layout : Layout) (first : ℕ) (list : List Contingency) (text lined : List ℕ) → text ≡ list_text format only state list → lined ≡ lines (list_objects format only state first list)
      → in_layout layout text lined ≡ list_in layout format only state first list
  unfolding list_in
  parts_told layout first list text lined t l = ap (λ x. in_layout layout x lined) t ∙ ap (in_layout layout (list_text format only state list)) l

  -- no contingency
  pub list_in-nil : (layout : Layout) (first : ℕ) → list_in layout format only state first [] ≡ []
  unfolding list_in list_text list_objects
  list_in-nil layouts.Text first = refl
  list_in-nil layouts.Lines first = refl

  -- one contingency that is told
  pub told_text : (contingency : Contingency) → is_told only state contingency ≡ true → list_text format only state (contingency ∷ []) ≡ told_line format state contingency
  unfolding list_text
  told_text contingency is = ap (λ t. flat_map (told_line format state) (cond t (contingency ∷ []) [])) is ∙ append-nil (told_line format state contingency)

  pub told_lines : (place : ℕ) (contingency : Contingency) → is_told only state contingency ≡ true
      → lines (list_objects format only state place (contingency ∷ [])) ≡ line_of (found_object format state (place, contingency))
  unfolding list_objects
  told_lines place contingency is =
      ap (λ t. lines (map (found_object format state) (cond t ((place, contingency) ∷ []) []))) is ∙ append-nil (line_of (found_object format state (place, contingency)))

  pub told_one : (contingency : Contingency) → is_told only state contingency ≡ true → told_count only state (contingency ∷ []) ≡ 1
  unfolding told_count
  told_one contingency is = ap (λ t. length (cond t (contingency ∷ []) [])) is

  -- one that is left out
  pub left_text : (contingency : Contingency) → is_told only state contingency ≡ false → list_text format only state (contingency ∷ []) ≡ []
  unfolding list_text
  left_text contingency is = ap (λ t. flat_map (told_line format state) (cond t (contingency ∷ []) [])) is

  pub left_lines : (place : ℕ) (contingency : Contingency) → is_told only state contingency ≡ false → lines (list_objects format only state place (contingency ∷ [])) ≡ []
  unfolding list_objects
  left_lines place contingency is = ap (λ t. lines (map (found_object format state) (cond t ((place, contingency) ∷ []) []))) is

  pub left_none : (contingency : Contingency) → is_told only state contingency ≡ false → told_count only state (contingency ∷ []) ≡ 0
  unfolding told_count
  left_none contingency is = ap (λ t. length (cond t (contingency ∷ []) [])) is

  -- those that are told and those that are left out are all
  pub counts-all : (list : List Contingency) → told_count only state list + left_count only state list ≡ length list
  unfolding told_count left_count
  counts-all list = length-filter_both (is_told only state) (λ contingency. not (is_told only state contingency)) (λ _. refl) list

-- what is said of a finding is what is said of its contingency
pub told_is : (only : Told) (state : State) (before : Figures) (contingency : Contingency) (finding : Finding) → before ≡ figures_of state → finding ≡ finding_of state contingency → tells only before finding ≡ is_told only state contingency
told_is whose.All state before contingency finding b f = refl
told_is whose.Losses state before contingency finding b f = ap (λ z. is_loss z finding) b ∙ ap (is_loss (figures_of state)) f

-- the findings of a list at a place
pub found_at : {X Y : Type 0} (f : X → Y) (xs : List X) (ys : List Y) (n : ℕ) (x : X) (y : Y) → ys ≡ map f xs → n < length xs → x ≡ get_or xs n x → y ≡ get_or ys n y → y ≡ f x
found_at f xs ys n x y are below xs_is ys_is = ys_is ∙ ap (λ l. get_or l n y) are ∙ get_or-map f xs n x y below ∙ ap f (sym xs_is)

-- ---- the whole

-- one part
pub one_part : (layout : Layout) (part : Part) → in_layout layout (flat_map part_text (part ∷ [])) (flat_map part_lines (part ∷ [])) ≡ in_layout layout (part_text part) (part_lines part)
one_part layout part = ap (λ t. in_layout layout t (part_lines part ++ [])) (append-nil (part_text part)) ∙ ap (in_layout layout (part_text part)) (append-nil (part_lines part))

-- what is told of the steps, of a list, and the last line
pub listed_is : (layout : Layout) (format : Format) (only : Told) (state : State) (journal : List Entry) (list : List Contingency) (told left : ℕ) → told ≡ told_count only state list → left ≡ left_count only state list
    → listed_in layout format only state journal list
    ≡ in_layout layout [] (state_line journal) ++ (list_in layout format only state 0 list ++ in_layout layout (end_text only left) (line_of (end_object only told left)))
unfolding listed_in list_in
listed_is layouts.Text format only state journal list told left told_is_count left_is_count = ap (λ n. list_text format only state list ++ end_text only n) (sym left_is_count)
listed_is layouts.Lines format only state journal list told left told_is_count left_is_count =
    let objects = list_objects format only state 0 list in
    sym (lines_between (state_value journal) objects (end_object only (told_count only state list) (left_count only state list)))
    ∙ append_assoc (state_line journal) (lines objects) (line_of (end_object only (told_count only state list) (left_count only state list)))
    ∙ ap (λ n. state_line journal ++ (lines objects ++ line_of (end_object only n (left_count only state list)))) (sym told_is_count)
    ∙ ap (λ n. state_line journal ++ (lines objects ++ line_of (end_object only told n))) (sym left_is_count)

-- what is told of a state's contingencies is the answer after a history that leaves it
pub answered : (layout : Layout) (h : History) (screen : ScreenJob) (state : State) (list : List Contingency) → state_after h (variant_of screen) ≡ Some state → list ≡ all_of screen state
    → listed_in layout screen.format screen.only state (journal_of h.origin h.steps) list ≡ screened_in layout h screen
unfolding listed_in screened_objects findings_text findings_objects body_text left_out list_text left_count
answered layout h screen state list is lists =
    ap (listed_in layout screen.format screen.only state (journal_of h.origin h.steps)) lists ∙ by layout ∙ ap (λ o. answer_in layout o) (sym is)
  where
    answer_in : Layout → Option State → List ℕ
    answer_in layout o = in_layout layout (answer_text screen o) (lines (state_value (journal_of h.origin h.steps) ∷ answer_objects screen o))

    by : (layout : Layout) → listed_in layout screen.format screen.only state (journal_of h.origin h.steps) (all_of screen state) ≡ answer_in layout (Some state)
    by layouts.Text = refl
    by layouts.Lines = refl

-- the parts of which that answer is made
pub absent_parts : (layout : Layout) (journal : List Entry) (name : List ℕ) (only : Told)
    → in_layout layout (absent_text name ++ (end_text only 0 ++ [])) (state_line journal ++ (line_of (absent_object name) ++ (line_of (end_object only 0 0) ++ []))) ≡ absent_in layout journal name only
unfolding absent_in
absent_parts layouts.Text journal name only = ap (λ t. absent_text name ++ t) (append-nil (end_text only 0))
absent_parts layouts.Lines journal name only = refl

-- that no live variant has the name is the answer after a history that leaves none
pub unanswered : (layout : Layout) (h : History) (screen : ScreenJob) → state_after h (variant_of screen) ≡ None
    → absent_in layout (journal_of h.origin h.steps) (variant_of screen) screen.only ≡ screened_in layout h screen
unfolding absent_in screened_objects
unanswered layouts.Text h screen is = ap (answer_text screen) (sym is)
unanswered layouts.Lines h screen is = ap (λ o. lines (state_value (journal_of h.origin h.steps) ∷ answer_objects screen o)) (sym is)

-- ---- of a job

-- a job whose variant is not live
pub absent_is : (layout : Layout) (screen : ScreenJob) (world : History) (journal : List Entry) (name : List ℕ) → world ≡ history_of screen.job.network screen.job.scripts (order_of screen.job)
    → journal ≡ journal_of world.origin world.steps → name ≡ variant_of screen → case_of world.origin world.steps name ≡ None → absent_in layout journal name screen.only ≡ screen_text layout screen
unfolding screen_text
absent_is layout screen world journal name made told named none =
    ap (λ j. absent_in layout j name screen.only) told
    ∙ ap (λ n. absent_in layout (journal_of world.origin world.steps) n screen.only) named
    ∙ unanswered layout world screen (unseen world (variant_of screen) (ap (case_of world.origin world.steps) (sym named) ∙ none))
    ∙ ap (λ h. screened_in layout h screen) made

-- a job whose variant is live
pub listed_for : (layout : Layout) (screen : ScreenJob) (world : History) (journal : List Entry) (name : List ℕ) (case : Case) (list : List Contingency)
    → world ≡ history_of screen.job.network screen.job.scripts (order_of screen.job) → journal ≡ journal_of world.origin world.steps → name ≡ variant_of screen
    → case_of world.origin world.steps name ≡ Some case → list ≡ all_of screen (case_state case) → listed_in layout screen.format screen.only (case_state case) journal list ≡ screen_text layout screen
unfolding screen_text
listed_for layout screen world journal name case list made told named some lists =
    ap (λ j. listed_in layout screen.format screen.only (case_state case) j list) told
    ∙ answered layout world screen (case_state case) list (seen world (variant_of screen) case (ap (case_of world.origin world.steps) (sym named) ∙ some)) lists
    ∙ ap (λ h. screened_in layout h screen) made

-- ---- what was written

-- the write stopped in the first of two parts
pub in_first : (old new : Option (List ℕ)) (part rest bytes : List ℕ) → bytes ≡ part ++ rest → IsBegun old part new → IsBegun old bytes new
in_first None new part rest bytes e b = tt
in_first (Some x) None part rest bytes e b = absurd b
in_first (Some x) (Some y) part rest bytes e b = (b.0 ++ rest, ap (λ t. x ++ t) e ∙ sym (append_assoc x part rest) ∙ ap (λ t. t ++ rest) b.1 ∙ append_assoc y b.0 rest)
