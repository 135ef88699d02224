-- The lines of `screen`.
use Rattle.std.proofs.Common.{◌≡◌, ℕ, arith, List, [], ◌∷◌, ◌++◌, Option, Some, None, map, refl, sym, ap, ap₂, ◌∙◌, subst}
use Rattle.std.specs.Prelude.{IsUtf8, All, codes, filter}
use Rattle.std.specs.Option.{option_map}
use Rattle.std.specs.List.{AllByRecursion, enumerate_from}
use Rattle.serde_json.specs.Data.{Data}
use Rattle.serde_json.specs.Find.{get}
use Rattle.grid_lemmas.proofs.Lists.{map_twice}
use Rattle.grid_core.specs.History.{History}
use Rattle.grid_core.specs.Solo.{State}
use Rattle.grid_core.specs.Journals.{journal_of}
use Rattle.grid_structure.specs.Network.{Network}
use Rattle.grid_json.specs.declared.format.Format.{Format}
use Rattle.grid_contingencies.specs.declared.ScreenJob.{ScreenJob}
use Rattle.grid_contingencies.specs.declared.Told.{Told}
use Rattle.grid_contingencies.specs.declared.Told.TheVariants as whose
use Rattle.grid_screen.specs.Bodies.{left_out}
use Rattle.grid_screen.specs.Lines.{contingency_object}
use Rattle.grid_print.proofs.Each.{each_of, of_each}
use Rattle.grid_jsonl.specs.Trees.{ordered}
use Rattle.grid_jsonl.specs.Steps.{state_value}
use Rattle.grid_jsonl.specs.Outcomes.{lines}
use Rattle.grid_cli.specs.Findings.{absent_object, end_object, found_object, is_told_at, list_objects, told_count}
use Rattle.grid_cli.specs.Screen.{all_of, answer_objects, findings_objects, screened_objects, state_after, variant_of}
use Rattle.grid_told.specs.Held.{IsUnsigned}
use Rattle.grid_told.specs.Shapes.{IsReadable, IsReadBack}
use Rattle.grid_told.proofs.Each.{each_append}
use Rattle.grid_told.proofs.Fields.{text_of, natural_of, at}
use Rattle.grid_told.proofs.Lines.{wholes_of}
use Rattle.grid_told.proofs.ReadBack.{all_read}
use Rattle.grid_told.proofs.Readable.{word_readable, text_readable, natural_readable, ordered_readable}
use Rattle.grid_told_forms.specs.Findings as forms
use Rattle.grid_told_forms.specs.Findings.{Screened, IsScreened, found_objects, object_of, told_of}
use Rattle.grid_told_forms.proofs.Between.{same_between}
use Rattle.grid_told_forms.proofs.Findings.{all_back, all_readable, told_in}
use Rattle.grid_told_outputs.specs.Screen.{Absent, Findings, IsAnswer, answer_of, left_of, screened_at, screened_of}
use Rattle.grid_told_outputs.specs.Laws.{ScreenIsReadBack, ScreenIsTold}
use Rattle.grid_told_outputs.proofs.Steps.{state_readable, state_told}

-- ---- the lines between the first and the last

-- those of the contingencies, or the one that no live variant has the name
abbrev between : ScreenJob → Option State → List Data
between screen None = absent_object (variant_of screen) ∷ []
between screen (Some state) = found_objects screen.format state.structure (screened_of screen state)

-- the last line
abbrev end_of : ScreenJob → Option State → Data
end_of screen None = end_object screen.only 0 0
end_of screen (Some state) = end_object screen.only (told_count screen.only state (all_of screen state)) (left_out screen.only state screen.contingencies screen.each)

all_found : (screen : ScreenJob) (state : State) → list_objects screen.format screen.only state 0 (all_of screen state) ≡ found_objects screen.format state.structure (screened_of screen state)
unfolding list_objects found_objects screened_of found_object object_of screened_at
all_found screen state =
    sym (map_twice (object_of screen.format state.structure) (screened_at state) (filter (is_told_at screen.only state) (enumerate_from 0 (all_of screen state))))

answer_is : (screen : ScreenJob) (o : Option State) → answer_objects screen o ≡ between screen o ++ end_of screen o ∷ []
unfolding findings_objects
answer_is screen None = refl
answer_is screen (Some state) = ap (λ ds. ds ++ end_of screen (Some state) ∷ []) (all_found screen state)

whole : (history : History) (screen : ScreenJob) → screened_objects history screen
    ≡ state_value (journal_of history.origin history.steps) ∷ (between screen (state_after history (variant_of screen)) ++ end_of screen (state_after history (variant_of screen)) ∷ [])
unfolding screened_objects
whole history screen = ap (λ ds. state_value (journal_of history.origin history.steps) ∷ ds) (answer_is screen (state_after history (variant_of screen)))

-- ---- readable

absent_readable : (name : List ℕ) → IsUtf8 name → IsReadable 6 (absent_object name)
unfolding absent_object
absent_readable name h = ordered_readable 5 _ refl (word_readable 5 _ refl, (text_readable 5 name h, tt))

end_readable : (only : Told) (told count : ℕ) → IsUnsigned told → IsUnsigned count → IsReadable 6 (end_object only told count)
unfolding end_object
end_readable whose.All told count few less = ordered_readable 5 _ refl (word_readable 5 _ refl, (natural_readable 5 told few, tt))
end_readable whose.Losses told count few less = ordered_readable 5 _ refl (word_readable 5 _ refl, (natural_readable 5 told few, (natural_readable 5 count less, tt)))

between_readable : (screen : ScreenJob) (o : Option State) → IsAnswer screen o → AllByRecursion (IsReadable 6) (between screen o)
between_readable screen None h = (absent_readable (variant_of screen) h, tt)
between_readable screen (Some state) h = all_readable screen.format state.structure (screened_of screen state) (each_of (IsScreened state.structure) (screened_of screen state) h.screened)

last_readable : (screen : ScreenJob) (o : Option State) → IsAnswer screen o → IsReadable 6 (end_of screen o)
last_readable screen None h = end_readable screen.only 0 0 (omega arith) (omega arith)
last_readable screen (Some state) h = end_readable screen.only _ _ h.told h.left

pub screen_is_read_back : ScreenIsReadBack
screen_is_read_back history screen h =
    let o = state_after history (variant_of screen) in
    let first = state_value (journal_of history.origin history.steps) in
    let all = first ∷ (between screen o ++ end_of screen o ∷ []) in
    let readable : AllByRecursion (IsReadable 6) all =
    (state_readable (journal_of history.origin history.steps) h.journal, each_append (IsReadable 6) (between screen o) (end_of screen o ∷ []) (between_readable screen o h.answer) (last_readable screen o h.answer, tt))
    in
    subst (All IsReadBack) (sym (whole history screen)) (of_each IsReadBack all (all_read all readable))

-- ---- told

-- how many are left out
left_back : (only : Told) (told count : ℕ) → option_map natural_of (get (codes "left_out") (end_object only told count)) ≡ left_of only count
unfolding end_object ordered
left_back whose.All told count = refl
left_back whose.Losses told count = refl

left_said : (screen : ScreenJob) (o : Option State) → Option ℕ
left_said screen None = left_of screen.only 0
left_said screen (Some state) = left_of screen.only (left_out screen.only state screen.contingencies screen.each)

end_back : (screen : ScreenJob) (o : Option State) → option_map natural_of (get (codes "left_out") (end_of screen o)) ≡ left_said screen o
unfolding left_said
end_back screen None = left_back screen.only 0 0
end_back screen (Some state) = left_back screen.only (told_count screen.only state (all_of screen state)) (left_out screen.only state screen.contingencies screen.each)

name_back : (name : List ℕ) → text_of (at (codes "variant") (absent_object name)) ≡ name
unfolding absent_object ordered
name_back name = refl

absent_kind : (name : List ℕ) → text_of (at (codes "kind") (absent_object name)) ≡ codes "no_variant"
unfolding absent_object ordered
absent_kind name = refl

found_kind : (format : Format) (net : Network) (s : Screened) → text_of (at (codes "kind") (object_of format net s)) ≡ codes "contingency"
unfolding object_of contingency_object ordered
found_kind format net s = refl

abbrev first_kind : List Data → List ℕ
first_kind [] = []
first_kind (d ∷ ds) = text_of (at (codes "kind") d)

-- a line that no live variant has the name is none of a contingency
apart : {A : Type 0} (name : List ℕ) (format : Format) (net : Network) (screened : List Screened) → absent_object name ∷ [] ≡ found_objects format net screened → A
unfolding found_objects
apart name format net [] e = absurd (cc)
apart name format net (s ∷ screened) e =
    let same : codes "no_variant" ≡ codes "contingency" = sym (absent_kind name) ∙ ap first_kind e ∙ found_kind format net s in
    absurd (cc)

abbrev first_name : List Data → List ℕ
first_name [] = []
first_name (d ∷ ds) = text_of (at (codes "variant") d)

same_answer : (screen also : ScreenJob) (o p : Option State) → IsAnswer screen o → IsAnswer also p → between screen o ≡ between also p → left_said screen o ≡ left_said also p → answer_of screen o ≡ answer_of also p
unfolding left_said
same_answer screen also None None h k e left = ap₂ (λ n l. Absent n l) (sym (name_back (variant_of screen)) ∙ ap first_name e ∙ name_back (variant_of also)) left
same_answer screen also None (Some state) h k e left = apart (variant_of screen) also.format state.structure (screened_of also state) e
same_answer screen also (Some state) None h k e left = apart (variant_of also) screen.format state.structure (screened_of screen state) (sym e)
same_answer screen also (Some state) (Some other) h k e left =
    let found = each_of (IsScreened state.structure) (screened_of screen state) h.screened in
    let beside = each_of (IsScreened other.structure) (screened_of also other) k.screened in
    ap₂ (λ (ts : List forms.Told) l. Findings ts l)
    (sym (all_back screen.format state.structure (screened_of screen state) found) ∙ ap (map told_in) e ∙ all_back also.format other.structure (screened_of also other) beside) left

pub screen_is_told : ScreenIsTold
screen_is_told history other screen also h k e =
    let journal = journal_of history.origin history.steps in
    let second = journal_of other.origin other.steps in
    let o = state_after history (variant_of screen) in
    let p = state_after other (variant_of also) in
    let same = same_between (state_value journal) (state_value second) (end_of screen o) (end_of also p) (between screen o) (between also p)
    (state_readable journal h.journal).wholes (state_readable second k.journal).wholes (last_readable screen o h.answer).wholes (last_readable also p k.answer).wholes
    (wholes_of (between screen o) (between_readable screen o h.answer)) (wholes_of (between also p) (between_readable also p k.answer))
    (sym (ap lines (whole history screen)) ∙ e ∙ ap lines (whole other also)) in
    record {
      steps = state_told journal second h.journal k.journal same.first_is;
      answer = same_answer screen also o p h.answer k.answer same.between (sym (end_back screen o) ∙ ap (λ d. option_map natural_of (get (codes "left_out") d)) same.last_is ∙ end_back also p);
    }
