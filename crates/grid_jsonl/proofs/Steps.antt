-- Steps from a place on, the first of them that was refused, and the warning of it.
use Rattle.std.proofs.Common.{◌≡◌, refl, sym, ap, ◌∙◌, ℕ, suc, ◌+◌, ◌<◌, ◌≤◌, List, ◌∷◌, ◌++◌, drop, take, get_or, length, Bool, true, false, cond, Option, Some, None, add-one, append_assoc, Result}
use Rattle.std.specs.Prelude.{find, ◌==◌, codes, decimal}
use Rattle.std.specs.List.{count_by}
use Rattle.std.proofs.Math.Seq.{drop-cons}
use Rattle.std.proofs.lemmas.List.{drop_all}
use Rattle.grid_core.specs.declared.journal.Entry.{Entry}
use Rattle.grid_report.specs.Puts.{Puts}
use Rattle.grid_jsonl.specs.Steps.{Step, step_of, step_at, steps_from, steps, is_refused, first_refused, refused_count, told_text, warning_of}
use Rattle.grid_jsonl.proofs.Puts.{put_with}

-- the first refused step from a place on
abbrev pub refused_from : List Entry → ℕ → Option Step
refused_from journal place = find (λ s. is_refused s.entry.reply) (steps_from journal place (drop place journal))

pub from_start : (journal : List Entry) → refused_from journal 0 ≡ first_refused journal
unfolding first_refused steps
from_start journal = refl

here : (journal rest : List Entry) (place : ℕ) (entry : Entry) (refused : Bool) → is_refused entry.reply ≡ refused
    → find (λ s. is_refused s.entry.reply) (steps_from journal place (entry ∷ rest))
    ≡ cond refused (Some (step_at journal place entry)) (find (λ s. is_refused s.entry.reply) (steps_from journal (suc place) rest))
unfolding steps_from step_at
here journal rest place entry refused h =
    ap (λ b. cond b (Some (step_at journal place entry)) (find (λ s. is_refused s.entry.reply) (steps_from journal (suc place) rest))) h

split : (journal : List Entry) (place : ℕ) (entry : Entry) → place < length journal → entry ≡ get_or journal place entry → drop place journal ≡ entry ∷ drop (suc place) journal
split journal place entry lt is = drop-cons journal place entry lt ∙ ap (λ x. x ∷ drop (suc place) journal) (sym is)

pub refused_here : (journal : List Entry) (place : ℕ) (entry : Entry) → place < length journal → entry ≡ get_or journal place entry → is_refused entry.reply ≡ true
    → refused_from journal place ≡ Some (step_of place (count_by (λ e. e.worker == entry.worker) (take (place + 1) journal)) entry)
unfolding step_at
refused_here journal place entry lt is h =
    ap (λ l. find (λ s. is_refused s.entry.reply) (steps_from journal place l)) (split journal place entry lt is)
    ∙ here journal (drop (suc place) journal) place entry true h
    ∙ ap (λ n. Some (step_of place (count_by (λ e. e.worker == entry.worker) (take n journal)) entry)) (sym (add-one place))

pub refused_later : (journal : List Entry) (place : ℕ) (entry : Entry) → place < length journal → entry ≡ get_or journal place entry → is_refused entry.reply ≡ false
    → refused_from journal place ≡ refused_from journal (place + 1)
refused_later journal place entry lt is h =
    ap (λ l. find (λ s. is_refused s.entry.reply) (steps_from journal place l)) (split journal place entry lt is)
    ∙ here journal (drop (suc place) journal) place entry false h
    ∙ ap (λ n. refused_from journal n) (sym (add-one place))

pub none_refused : (journal : List Entry) (place : ℕ) → length journal ≤ place → refused_from journal place ≡ None
unfolding steps_from
none_refused journal place h = ap (λ l. find (λ s. is_refused s.entry.reply) (steps_from journal place l)) (drop_all place journal h)

-- ---- the warning

abbrev pub counts_text : List Entry → List ℕ
counts_text journal = codes "grid: warning: " ++ decimal (refused_count journal) ++ codes " of " ++ decimal (length journal) ++ codes " commands refused; the first: worker "

pub warned : {E : Type 0} {told next : List ℕ} {r : Result (Unit {0}) E} (journal : List Entry) (s : Step) (old counts : List ℕ) → counts ≡ old ++ counts_text journal → told ≡ counts ++ told_text s
    → Puts told (codes "\n") next r → Puts old (warning_of journal (Some s)) next r
unfolding warning_of
warned journal s old counts a b p =
    put_with (λ d. d ∙ ap (λ l. l ++ codes "\n") (b ∙ ap (λ l. l ++ told_text s) a ∙ append_assoc old (counts_text journal) (told_text s))
    ∙ append_assoc old (counts_text journal ++ told_text s) (codes "\n")) p
