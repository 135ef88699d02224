use Rattle.std.proofs.Common.{◌≡◌, sym, ap, ◌∙◌, ℕ, Bool, true, false, cond, List, [], ◌∷◌, ◌++◌, map}
use Rattle.std.specs.Prelude.{Ok}
use Rattle.std.specs.Str.{bytes_eq}
use Rattle.grid_json.specs.declared.command.Verb.TheVariants as verbs
use Rattle.grid_json.specs.declared.fault.Reason.TheVariants.{Unknown}
use Rattle.grid_json.specs.Reading.{or_fault, word_among}
use Rattle.grid_json.specs.Command.{plain_words, edit_words}
use Rattle.grid_json.proofs.command.verb_named.Goals as goal

-- a word that is found among some is found among these and more
among_front : {A : Type 0} (words more : List (List ℕ × A)) (word : List ℕ) (x : A) → word_among words word ≡ Ok x → word_among (words ++ more) word ≡ Ok x
among_front [] more word x h = absurd cc
among_front (w ∷ words) more word x h = by (bytes_eq word w.0) h (among_front words more word x)
  where
    by : (same : Bool) → cond same (Ok w.1) (word_among words word) ≡ Ok x → (word_among words word ≡ Ok x → word_among (words ++ more) word ≡ Ok x) → cond same (Ok w.1) (word_among (words ++ more) word) ≡ Ok x
    by true here rest = here
    by false later rest = rest later

pub returns-in-Some : goal.returns-in-Some
returns-in-Some c =
    sym (among_front plain_words (map (λ w. (w.0, verbs.Change w.1)) edit_words) c.args.word.now c.in-Some.verb
    (sym c.plain_verb.ensures ∙ ap (or_fault Unknown) c.in-Some.is))
