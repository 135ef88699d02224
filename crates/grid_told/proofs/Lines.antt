-- Equal lines are those of equal objects.
use Rattle.std.proofs.Common.{◌≡◌, ℕ, ◌+◌, List, [], ◌∷◌, ◌++◌, map, length, drop, refl, sym, ap, ap₂, ◌∙◌, arith}
use Rattle.std.specs.List.{AllByRecursion}
use Rattle.std.proofs.lemmas.List.{length-append}
use Rattle.serde_json.specs.Data.{Data}
use Rattle.serde_json.specs.Written.{compact_text}
use Rattle.grid_jsonl.specs.Outcomes.{lines}
use Rattle.grid_told.specs.Trees.{HasWholes}
use Rattle.grid_told.specs.Shapes.{IsReadable}
use Rattle.grid_told.specs.Splits.{split_at_newlines}
use Rattle.grid_told.proofs.Apart.{lines_are_split}
use Rattle.grid_told.proofs.TreeTexts.{tree_told}

abbrev text_or : List ℕ → List (List ℕ) → List ℕ
text_or d [] = d
text_or d (x ∷ xs) = x

abbrev texts_and_end : List Data → List (List ℕ)
texts_and_end ds = map compact_text ds ++ [] ∷ []

some_text : (ds : List Data) → length (texts_and_end ds) ≡ length (map compact_text ds) + 1
some_text ds = length-append (map compact_text ds) ([] ∷ [])

same_trees : (ds es : List Data) → AllByRecursion HasWholes ds → AllByRecursion HasWholes es → texts_and_end ds ≡ texts_and_end es → ds ≡ es
same_trees [] [] h k e = refl
same_trees [] (x ∷ es) h k e = let long = ap length e in absurd (omega (arith, long, some_text es))
same_trees (d ∷ ds) [] h k e = let long = ap length e in absurd (omega (arith, long, some_text ds))
same_trees (d ∷ ds) (x ∷ es) h k e = ap₂ (λ y ys. y ∷ ys) (tree_told d x h.0 k.0 (ap (text_or []) e)) (same_trees ds es h.1 k.1 (ap (drop 1) e))

pub same_lines : (ds es : List Data) → AllByRecursion HasWholes ds → AllByRecursion HasWholes es → lines ds ≡ lines es → ds ≡ es
same_lines ds es h k e = same_trees ds es h k (sym (lines_are_split ds) ∙ ap split_at_newlines e ∙ lines_are_split es)

pub wholes_of : (ds : List Data) → AllByRecursion (IsReadable 6) ds → AllByRecursion HasWholes ds
wholes_of [] h = tt
wholes_of (d ∷ ds) h = (h.0.wholes, wholes_of ds h.1)
