-- Lines that are split at each newline.
use Rattle.std.proofs.Common.{◌≡◌, ℕ, ◌≤◌, List, [], ◌∷◌, ◌++◌, All, refl, ap, ◌∙◌, arith, append_assoc}
use Rattle.std.specs.Prelude.{nat_le}
use Rattle.std.specs.List.{AllByRecursion, list_all}
use Rattle.std.proofs.lemmas.Bool.{and_parts, ne_eqb, leb-true}
use Rattle.serde_json.specs.Written.{compact_text}
use Rattle.grid_print.proofs.Each.{of_each}
use Rattle.grid_jsonl.specs.Outcomes.{lines}
use Rattle.grid_told.specs.Splits.{onto_first, split_at_newlines}
use Rattle.grid_told.specs.Laws.{LinesAreApart, LinesAreSplit}
use Rattle.grid_told.proofs.Clear.{Clear, tree_clear}

each_by : (bytes : List ℕ) → Clear bytes → AllByRecursion (λ byte. 32 ≤ byte) bytes
each_by [] h = tt
each_by (x ∷ xs) h = let parts = and_parts (nat_le 32 x) (list_all (nat_le 32) xs) h in (leb-true 32 x parts.0, each_by xs parts.1)

each_clear : (bytes : List ℕ) → Clear bytes → All (λ byte. 32 ≤ byte) bytes
each_clear bytes h = of_each (λ byte. 32 ≤ byte) bytes (each_by bytes h)

pub lines_are_apart : LinesAreApart
lines_are_apart d = each_clear (compact_text d) (tree_clear d)

-- a text that has no newline is the first part
first_part : (text rest : List ℕ) → Clear text → split_at_newlines (text ++ 10 ∷ rest) ≡ text ∷ split_at_newlines rest
unfolding split_at_newlines onto_first
first_part [] rest h = refl
first_part (x ∷ xs) rest h =
    let parts = and_parts (nat_le 32 x) (list_all (nat_le 32) xs) h in
    rw (ne_eqb x 10 (λ e. omega (arith, leb-true 32 x parts.0))) (ap (onto_first x) (first_part xs rest parts.1))

pub lines_are_split : LinesAreSplit
unfolding split_at_newlines
lines_are_split [] = refl
lines_are_split (d ∷ ds) =
    ap split_at_newlines (append_assoc (compact_text d) (10 ∷ []) (lines ds))
    ∙ first_part (compact_text d) (lines ds) (tree_clear d)
    ∙ ap (λ l. compact_text d ∷ l) (lines_are_split ds)
