-- Lists of objects between a first one and a last one, by their lines.
use Rattle.std.proofs.Common.{◌≡◌, List, [], ◌∷◌, ◌++◌, drop, refl, sym, ap, ◌∙◌}
use Rattle.std.specs.List.{AllByRecursion}
use Rattle.serde_json.specs.Data.{Data, null}
use Rattle.grid_jsonl.specs.Outcomes.{lines}
use Rattle.grid_told.specs.Trees.{HasWholes}
use Rattle.grid_told.proofs.Each.{each_append}
use Rattle.grid_told.proofs.Lines.{same_lines}

abbrev first_or : Data → List Data → Data
first_or d [] = d
first_or d (x ∷ xs) = x

-- all but the last, and the last
abbrev front_by : Data → List Data → List Data → List Data
front_by d [] rest = []
front_by d (x ∷ xs) rest = d ∷ rest

abbrev front_of : List Data → List Data
front_of [] = []
front_of (d ∷ ds) = front_by d ds (front_of ds)

abbrev last_or : Data → List Data → Data
last_or d [] = d
last_or d (x ∷ xs) = last_or x xs

front_back : (ds : List Data) (last : Data) → front_of (ds ++ last ∷ []) ≡ ds
front_back [] last = refl
front_back (d ∷ []) last = refl
front_back (d ∷ x ∷ ds) last = ap (λ l. d ∷ l) (front_back (x ∷ ds) last)

last_back : (d : Data) (ds : List Data) (last : Data) → last_or d (ds ++ last ∷ []) ≡ last
last_back d [] last = refl
last_back d (x ∷ ds) last = last_back x ds last

pub record SameBetween (first also last end : Data) (ds es : List Data) : Type 0 where
  pub first_is : first ≡ also
  pub between : ds ≡ es
  pub last_is : last ≡ end

pub same_between : (first also last end : Data) (ds es : List Data) → HasWholes first → HasWholes also → HasWholes last → HasWholes end
    → AllByRecursion HasWholes ds → AllByRecursion HasWholes es → lines (first ∷ (ds ++ last ∷ [])) ≡ lines (also ∷ (es ++ end ∷ [])) → SameBetween first also last end ds es
same_between first also last end ds es a b c d h k e =
    let whole : first ∷ (ds ++ last ∷ []) ≡ also ∷ (es ++ end ∷ []) =
    same_lines (first ∷ (ds ++ last ∷ [])) (also ∷ (es ++ end ∷ [])) (a, each_append HasWholes ds (last ∷ []) h (c, tt)) (b, each_append HasWholes es (end ∷ []) k (d, tt)) e in
    let rest : ds ++ last ∷ [] ≡ es ++ end ∷ [] = ap (drop 1) whole in
    record { first_is = ap (first_or first) whole; between = sym (front_back ds last) ∙ ap front_of rest ∙ front_back es end; last_is = sym (last_back null ds last) ∙ ap (last_or null) rest ∙ last_back null es end }
