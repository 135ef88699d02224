-- Texts that are put one after the other.
use Rattle.std.proofs.Common.{◌≡◌, refl, sym, ap, ◌∙◌, ℕ, ◌+◌, ◌<◌, ◌≤◌, Bool, true, List, [], ◌∷◌, ◌++◌, map, length, get_or, drop, append_assoc}
use Rattle.std.specs.List.{flat_map}
use Rattle.std.proofs.lemmas.List.{drop_more, drop_all}
use Rattle.json.specs.Print.{quoted}
use Rattle.serde_json.specs.Data.{Data, string}
use Rattle.serde_json.specs.View.{items_of}
use Rattle.serde_json.specs.Written.{comma_if, items_text}
use Rattle.grid_jsonl.specs.Trees.{field_text, more_text}

pub four_puts : (old a b c d x y z w : List ℕ) → a ≡ old ++ x → b ≡ a ++ y → c ≡ b ++ z → d ≡ c ++ w → d ≡ old ++ (((x ++ y) ++ z) ++ w)
four_puts old a b c d x y z w e f g h =
    h ∙ ap (λ t. t ++ w) (g ∙ ap (λ t. t ++ z) (f ∙ ap (λ t. t ++ y) e ∙ append_assoc old x y) ∙ append_assoc old (x ++ y) z) ∙ append_assoc old ((x ++ y) ++ z) w

pub five_puts : (old a b c d n x y z w v : List ℕ) → a ≡ old ++ x → b ≡ a ++ y → c ≡ b ++ z → d ≡ c ++ w → n ≡ d ++ v → n ≡ old ++ ((((x ++ y) ++ z) ++ w) ++ v)
five_puts old a b c d n x y z w v e f g h i = i ∙ ap (λ t. t ++ v) (four_puts old a b c d x y z w e f g h) ∙ append_assoc old (((x ++ y) ++ z) ++ w) v

-- ---- members

-- those of two lists, one behind the other
pub more_both : (fields others : List (List ℕ × Data)) → more_text (fields ++ others) ≡ more_text fields ++ more_text others
more_both [] others = refl
more_both (f ∷ fields) others = ap (λ z. field_text true f ++ z) (more_both fields others) ∙ sym (append_assoc (field_text true f) (more_text fields) (more_text others))

-- they are put one behind the other
pub more_put : (old first next : List ℕ) (fields others : List (List ℕ × Data)) → first ≡ old ++ more_text fields → next ≡ first ++ more_text others → next ≡ old ++ more_text (fields ++ others)
more_put old first next fields others e f = f ∙ ap (λ z. z ++ more_text others) e ∙ append_assoc old (more_text fields) (more_text others) ∙ ap (λ z. old ++ z) (sym (more_both fields others))

-- ---- an array of ids

-- what is left of an array, with its closing bracket
abbrev pub rest_text : Bool → List (List ℕ) → List ℕ
rest_text later ids = items_text later (items_of (map string ids))

module _ {X : Type 0} (f : X → List (List ℕ)) (xs : List X) (i : ℕ) (d : X) (lt : i < length xs) (out whole : List ℕ) (later : Bool) where
  -- an item without an id
  pub rest_skipped : f (get_or xs i d) ≡ [] → out ++ rest_text later (flat_map f (drop i xs)) ≡ whole → out ++ rest_text later (flat_map f (drop (i + 1) xs)) ≡ whole
  rest_skipped none was =
      ap (λ (z : List (List ℕ)). out ++ rest_text later (z ++ flat_map f (drop (i + 1) xs))) (sym none) ∙ ap (λ (z : List X). out ++ rest_text later (flat_map f z)) (sym (drop_more xs i d lt)) ∙ was

  -- an item with one
  pub rest_more : (id next : List ℕ) → f (get_or xs i d) ≡ id ∷ [] → next ≡ out ++ (comma_if later ++ quoted id) → out ++ rest_text later (flat_map f (drop i xs)) ≡ whole → next ++ rest_text true (flat_map f (drop (i + 1) xs)) ≡ whole
  rest_more id next one is was =
      let rest = rest_text true (flat_map f (drop (i + 1) xs)) in
      ap (λ z. z ++ rest) is ∙ append_assoc out (comma_if later ++ quoted id) rest ∙ ap (λ z. out ++ z) (append_assoc (comma_if later) (quoted id) rest)
      ∙ ap (λ (z : List (List ℕ)). out ++ rest_text later (z ++ flat_map f (drop (i + 1) xs))) (sym one) ∙ ap (λ (z : List X). out ++ rest_text later (flat_map f z)) (sym (drop_more xs i d lt)) ∙ was

-- nothing is left but the bracket
pub rest_none : {X : Type 0} (f : X → List (List ℕ)) (xs : List X) (i : ℕ) (out whole : List ℕ) (later : Bool) → length xs ≤ i → out ++ rest_text later (flat_map f (drop i xs)) ≡ whole → out ++ 93 ∷ [] ≡ whole
rest_none {X} f xs i out whole later most was = ap (λ (z : List X). out ++ rest_text later (flat_map f z)) (sym (drop_all i xs most)) ∙ was
