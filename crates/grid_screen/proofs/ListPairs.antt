-- What holds of the pairs of two lists, and lists that are made part by part.
use Rattle.std.proofs.Common.{◌≡◌, refl, sym, ap, ◌∙◌, List, [], ◌∷◌, ◌++◌, map}
use Rattle.std.specs.Prelude.{flat_map}
use Rattle.std.proofs.lemmas.List.{map-append}
use Rattle.std.specs.List.{AllZip}

pub weaker : {X Y : Type 0} (P Q : X → Y → Type 0) (xs : List X) (ys : List Y) → ((x : X) (y : Y) → P x y → Q x y) → AllZip P xs ys → AllZip Q xs ys
weaker P Q [] [] f h = h
weaker P Q [] (y ∷ ys) f h = h
weaker P Q (x ∷ xs) [] f h = h
weaker P Q (x ∷ xs) (y ∷ ys) f h = (f x y h.0, weaker P Q xs ys f h.1)

-- what is made of parts is what is made of the whole
pub joined_parts : {X Y : Type 0} (f : X → Y) (parts : List (List X)) → flat_map (λ part. part) (map (map f) parts) ≡ map f (flat_map (λ part. part) parts)
joined_parts f [] = refl
joined_parts f (part ∷ parts) = ap (λ z. map f part ++ z) (joined_parts f parts) ∙ sym (map-append f part (flat_map (λ part. part) parts))
