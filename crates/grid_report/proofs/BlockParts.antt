-- A list of blocks whose text is made part by part.
use Rattle.std.proofs.Common.{◌≡◌, refl, sym, ap, ◌∙◌, ℕ, List, [], ◌∷◌, ◌++◌, map, Ok, Err, Result}
use Rattle.std.specs.Prelude.{IfOk, MatchResult}
use Rattle.std.specs.List.{AllZip, flat_map}
use Rattle.std.proofs.lemmas.Grind.{flat_map-append}
use Rattle.std.proofs.lemmas.List.Folds.{flat_map-map}

-- where each result is right and gives a value, the values are what is made of the items
pub all_right : {X Y : Type 0} (E : Type 0) (f : X → Y) (xs : List X) (ys : List Y) → AllZip (λ (x : X) (r : Result Y E). IfOk r (λ y. y ≡ f x)) xs (map Ok ys) → ys ≡ map f xs
all_right E f [] [] h = refl
all_right E f [] (y ∷ ys) h = absurd h
all_right E f (x ∷ xs) [] h = absurd h
all_right E f (x ∷ xs) (y ∷ ys) h = ap (λ z. z ∷ ys) h.0 ∙ ap (λ z. f x ∷ z) (all_right E f xs ys h.1)

-- the items of parts are those of the whole, part by part
parts_joined : {X A : Type 0} (f : X → List A) (parts : List (List X)) → flat_map (λ part. flat_map f part) parts ≡ flat_map f (flat_map (λ part. part) parts)
parts_joined f [] = refl
parts_joined f (part ∷ rest) = ap (λ z. flat_map f part ++ z) (parts_joined f rest) ∙ sym (flat_map-append f part (flat_map (λ l. l) rest))

-- the texts of the parts, side by side, are the text of the whole
pub texts_joined : {X A : Type 0} (f : X → List A) (parts : List (List X)) (whole : List X) (texts : List (List A)) → flat_map (λ part. part) parts ≡ whole → texts ≡ map (flat_map f) parts → flat_map (λ t. t) texts ≡ flat_map f whole
texts_joined f parts whole texts cut made = ap (flat_map (λ t. t)) made ∙ flat_map-map (λ t. t) (flat_map f) parts ∙ parts_joined f parts ∙ ap (flat_map f) cut

-- what holds of a value that is there
pub where_ok : {T E : Type 0} (P Q : T → Type 0) (R : E → Type 0) (r : Result T E) → ((t : T) → P t → Q t) → MatchResult r P R → IfOk r Q
where_ok P Q R (Ok t) f h = f t h
where_ok P Q R (Err e) f h = tt

-- the texts of a portion are a front of what was still to come
pub portion_next : (report first rest blocks after line : List ℕ) → report ≡ first ++ rest → first ++ rest ≡ blocks ++ after → line ≡ blocks → report ≡ line ++ after
portion_next report first rest blocks after line p q e = p ∙ q ∙ ap (λ l. l ++ after) (sym e)
