-- What holds of each element of lists that are made of others.
use Rattle.std.proofs.Common.{Bool, true, false, List, [], ◌∷◌, ◌++◌, map, filter, cond}
use Rattle.std.specs.List.{AllByRecursion, flat_map}

pub each_append : {A : Type 0} (P : A → Type 0) (xs ys : List A) → AllByRecursion P xs → AllByRecursion P ys → AllByRecursion P (xs ++ ys)
each_append P [] ys h k = k
each_append P (x ∷ xs) ys h k = (h.0, each_append P xs ys h.1 k)

pub each_map : {A B : Type 0} (P : A → Type 0) (Q : B → Type 0) (f : A → B) → ((x : A) → P x → Q (f x)) → (xs : List A) → AllByRecursion P xs → AllByRecursion Q (map f xs)
each_map P Q f g [] h = tt
each_map P Q f g (x ∷ xs) h = (g x h.0, each_map P Q f g xs h.1)

pub each_flat : {A B : Type 0} (P : A → Type 0) (Q : B → Type 0) (f : A → List B) → ((x : A) → P x → AllByRecursion Q (f x)) → (xs : List A) → AllByRecursion P xs → AllByRecursion Q (flat_map f xs)
each_flat P Q f g [] h = tt
each_flat P Q f g (x ∷ xs) h = each_append Q (f x) (flat_map f xs) (g x h.0) (each_flat P Q f g xs h.1)

-- where it holds of whatever is there
pub all_of : {A : Type 0} (P : A → Type 0) → ((x : A) → P x) → (xs : List A) → AllByRecursion P xs
all_of P g [] = tt
all_of P g (x ∷ xs) = (g x, all_of P g xs)

pub each_filter : {A : Type 0} (P : A → Type 0) (p : A → Bool) (xs : List A) → AllByRecursion P xs → AllByRecursion P (filter p xs)
each_filter P p [] h = tt
each_filter P p (x ∷ xs) h = by (p x) (each_filter P p xs h.1)
  where
    by : (b : Bool) → AllByRecursion P (filter p xs) → AllByRecursion P (cond b (x ∷ filter p xs) (filter p xs))
    by true rest = (h.0, rest)
    by false rest = rest
