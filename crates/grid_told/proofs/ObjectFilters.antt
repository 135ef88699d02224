-- Objects that are picked out of a list.
use Rattle.std.proofs.Common.{◌≡◌, Bool, true, false, List, [], ◌∷◌, ◌++◌, filter, cond, refl, ap, ap₂, ◌∙◌, append-nil}
use Rattle.std.specs.List.{AllByRecursion}
use Rattle.std.proofs.lemmas.List.Elements.{filter-append}

-- each passes the test, or none does
abbrev pub Passing : {A : Type 0} → (A → Bool) → Bool → List A → Type 0
Passing test b xs = AllByRecursion (λ x. test x ≡ b) xs

pub kept : {A : Type 0} (test : A → Bool) (xs : List A) → Passing test true xs → filter test xs ≡ xs
kept test [] h = refl
kept test (x ∷ xs) h = ap (λ b. cond b (x ∷ filter test xs) (filter test xs)) h.0 ∙ ap (λ l. x ∷ l) (kept test xs h.1)

pub left_out : {A : Type 0} (test : A → Bool) (xs : List A) → Passing test false xs → filter test xs ≡ []
left_out test [] h = refl
left_out test (x ∷ xs) h = ap (λ b. cond b (x ∷ filter test xs) (filter test xs)) h.0 ∙ left_out test xs h.1

-- the part of which each passes, before one of which none does
pub front : {A : Type 0} (test : A → Bool) (xs ys : List A) → Passing test true xs → Passing test false ys → filter test (xs ++ ys) ≡ xs
front test xs ys h k = filter-append test xs ys ∙ ap₂ (λ a b. a ++ b) (kept test xs h) (left_out test ys k) ∙ append-nil xs

-- and behind one
pub back : {A : Type 0} (test : A → Bool) (xs ys : List A) → Passing test false xs → Passing test true ys → filter test (xs ++ ys) ≡ ys
back test xs ys h k = filter-append test xs ys ∙ ap₂ (λ a b. a ++ b) (left_out test xs h) (kept test ys k)
