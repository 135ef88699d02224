-- Lists that have the same pairs, in whatever order, and however often.
use Rattle.std.proofs.Common.{◌≡◌, refl, sym, ap, ◌∙◌, ℕ, ◌<◌, Bool, true, false, not, cond, ◌&&◌, ◌||◌, List, [], ◌∷◌, ◌++◌, length, get_or, map, filter, reverse}
use Rattle.std.specs.List.{list_any}
use Rattle.std.proofs.lemmas.Bool.{true≢false, eqb-true, eq-eqb, and_parts, and_from}
use Rattle.std.proofs.lemmas.List.{get_or_default}
use Rattle.std.proofs.lemmas.List.Folds.{list_any-append, list_any_at, Any-from_list_any}
use Rattle.std.proofs.lemmas.List.Sorted.{IsPermutation-reverse, list_any-IsPermutation}
use Rattle.std.specs.Prelude.{eqb}
use Rattle.grid_unions.specs.Halves.{HaveSame}
use Rattle.grid_unions.proofs.Orders.{AreAmong}

-- ---- tests over lists

pub any_map : {X Y : Type 0} (p : Y → Bool) (f : X → Y) (xs : List X) → list_any p (map f xs) ≡ list_any (λ x. p (f x)) xs
any_map p f [] = refl
any_map p f (x ∷ xs) = ap (λ t. p (f x) || t) (any_map p f xs)

pub any_filter : {X : Type 0} (p q : X → Bool) (xs : List X) → list_any q (filter p xs) ≡ list_any (λ x. p x && q x) xs
any_filter {X} p q [] = refl
any_filter {X} p q (x ∷ xs) = by (p x) (any_filter p q xs)
  where
    rest : List X
    rest = filter p xs

    by : (t : Bool) → list_any q rest ≡ list_any (λ y. p y && q y) xs → list_any q (cond t (x ∷ rest) rest) ≡ ((t && q x) || list_any (λ y. p y && q y) xs)
    by true e = ap (λ r. q x || r) e
    by false e = e

pub any_reverse : {X : Type 0} (p : X → Bool) (xs : List X) → list_any p (reverse xs) ≡ list_any p xs
any_reverse p xs = sym (list_any-IsPermutation p xs (reverse xs) (IsPermutation-reverse xs))

pub any_never : {X : Type 0} (p : X → Bool) → ((x : X) → p x ≡ false) → (xs : List X) → list_any p xs ≡ false
any_never p h [] = refl
any_never p h (x ∷ xs) = ap (λ t. t || list_any p xs) (h x) ∙ any_never p h xs

or_pairs : (a b c d : Bool) → ((a || b) || (c || d)) ≡ ((a || c) || (b || d))
or_pairs true b c d = refl
or_pairs false true true d = refl
or_pairs false true false d = refl
or_pairs false false c d = refl

pub or_comm : (a b : Bool) → (a || b) ≡ (b || a)
or_comm true true = refl
or_comm true false = refl
or_comm false true = refl
or_comm false false = refl

or_assoc : (a b c : Bool) → (a || (b || c)) ≡ ((a || b) || c)
or_assoc true b c = refl
or_assoc false b c = refl

-- what one of two tests finds
pub any_either : {X : Type 0} (p q r : X → Bool) → ((x : X) → (p x || q x) ≡ r x) → (xs : List X) → (list_any p xs || list_any q xs) ≡ list_any r xs
any_either p q r h [] = refl
any_either p q r h (x ∷ xs) =
    or_pairs (p x) (list_any p xs) (q x) (list_any q xs)
    ∙ ap (λ t. t || (list_any p xs || list_any q xs)) (h x) ∙ ap (λ t. r x || t) (any_either p q r h xs)

-- ---- places

one_or_other : (out any found : Bool) → (out ≡ true → any ≡ true) → ((any && (not out && found)) || (not any && found)) ≡ (not out && found)
one_or_other true true found h = refl
one_or_other true false found h = absurd (true≢false (sym (h refl)))
one_or_other false true true h = refl
one_or_other false true false h = refl
one_or_other false false found h = refl

never_both : (out any found : Bool) → (any ≡ true → out ≡ true) → (any && (not out && found)) ≡ false
never_both true true found h = refl
never_both true false found h = refl
never_both false true found h = absurd (true≢false (sym (h refl)))
never_both false false found h = refl

-- what some places give, and what others of them give, is what all of them give
pub parted : {X : Type 0} (test : X → Bool) (at : ℕ → X) (out any : ℕ → Bool) → ((x : ℕ) → out x ≡ true → any x ≡ true) → (pending : List ℕ) (joined : List X)
    → list_any test (map at (filter (λ x. not (out x)) (filter any pending)) ++ (reverse (map at (filter (λ x. not (any x)) pending)) ++ joined))
    ≡ list_any test (map at (filter (λ x. not (out x)) pending) ++ joined)
parted test at out any h pending joined =
    list_any-append test (map at (filter (λ x. not (out x)) (filter any pending))) (reverse (map at (filter (λ x. not (any x)) pending)) ++ joined)
    ∙ ap (λ t. t || list_any test (reverse (map at (filter (λ x. not (any x)) pending)) ++ joined)) first
    ∙ ap (λ t. list_any (λ x. any x && (not (out x) && test (at x))) pending || t)
    (list_any-append test (reverse (map at (filter (λ x. not (any x)) pending))) joined ∙ ap (λ t. t || list_any test joined) second)
    ∙ or_assoc (list_any (λ x. any x && (not (out x) && test (at x))) pending) (list_any (λ x. not (any x) && test (at x)) pending) (list_any test joined)
    ∙ ap (λ t. t || list_any test joined)
    (any_either (λ x. any x && (not (out x) && test (at x))) (λ x. not (any x) && test (at x)) (λ x. not (out x) && test (at x)) (λ x. one_or_other (out x) (any x) (test (at x)) (h x)) pending ∙ sym whole)
    ∙ sym (list_any-append test (map at (filter (λ x. not (out x)) pending)) joined)
  where
    first : list_any test (map at (filter (λ x. not (out x)) (filter any pending))) ≡ list_any (λ x. any x && (not (out x) && test (at x))) pending
    first =
        any_map test at (filter (λ x. not (out x)) (filter any pending)) ∙ any_filter (λ x. not (out x)) (λ x. test (at x)) (filter any pending)
        ∙ any_filter any (λ x. not (out x) && test (at x)) pending

    second : list_any test (reverse (map at (filter (λ x. not (any x)) pending))) ≡ list_any (λ x. not (any x) && test (at x)) pending
    second =
        any_reverse test (map at (filter (λ x. not (any x)) pending)) ∙ any_map test at (filter (λ x. not (any x)) pending)
        ∙ any_filter (λ x. not (any x)) (λ x. test (at x)) pending

    whole : list_any test (map at (filter (λ x. not (out x)) pending)) ≡ list_any (λ x. not (out x) && test (at x)) pending
    whole = any_map test at (filter (λ x. not (out x)) pending) ∙ any_filter (λ x. not (out x)) (λ x. test (at x)) pending

-- places that are all left out give nothing
pub none_left : {X : Type 0} (test : X → Bool) (at : ℕ → X) (out any : ℕ → Bool) → ((x : ℕ) → any x ≡ true → out x ≡ true) → (pending : List ℕ) (joined : List X)
    → list_any test (map at (filter (λ x. not (out x)) (filter any pending)) ++ joined) ≡ list_any test joined
none_left test at out any h pending joined =
    list_any-append test (map at (filter (λ x. not (out x)) (filter any pending))) joined
    ∙ ap (λ t. t || list_any test joined)
    (any_map test at (filter (λ x. not (out x)) (filter any pending)) ∙ any_filter (λ x. not (out x)) (λ x. test (at x)) (filter any pending)
    ∙ any_filter any (λ x. not (out x) && test (at x)) pending ∙ any_never (λ x. any x && (not (out x) && test (at x))) (λ x. never_both (out x) (any x) (test (at x)) (h x)) pending)

-- more pairs on both sides
pub more_same : (first second own : List (ℕ × ℕ)) → HaveSame first second → HaveSame (reverse own ++ first) (second ++ own)
more_same first second own h = λ test.
    list_any-append test (reverse own) first
    ∙ ap (λ t. t || list_any test first) (any_reverse test own)
    ∙ ap (λ t. list_any test own || t) (h test)
    ∙ or_comm (list_any test own) (list_any test second)
    ∙ sym (list_any-append test second own)

-- ---- places of pairs

abbrev same_pair : ℕ × ℕ → ℕ × ℕ → Bool
same_pair p q = eqb p.0 q.0 && eqb p.1 q.1

same_pair-true : (p q : ℕ × ℕ) → same_pair p q ≡ true → q ≡ p
same_pair-true (a, b) (c, d) e =
    let parts = and_parts (eqb a c) (eqb b d) e in
    let f : c ≡ a = sym (eqb-true a c parts.0) in
    let g : d ≡ b = sym (eqb-true b d parts.1) in
    ap (λ x. (x, d)) f ∙ ap (λ y. (a, y)) g

pub among_from_same : (first second : List (ℕ × ℕ)) → HaveSame first second → AreAmong first second
among_from_same first second h = record { found = λ k lt. at k lt }
  where
    at : (k : ℕ) → k < length first → (j : ℕ) × (j < length second) × (get_or second j (0, 0) ≡ get_or first k (0, 0))
    at k lt =
        let p : ℕ × ℕ = get_or first k (0, 0) in
        let own : same_pair p p ≡ true = and_from (eqb p.0 p.0) (eqb p.1 p.1) (eq-eqb p.0 p.0 refl) (eq-eqb p.1 p.1 refl) in
        let any = Any-from_list_any (same_pair p) second (sym (h (same_pair p)) ∙ list_any_at (same_pair p) first k (0, 0) lt own) in
        (any.0, any.2, get_or_default second any.0 (0, 0) any.1 any.2 ∙ any.3 ∙ same_pair-true p any.1 any.4)
