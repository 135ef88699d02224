-- Sums over lists, and over what tests pass.
use Rattle.std.proofs.Common.{◌≡◌, refl, sym, ap, ◌∙◌, ℤ, pos, Bool, true, false, cond, ◌||◌, List, [], ◌∷◌, ◌++◌, map, arith, inl, inr, ℕ}
use Rattle.std.specs.Prelude.{◌+ℤ◌, neg_ℤ, filter, flat_map, fold}
use Rattle.std.specs.List.{list_any}
use Rattle.std.proofs.lemmas.Int.{ints}
use Rattle.grid_outages.proofs.Members.{Among}

module _ {X : Type 0} where
  abbrev pub sum_of : (X → ℤ) → List X → ℤ
  sum_of f [] = pos 0
  sum_of f (x ∷ xs) = f x +ℤ sum_of f xs

  pub fold_sum : (f : X → ℤ) (t : ℤ) (xs : List X) → fold (λ total x. total +ℤ f x) t xs ≡ t +ℤ sum_of f xs
  fold_sum f t [] = omega (arith, ints)
  fold_sum f t (x ∷ xs) = omega (arith, ints, fold_sum f (t +ℤ f x) xs)

  pub sum-append : (f : X → ℤ) (xs ys : List X) → sum_of f (xs ++ ys) ≡ sum_of f xs +ℤ sum_of f ys
  sum-append f [] ys = omega (arith, ints)
  sum-append f (x ∷ xs) ys = omega (arith, ints, sum-append f xs ys)

  pub sum_alike : (f g : X → ℤ) (xs : List X) → ((x : X) → Among x xs → f x ≡ g x) → sum_of f xs ≡ sum_of g xs
  sum_alike f g [] h = refl
  sum_alike f g (x ∷ xs) h = rw (h x (inl refl), sum_alike f g xs (λ y i. h y (inr i))) refl

  -- what each item adds where a test passes
  abbrev pub passing_only : (X → Bool) → (X → ℤ) → X → ℤ
  passing_only p f x = cond (p x) (f x) (pos 0)

  pub sum-filter : (p : X → Bool) (f : X → ℤ) (xs : List X) → sum_of f (filter p xs) ≡ sum_of (passing_only p f) xs
  sum-filter p f [] = refl
  sum-filter p f (x ∷ xs) = by (p x) (sum-filter p f xs)
    where
      by : (t : Bool) → sum_of f (filter p xs) ≡ sum_of (passing_only p f) xs → sum_of f (cond t (x ∷ filter p xs) (filter p xs)) ≡ cond t (f x) (pos 0) +ℤ sum_of (passing_only p f) xs
      by true again = ap (λ z. f x +ℤ z) again
      by false again = omega (arith, ints, again)

  pub sum-both : (f g : X → ℤ) (xs : List X) → sum_of (λ x. f x +ℤ g x) xs ≡ sum_of f xs +ℤ sum_of g xs
  sum-both f g [] = omega (arith, ints)
  sum-both f g (x ∷ xs) = omega (arith, ints, sum-both f g xs)

  pub sum-negated : (f : X → ℤ) (xs : List X) → sum_of (λ x. neg_ℤ (f x)) xs ≡ neg_ℤ (sum_of f xs)
  sum-negated f [] = omega (arith, ints)
  sum-negated f (x ∷ xs) = omega (arith, ints, sum-negated f xs)

  -- a sum that is made of two, one that is taken from the other
  pub sum-less : (f g h : X → ℤ) (xs : List X) → ((x : X) → Among x xs → f x +ℤ neg_ℤ (g x) ≡ h x) → sum_of f xs +ℤ neg_ℤ (sum_of g xs) ≡ sum_of h xs
  sum-less f g h xs same =
      let whole = sum_alike (λ x. f x +ℤ neg_ℤ (g x)) h xs same in
      omega (arith, ints, sum-both f (λ x. neg_ℤ (g x)) xs, sum-negated g xs, whole)

module _ {X Y : Type 0} where
  pub sum-map : (f : Y → ℤ) (g : X → Y) (xs : List X) → sum_of f (map g xs) ≡ sum_of (λ x. f (g x)) xs
  sum-map f g [] = refl
  sum-map f g (x ∷ xs) = ap (λ z. f (g x) +ℤ z) (sum-map f g xs)

  pub sum-flat : (f : Y → ℤ) (g : X → List Y) (xs : List X) → sum_of f (flat_map g xs) ≡ sum_of (λ x. sum_of f (g x)) xs
  sum-flat f g [] = refl
  sum-flat f g (x ∷ xs) = sum-append f (g x) (flat_map g xs) ∙ ap (λ z. sum_of f (g x) +ℤ z) (sum-flat f g xs)

-- items that are in one of some sets at most are summed set by set
module _ {X : Type 0} (r : ℕ → X → Bool) (f : X → ℤ) (xs : List X) where
  abbrev pub in_any : List ℕ → X → Bool
  in_any ks x = list_any (λ k. r k x) ks

  abbrev pub AreApart : List ℕ → Type 0
  AreApart [] = Unit {0}
  AreApart (k ∷ ks) = ((x : X) → Among x xs → r k x ≡ true → in_any ks x ≡ false) × AreApart ks

  one_or : (k : ℕ) (ks : List ℕ) (x : X) → (r k x ≡ true → in_any ks x ≡ false) → passing_only (r k) f x +ℤ passing_only (in_any ks) f x ≡ passing_only (in_any (k ∷ ks)) f x
  one_or k ks x h = by (r k x) (in_any ks x) h
    where
      by : (s t : Bool) → (s ≡ true → t ≡ false) → cond s (f x) (pos 0) +ℤ cond t (f x) (pos 0) ≡ cond (s || t) (f x) (pos 0)
      by true t h = rw (h refl) (omega (arith, ints))
      by false t h = omega (arith, ints)

  pub set_by_set : (ks : List ℕ) → AreApart ks → sum_of (λ k. sum_of f (filter (r k) xs)) ks ≡ sum_of f (filter (in_any ks) xs)
  set_by_set [] h = sym (sum-filter (λ x. false) f xs ∙ zeros xs)
    where
      zeros : (ys : List X) → sum_of (λ (x : X). pos 0) ys ≡ pos 0
      zeros [] = refl
      zeros (y ∷ ys) = omega (arith, ints, zeros ys)
  set_by_set (k ∷ ks) h =
      let again = set_by_set ks h.1 in
      let first = sum-filter (r k) f xs in
      let rest = sum-filter (in_any ks) f xs in
      let all = sum-filter (in_any (k ∷ ks)) f xs in
      let each = sum_alike (λ x. passing_only (r k) f x +ℤ passing_only (in_any ks) f x) (passing_only (in_any (k ∷ ks)) f) xs (λ x i. one_or k ks x (h.0 x i)) in
      let two = sum-both (passing_only (r k) f) (passing_only (in_any ks) f) xs in
      omega (arith, ints, again, first, rest, all, each, two)
