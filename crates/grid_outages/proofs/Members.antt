-- What stands in a list, and in lists that are made of it.
use Rattle.std.proofs.Common.{◌≡◌, refl, sym, ap, ◌∙◌, subst, ℕ, zero, suc, ◌+◌, Bool, true, false, cond, List, [], ◌∷◌, ◌++◌, map, inl, inr, ◌⊎◌, arith, get_or, Some}
use Rattle.std.specs.Prelude.{filter, slice_get}
use Rattle.std.specs.List.{list_any, flat_map, enumerate_from}
use Rattle.std.proofs.lemmas.Bool.{or_cases, or_left, or_right, false≢true}

abbrev pub Among : {X : Type 0} → X → List X → Type 0
Among x [] = ⊥
Among x (y ∷ ys) = (x ≡ y) ⊎ Among x ys

module _ {X : Type 0} where
  pub among_got : (xs : List X) (k : ℕ) (x : X) → slice_get xs k ≡ Some x → Among x xs
  among_got [] k x e = cc
  among_got (y ∷ ys) zero x e = inl cc
  among_got (y ∷ ys) (suc k) x e = inr (among_got ys k x e)

  pub got_among : (x : X) (xs : List X) → Among x xs → (k : ℕ) × (slice_get xs k ≡ Some x)
  got_among x [] i = absurd i
  got_among x (y ∷ ys) (inl e) = (0, ap (λ z. Some z) (sym e))
  got_among x (y ∷ ys) (inr i) = let r = got_among x ys i in (suc r.0, r.1)

  pub among_left : (x : X) (xs ys : List X) → Among x xs → Among x (xs ++ ys)
  among_left x [] ys i = absurd i
  among_left x (y ∷ xs) ys (inl e) = inl e
  among_left x (y ∷ xs) ys (inr i) = inr (among_left x xs ys i)

  pub among_right : (x : X) (xs ys : List X) → Among x ys → Among x (xs ++ ys)
  among_right x [] ys i = i
  among_right x (y ∷ xs) ys i = inr (among_right x xs ys i)

  pub among_parts : (x : X) (xs ys : List X) → Among x (xs ++ ys) → Among x xs ⊎ Among x ys
  among_parts x [] ys i = inr i
  among_parts x (y ∷ xs) ys (inl e) = inl (inl e)
  among_parts x (y ∷ xs) ys (inr i) = elim (among_parts x xs ys i) [ inl h ↦ inl (inr h) | inr h ↦ inr h ]

  pub among_filter : (p : X → Bool) (x : X) (xs : List X) → Among x xs → p x ≡ true → Among x (filter p xs)
  among_filter p x [] i h = absurd i
  among_filter p x (y ∷ ys) (inl e) h = let here : p y ≡ true = ap p (sym e) ∙ h in rw here (inl e)
  among_filter p x (y ∷ ys) (inr i) h = by (p y) (among_filter p x ys i h)
    where
      by : (t : Bool) → Among x (filter p ys) → Among x (cond t (y ∷ filter p ys) (filter p ys))
      by true again = inr again
      by false again = again

  pub filter_among : (p : X → Bool) (x : X) (xs : List X) → Among x (filter p xs) → Among x xs × (p x ≡ true)
  filter_among p x [] i = absurd i
  filter_among p x (y ∷ ys) i = by (p y) refl i (filter_among p x ys)
    where
      by : (t : Bool) → p y ≡ t → Among x (cond t (y ∷ filter p ys) (filter p ys)) → (Among x (filter p ys) → Among x ys × (p x ≡ true)) → Among x (y ∷ ys) × (p x ≡ true)
      by true e (inl h) again = (inl h, ap p h ∙ e)
      by true e (inr h) again = let r = again h in (inr r.0, r.1)
      by false e h again = let r = again h in (inr r.0, r.1)

  pub any_among : (p : X → Bool) (x : X) (xs : List X) → Among x xs → p x ≡ true → list_any p xs ≡ true
  any_among p x [] i h = absurd i
  any_among p x (y ∷ ys) (inl e) h = or_left (p y) (list_any p ys) (ap p (sym e) ∙ h)
  any_among p x (y ∷ ys) (inr i) h = or_right (p y) (list_any p ys) (any_among p x ys i h)

  pub any_found : (p : X → Bool) (xs : List X) → list_any p xs ≡ true → (x : X) × Among x xs × (p x ≡ true)
  any_found p [] h = absurd (false≢true h)
  any_found p (y ∷ ys) h = elim (or_cases (p y) (list_any p ys) h) [
    | inl e ↦ (y, inl refl, e)
    | inr e ↦ (let r = any_found p ys e in (r.0, inr r.1, r.2))
  ]

  pub filter_agrees : (p q : X → Bool) (xs : List X) → ((x : X) → Among x xs → p x ≡ q x) → filter p xs ≡ filter q xs
  filter_agrees p q [] h = refl
  filter_agrees p q (x ∷ xs) h = rw (h x (inl refl), filter_agrees p q xs (λ y i. h y (inr i))) refl

  pub among_enumerate : (xs : List X) (low k : ℕ) (x : X) → slice_get xs k ≡ Some x → Among (low + k, x) (enumerate_from low xs)
  among_enumerate [] low k x e = cc
  among_enumerate (y ∷ ys) low zero x e = inl (let same : x ≡ y = cc in let here : low + 0 ≡ low = omega arith in rw (same, here) refl)
  among_enumerate (y ∷ ys) low (suc k) x e =
      let moved : low + suc k ≡ (low + 1) + k = omega arith in
      inr (subst (λ (z : ℕ). Among (z, x) (enumerate_from (low + 1) ys)) (sym moved) (among_enumerate ys (low + 1) k x e))

  pub enumerate_among : (xs : List X) (low : ℕ) (at : ℕ × X) → Among at (enumerate_from low xs) → (k : ℕ) × (at.0 ≡ low + k) × (slice_get xs k ≡ Some at.1)
  enumerate_among [] low at i = absurd i
  enumerate_among (y ∷ ys) low at (inl e) =
      let number : at.0 ≡ low = ap (λ (z : ℕ × X). z.0) e in
      let item : at.1 ≡ y = ap (λ (z : ℕ × X). z.1) e in
      (0, omega (arith, number), ap (λ z. Some z) (sym item))
  enumerate_among (y ∷ ys) low at (inr i) = let r = enumerate_among ys (low + 1) at i in (suc r.0, omega (arith, r.1), r.2)

module _ {X Y : Type 0} (f : X → Y) where
  pub among_map : (x : X) (xs : List X) → Among x xs → Among (f x) (map f xs)
  among_map x [] i = absurd i
  among_map x (y ∷ ys) (inl e) = inl (ap f e)
  among_map x (y ∷ ys) (inr i) = inr (among_map x ys i)

  pub map_among : (y : Y) (xs : List X) → Among y (map f xs) → (x : X) × Among x xs × (y ≡ f x)
  map_among y [] i = absurd i
  map_among y (x ∷ xs) (inl e) = (x, inl refl, e)
  map_among y (x ∷ xs) (inr i) = let r = map_among y xs i in (r.0, inr r.1, r.2)

module _ {X Y : Type 0} (f : X → List Y) where
  pub among_flat : (y : Y) (x : X) (xs : List X) → Among x xs → Among y (f x) → Among y (flat_map f xs)
  among_flat y x [] i h = absurd i
  among_flat y x (z ∷ zs) (inl e) h = among_left y (f z) (flat_map f zs) (subst (λ (w : X). Among y (f w)) e h)
  among_flat y x (z ∷ zs) (inr i) h = among_right y (f z) (flat_map f zs) (among_flat y x zs i h)

  pub flat_among : (y : Y) (xs : List X) → Among y (flat_map f xs) → (x : X) × Among x xs × Among y (f x)
  flat_among y [] i = absurd i
  flat_among y (x ∷ xs) i = elim (among_parts y (f x) (flat_map f xs) i) [
    | inl h ↦ (x, inl refl, h)
    | inr h ↦ (let r = flat_among y xs h in (r.0, inr r.1, r.2))
  ]

pub one_same : {X : Type 0} (d : X) (xs : List X) (k : ℕ) → ((j : ℕ) → get_or xs j d ≡ d) → get_or (xs ++ d ∷ []) k d ≡ d
one_same d [] zero h = refl
one_same d [] (suc k) h = refl
one_same d (x ∷ xs) zero h = h 0
one_same d (x ∷ xs) (suc k) h = one_same d xs k (λ j. h (suc j))
