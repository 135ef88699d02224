-- Passes over those that are there: what is left out has no value.
use Rattle.std.proofs.Common.{◌≡◌, refl, sym, ap, ◌∙◌, subst, ℕ, zero, suc, ◌+◌, ◌-◌, ◌<◌, ◌≤◌, arith, Option, Some, None, List, [], ◌∷◌, ◌++◌, length, get_or, flat_map, filter_map, slice_get}
use Rattle.std.specs.List.{enumerate_from}
use Rattle.std.proofs.lemmas.List.Elements.{All-head, All-tail}
use Rattle.grid_sparse.specs.Options.{pair_at, present, AreThere}

module _ {X : Type 0} where
  -- what goes on over a place where none is there goes on from place to place, as far as none is
  pub pass_over : (P : ℕ → Type 0) (xs : List (Option X)) → ((k : ℕ) → k < length xs → get_or xs k None ≡ None → P k → P (k + 1))
      → (from to : ℕ) → from ≤ to → to ≤ length xs → ((k : ℕ) → from ≤ k → k < to → get_or xs k None ≡ None) → P from → P to
  pass_over P xs step from to le inside none start =
      subst P (omega (arith, le)) (by (to - from) (omega (arith, le)))
    where
      by : (n : ℕ) → from + n ≤ to → P (from + n)
      by zero within = subst P (omega arith) start
      by (suc n) within = subst P (omega arith) (step (from + n) (omega (arith, within, inside)) (none (from + n) (omega arith) (omega (arith, within))) (by n (omega (arith, within))))

abbrev listed : {X : Type 0} → ℕ → List (Option X) → List (ℕ × X)
listed at xs = filter_map pair_at (enumerate_from at xs)

next : (at k : ℕ) → (at + 1) + k ≡ at + suc k
next at k = omega arith

plain : (k : ℕ) → 0 + k ≡ k
plain k = omega arith

still : (k : ℕ) → k + 0 ≡ k
still k = omega arith

module _ {X Y Z : Type 0} (f : ℕ × Y → List Z) (h : ℕ × X → List Z) where
  -- an item where none is there gives nothing, and another one what the value there gives
  abbrev Gives : ℕ → List (Option X) → List Y → Type 0
  Gives at xs ys = ((k : ℕ) (y : Y) → get_or xs k None ≡ None → slice_get ys k ≡ Some y → f (at + k, y) ≡ [])
      × ((k : ℕ) (x : X) (y : Y) → get_or xs k None ≡ Some x → slice_get ys k ≡ Some y → f (at + k, y) ≡ h (at + k, x))

  later : (at : ℕ) (o : Option X) (y : Y) (xs : List (Option X)) (ys : List Y) → Gives at (o ∷ xs) (y ∷ ys) → Gives (at + 1) xs ys
  later at o y xs ys gives = (
    λ k z is got. ap (λ (n : ℕ). f (n, z)) (next at k) ∙ gives.0 (suc k) z is got,
    λ k x z is got. ap (λ (n : ℕ). f (n, z)) (next at k) ∙ gives.1 (suc k) x z is got ∙ ap (λ (n : ℕ). h (n, x)) (sym (next at k)),
  )

  one_more : (at : ℕ) (o : Option X) (y : Y) (xs : List (Option X)) (ys : List Y) → Gives at (o ∷ xs) (y ∷ ys) → flat_map f (enumerate_from (at + 1) ys) ≡ flat_map h (listed (at + 1) xs)
      → flat_map f (enumerate_from at (y ∷ ys)) ≡ flat_map h (listed at (o ∷ xs))
  one_more at None y xs ys gives rest = ap (λ z. z ++ flat_map f (enumerate_from (at + 1) ys)) (ap (λ (n : ℕ). f (n, y)) (sym (still at)) ∙ gives.0 0 y refl refl) ∙ rest
  one_more at (Some x) y xs ys gives rest =
      ap (λ z. z ++ flat_map f (enumerate_from (at + 1) ys)) (ap (λ (n : ℕ). f (n, y)) (sym (still at)) ∙ gives.1 0 x y refl refl ∙ ap (λ (n : ℕ). h (n, x)) (still at)) ∙ ap (λ z. h (at, x) ++ z) rest

  listed_flat : (at : ℕ) (xs : List (Option X)) (ys : List Y) → length xs ≡ length ys → Gives at xs ys → flat_map f (enumerate_from at ys) ≡ flat_map h (listed at xs)
  listed_flat at [] [] long gives = refl
  listed_flat at [] (y ∷ ys) long gives = absurd (omega (arith, long))
  listed_flat at (o ∷ xs) [] long gives = absurd (omega (arith, long))
  listed_flat at (o ∷ xs) (y ∷ ys) long gives = one_more at o y xs ys gives (listed_flat (at + 1) xs ys (omega (arith, long)) (later at o y xs ys gives))

  -- what all items give by their places is what those that are there give, where the others give nothing
  pub flat_map_present : (xs : List (Option X)) (ys : List Y) → length xs ≡ length ys
      → ((k : ℕ) (y : Y) → get_or xs k None ≡ None → slice_get ys k ≡ Some y → f (k, y) ≡ [])
      → ((k : ℕ) (x : X) (y : Y) → get_or xs k None ≡ Some x → slice_get ys k ≡ Some y → f (k, y) ≡ h (k, x))
      → flat_map f (enumerate_from 0 ys) ≡ flat_map h (present xs)
  unfolding present
  flat_map_present xs ys long none some = listed_flat 0 xs ys long (
    λ k y is got. ap (λ (n : ℕ). f (n, y)) (plain k) ∙ none k y is got,
    λ k x y is got. ap (λ (n : ℕ). f (n, y)) (plain k) ∙ some k x y is got ∙ ap (λ (n : ℕ). h (n, x)) (sym (plain k)),
  )

-- ---- from pair to pair

module _ {X : Type 0} (xs : List (Option X)) (e : ℕ × X) (rest pairs : List (ℕ × X)) (is : pairs ≡ e ∷ rest) (all : AreThere xs pairs) where
  abbrev there : ℕ × X → Type 0
  there pair = get_or xs pair.0 None ≡ Some pair.1

  pub first_there : get_or xs e.0 None ≡ Some e.1
  first_there = All-head there e rest (subst (AreThere xs) is all)

  pub rest_there : AreThere xs rest
  rest_there = All-tail there e rest (subst (AreThere xs) is all)
