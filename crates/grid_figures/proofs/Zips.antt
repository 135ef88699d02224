-- Lists of which the items at each place belong together.
use Rattle.std.proofs.Common.{◌≡◌, ℕ, zero, suc, ◌<◌, List, [], ◌∷◌, ◌++◌, length, get_or, arith}
use Rattle.std.specs.List.{AllZip}

module _ {A B : Type 0} (R : A → B → Type 0) where
  pub zip_at : (xs : List A) (ys : List B) → AllZip R xs ys → (k : ℕ) (d : A) (e : B) → k < length xs → R (get_or xs k d) (get_or ys k e)
  zip_at [] ys h k d e lt = absurd (omega (arith, lt))
  zip_at (x ∷ xs) [] h k d e lt = absurd h
  zip_at (x ∷ xs) (y ∷ ys) h zero d e lt = h.0
  zip_at (x ∷ xs) (y ∷ ys) h (suc k) d e lt = zip_at xs ys h.1 k d e (omega (arith, lt))

  pub zip_from : (xs : List A) (ys : List B) → length xs ≡ length ys → ((k : ℕ) (d : A) (e : B) → k < length xs → R (get_or xs k d) (get_or ys k e)) → AllZip R xs ys
  zip_from [] [] long h = tt
  zip_from [] (y ∷ ys) long h = absurd (omega (arith, long))
  zip_from (x ∷ xs) [] long h = absurd (omega (arith, long))
  zip_from (x ∷ xs) (y ∷ ys) long h = (h 0 x y (omega arith), zip_from xs ys (omega (arith, long)) (λ k d e lt. h (suc k) d e (omega (arith, lt))))

  pub zip_push : (xs : List A) (ys : List B) (x : A) (y : B) → AllZip R xs ys → R x y → AllZip R (xs ++ x ∷ []) (ys ++ y ∷ [])
  zip_push [] [] x y h r = (r, tt)
  zip_push [] (z ∷ ys) x y h r = absurd h
  zip_push (w ∷ xs) [] x y h r = absurd h
  zip_push (w ∷ xs) (z ∷ ys) x y h r = (h.0, zip_push xs ys x y h.1 r)

  pub zip_long : (xs : List A) (ys : List B) → AllZip R xs ys → length xs ≡ length ys
  zip_long [] [] h = omega arith
  zip_long [] (y ∷ ys) h = absurd h
  zip_long (x ∷ xs) [] h = absurd h
  zip_long (x ∷ xs) (y ∷ ys) h = omega (arith, zip_long xs ys h.1)
