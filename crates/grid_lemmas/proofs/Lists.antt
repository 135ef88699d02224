-- Lists by places, and functions over each item.
use Rattle.std.proofs.Common.{Bool, List, None, Option, Some, [], add-one, ap, arith, cond, false, get_or, length, map, not, refl, suc, sym, take, true, zero, ℕ, ◌++◌, ◌+◌, ◌-◌, ◌<◌, ◌||◌, ◌∙◌, ◌∷◌, ◌≡◌, ◌≤◌}
use Rattle.std.proofs.lemmas.Bool.{and_parts, le-ltb, lt-ltb, ltb-false, ltb-true}
use Rattle.std.proofs.lemmas.List.{take_more}
use Rattle.std.specs.List.{list_all, list_any, position_or_len}
use Rattle.std.specs.Prelude.{filter, insert, nat_lt, option_map, position, remove, slice_get, slice_set}
use Rattle.grid_lemmas.proofs.Options.{none_added}

pub set_same : (rows : List (List Bool)) (k : ℕ) (row : List Bool) → row ≡ get_or rows k [] → slice_set rows k row ≡ rows
set_same [] k row e = refl
set_same (r ∷ rows) zero row e = ap (λ z. z ∷ rows) e
set_same (r ∷ rows) (suc k) row e = ap (λ z. r ∷ z) (set_same rows k row e)

pub get_front : {A : Type 0} (xs ys : List A) (n : ℕ) → n < length xs → slice_get (xs ++ ys) n ≡ slice_get xs n
get_front [] ys n l = absurd (omega arith)
get_front (x ∷ xs) ys zero l = refl
get_front (x ∷ xs) ys (suc n) l = get_front xs ys n (omega arith)

pub take_got : {A : Type 0} (xs : List A) (n : ℕ) (x : A) → slice_get xs n ≡ Some x → take (suc n) xs ≡ take n xs ++ x ∷ []
take_got [] n x e = cc
take_got (y ∷ ys) zero x e = let same : y ≡ x = cc in ap (λ z. z ∷ []) same
take_got (y ∷ ys) (suc n) x e = ap (λ zs. y ∷ zs) (take_got ys n x e)

pub get_set : {X : Type 0} (xs : List X) (k : ℕ) (x : X) → k < length xs → slice_get (slice_set xs k x) k ≡ Some x
get_set [] k x h = absurd (omega arith)
get_set (y ∷ ys) zero x h = refl
get_set (y ∷ ys) (suc k) x h = get_set ys k x (omega arith)

pub get_there : {X : Type 0} (xs : List X) (k : ℕ) (x : X) → k < length xs → x ≡ get_or xs k x → slice_get xs k ≡ Some x
get_there [] k x h e = absurd (omega arith)
get_there (y ∷ xs) zero x h e = ap (λ z. Some z) (sym e)
get_there (y ∷ xs) (suc k) x h e = get_there xs k x (omega arith) e

pub take_next : {X : Type 0} (xs : List X) (i : ℕ) (x : X) → i < length xs → x ≡ get_or xs i x → take (i + 1) xs ≡ take i xs ++ x ∷ []
take_next xs i x lt is = take_more xs i x lt ∙ ap (λ y. take i xs ++ y ∷ []) (sym is)

pub remove_insert : {X : Type 0} (xs : List X) (n : ℕ) (x : X) → n ≤ length xs → remove (insert xs n x) n ≡ xs
remove_insert xs zero x l = refl
remove_insert [] (suc n) x l = absurd (omega arith)
remove_insert (y ∷ xs) (suc n) x l = ap (λ z. y ∷ z) (remove_insert xs n x (omega arith))

pub get_other : {X : Type 0} (xs : List X) (k j : ℕ) (y : X) → (k ≡ j → ⊥) → slice_get (slice_set xs k y) j ≡ slice_get xs j
get_other [] k j y ne = refl
get_other (x ∷ xs) zero zero y ne = absurd (ne refl)
get_other (x ∷ xs) zero (suc j) y ne = refl
get_other (x ∷ xs) (suc k) zero y ne = refl
get_other (x ∷ xs) (suc k) (suc j) y ne = get_other xs k j y (λ e. ne (omega (arith, e)))

pub some_got : {X : Type 0} (xs : List X) (k : ℕ) → k < length xs → (x : X) × (slice_get xs k ≡ Some x)
some_got [] k h = absurd (omega (arith, h))
some_got (x ∷ xs) zero h = (x, refl)
some_got (x ∷ xs) (suc k) h = some_got xs k (omega (arith, h))

pub none_past : {X : Type 0} (xs : List X) (k : ℕ) → k < length xs → slice_get xs k ≡ None → ⊥
none_past [] k lt e = omega arith
none_past (x ∷ xs) zero lt e = cc
none_past (x ∷ xs) (suc k) lt e = none_past xs k (omega arith) e

pub suc_added : (n m : ℕ) (o : Option ℕ) → m ≡ suc n → option_map suc (option_map (λ j. n + j) o) ≡ option_map (λ j. m + j) o
suc_added n m (Some j) e = let same : suc (n + j) ≡ m + j = omega (arith, e) in ap (λ z. Some z) same
suc_added n m None e = refl

pub position-cons : {X : Type 0} (p : X → Bool) (x : X) (xs : List X) → position p (x ∷ xs) ≡ cond (p x) (Some 0) (option_map suc (position p xs))
position-cons {X} p x xs = by (p x)
  where
    r : ℕ
    r = position_or_len p xs

    by : (t : Bool) → ◌≡◌ {A = Option ℕ} (cond (nat_lt (cond (not t) (1 + r) 0) (suc (length xs))) (Some (cond (not t) (1 + r) 0)) None) (cond t (Some 0) (option_map suc (cond (nat_lt r (length xs)) (Some r) None)))
    by true = rw (lt-ltb 0 (suc (length xs)) (omega arith)) refl
    by false = let one : 1 + r ≡ suc r = omega arith in rw one (split (nat_lt r (length xs)) refl)
      where
        split : (t : Bool) → nat_lt r (length xs) ≡ t → ◌≡◌ {A = Option ℕ} (cond (nat_lt (suc r) (suc (length xs))) (Some (suc r)) None) (option_map suc (cond t (Some r) None))
        split true e = rw (lt-ltb (suc r) (suc (length xs)) (let l : r < length xs = ltb-true r (length xs) e in omega arith)) refl
        split false e = rw (le-ltb (suc r) (suc (length xs)) (let l : length xs ≤ r = ltb-false r (length xs) e in omega arith)) refl

pub position_behind : {X : Type 0} (p : X → Bool) (xs ys : List X) → list_any p xs ≡ false → position p (xs ++ ys) ≡ option_map (λ j. length xs + j) (position p ys)
position_behind p [] ys e = sym (none_added (position p ys))
position_behind {X} p (x ∷ xs) ys e = position-cons p x (xs ++ ys) ∙ by (p x) e (position_behind p xs ys)
  where
    by : (t : Bool) → t || list_any p xs ≡ false → (list_any p xs ≡ false → position p (xs ++ ys) ≡ option_map (λ j. length xs + j) (position p ys))
        → ◌≡◌ {A = Option ℕ} (cond t (Some 0) (option_map suc (position p (xs ++ ys)))) (option_map (λ j. length (x ∷ xs) + j) (position p ys))
    by true e rest = absurd (cc)
    by false e rest = ap (option_map suc) (rest e) ∙ suc_added (length xs) (length (x ∷ xs)) (position p ys) refl

pub all_at : {X : Type 0} (t : X → Bool) (xs : List X) (k : ℕ) (x : X) → list_all t xs ≡ true → slice_get xs k ≡ Some x → t x ≡ true
all_at t [] k x h at = cc
all_at t (y ∷ xs) zero x h at = let same : y ≡ x = cc in ap t (sym same) ∙ (and_parts (t y) (list_all t xs) h).0
all_at t (y ∷ xs) (suc k) x h at = all_at t xs k x (and_parts (t y) (list_all t xs) h).1 at

pub length_filter : {X : Type 0} (q : X → Bool) (xs : List X) → length (filter q xs) ≤ length xs
length_filter q [] = omega arith
length_filter q (x ∷ xs) = by (q x) (length_filter q xs)
  where
    by : (t : Bool) → length (filter q xs) ≤ length xs → length (cond t (x ∷ filter q xs) (filter q xs)) ≤ suc (length xs)
    by true l = omega arith
    by false l = omega arith

pub any_alike : {X : Type 0} (p q : X → Bool) (xs : List X) → ((x : X) → p x ≡ q x) → list_any p xs ≡ list_any q xs
any_alike p q [] e = refl
any_alike p q (x ∷ xs) e = rw (e x, any_alike p q xs e) refl

pub map_got : {X Y : Type 0} (f : X → Y) (xs : List X) (k : ℕ) (x : X) → slice_get xs k ≡ Some x → slice_get (map f xs) k ≡ Some (f x)
map_got f [] k x h = absurd (cc)
map_got f (y ∷ xs) zero x h = let same : y ≡ x = cc in ap (λ z. Some (f z)) same
map_got f (y ∷ xs) (suc k) x h = map_got f xs k x h

pub map_more : {X Y : Type 0} (f : X → Y) (xs : List X) (k : ℕ) (y : Y) → option_map f (slice_get xs k) ≡ Some y → map f (take (suc k) xs) ≡ map f (take k xs) ++ y ∷ []
map_more f [] k y is = cc
map_more f (x ∷ xs) zero y is = let same : f x ≡ y = cc in ap (λ z. z ∷ []) same
map_more f (x ∷ xs) (suc k) y is = ap (λ ys. f x ∷ ys) (map_more f xs k y is)

pub map_one_more : {X Y : Type 0} (f : X → Y) (xs : List X) (k : ℕ) (y : Y) → option_map f (slice_get xs k) ≡ Some y → map f (take (k + 1) xs) ≡ map f (take k xs) ++ y ∷ []
map_one_more f xs k y is = rw (add-one k) (map_more f xs k y is)

pub length_map : {X Y : Type 0} (f : X → Y) (xs : List X) → length (map f xs) ≡ length xs
length_map f [] = refl
length_map f (x ∷ xs) = ap suc (length_map f xs)

pub map_alike : {X Y : Type 0} (f g : X → Y) → ((x : X) → f x ≡ g x) → (xs : List X) → map f xs ≡ map g xs
map_alike f g same [] = refl
map_alike f g same (x ∷ xs) = ap (λ y. y ∷ map f xs) (same x) ∙ ap (λ ys. g x ∷ ys) (map_alike f g same xs)

pub position_map : {X Y : Type 0} (p : Y → Bool) (f : X → Y) (xs : List X) → position p (map f xs) ≡ position (λ x. p (f x)) xs
position_map p f [] = refl
position_map p f (x ∷ xs) = position-cons p (f x) (map f xs) ∙ (rw (position_map p f xs) (sym (position-cons (λ y. p (f y)) x xs)))

pub map_twice : {X Y Z : Type 0} (h : Y → Z) (g : X → Y) (xs : List X) → map h (map g xs) ≡ map (λ x. h (g x)) xs
map_twice h g [] = refl
map_twice h g (x ∷ xs) = ap (λ z. h (g x) ∷ z) (map_twice h g xs)
