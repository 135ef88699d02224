-- Lists by their places.
use Rattle.std.proofs.Common.{◌≡◌, refl, sym, ap, ap₂, ◌∙◌, subst, ℕ, zero, suc, ◌+◌, ◌<◌, Bool, true, false, cond, List, [], ◌∷◌, length, get_or, inl, inr, arith, Some}
use Rattle.std.specs.Prelude.{eqb, map, filter, slice_get}
use Rattle.std.specs.List.{list_any, filter_map, range_with_len}
use Rattle.std.proofs.lemmas.Bool.{or_cases, eqb-true, false≢true}
use Rattle.grid_lemmas.proofs.Bools.{or_left, same_test}
use Rattle.grid_graph.specs.Components.{places}
use Rattle.std.proofs.lemmas.Option.{slice_get-get_or}
use Rattle.grid_graph.proofs.Reach.{In, In_here, In_there}
use Rattle.grid_graph.proofs.Places.{places_In}
use Rattle.grid_graph.proofs.Least.{In_filter}
use Rattle.grid_groups.specs.Labels.{items_at}

-- ---- what passes a test

pub filter_same : {X : Type 0} (p q : X → Bool) (xs : List X) → ((i : ℕ) (d : X) → i < length xs → p (get_or xs i d) ≡ q (get_or xs i d)) → filter p xs ≡ filter q xs
filter_same p q [] h = refl
filter_same p q (x ∷ xs) h =
    ap (λ t. cond t (x ∷ filter p xs) (filter p xs)) (h 0 x (omega arith))
    ∙ ap (λ z. cond (q x) (x ∷ z) z) (filter_same p q xs (λ i d lt. h (suc i) d (omega arith)))

passed_by : {X : Type 0} (P : X → Type 0) (p : X → Bool) (x : X) (xs : List X) (t : Bool) → p x ≡ t → ((x : X) → p x ≡ true → P x) → ((i : ℕ) (d : X) → i < length (filter p xs) → P (get_or (filter p xs) i d))
    → (i : ℕ) (d : X) → i < length (cond t (x ∷ filter p xs) (filter p xs)) → P (get_or (cond t (x ∷ filter p xs) (filter p xs)) i d)
passed_by P p x xs true e h rest zero d lt = h x e
passed_by P p x xs true e h rest (suc i) d lt = rest i d (omega arith)
passed_by P p x xs false e h rest i d lt = rest i d lt

-- what holds of each item that passes holds of each item of the filtered list
pub passed_all : {X : Type 0} (P : X → Type 0) (p : X → Bool) (xs : List X) → ((x : X) → p x ≡ true → P x) → (i : ℕ) (d : X) → i < length (filter p xs) → P (get_or (filter p xs) i d)
passed_all P p [] h i d lt = absurd (omega arith)
passed_all P p (x ∷ xs) h i d lt = passed_by P p x xs (p x) refl h (passed_all P p xs h) i d lt

-- ---- members of a filtered list

passes_by : (p : ℕ → Bool) (x y : ℕ) (ys : List ℕ) (t : Bool) → p y ≡ t → (In x (filter p ys) → p x ≡ true) → In x (cond t (y ∷ filter p ys) (filter p ys)) → p x ≡ true
passes_by p x y ys true e rest i = elim (or_cases (eqb x y) (list_any (eqb x) (filter p ys)) i) [
  | inl h ↦ (let P : ℕ → Type 0 = λ z. p z ≡ true in subst P (sym (eqb-true x y h)) e)
  | inr h ↦ rest h
]
passes_by p x y ys false e rest i = rest i

pub filter_passes : (p : ℕ → Bool) (x : ℕ) (xs : List ℕ) → In x (filter p xs) → p x ≡ true
filter_passes p x [] i = absurd (false≢true i)
filter_passes p x (y ∷ ys) i = passes_by p x y ys (p y) refl (filter_passes p x ys) i

pub In_filtered : (p : ℕ → Bool) (x : ℕ) (xs : List ℕ) → In x xs → list_any (eqb x) (filter p xs) ≡ p x
In_filtered p x xs i = same_test (list_any (eqb x) (filter p xs)) (p x) (filter_passes p x xs) (In_filter p x xs i)

filter_In_by : (p : ℕ → Bool) (x y : ℕ) (ys : List ℕ) (t : Bool) → (In x (filter p ys) → In x ys) → In x (cond t (y ∷ filter p ys) (filter p ys)) → In x (y ∷ ys)
filter_In_by p x y ys true rest i = elim (or_cases (eqb x y) (list_any (eqb x) (filter p ys)) i) [
  | inl h ↦ or_left (eqb x y) (list_any (eqb x) ys) h
  | inr h ↦ In_there x y ys (rest h)
]
filter_In_by p x y ys false rest i = In_there x y ys (rest i)

pub filter_In : (p : ℕ → Bool) (x : ℕ) (xs : List ℕ) → In x (filter p xs) → In x xs
filter_In p x [] i = i
filter_In p x (y ∷ ys) i = filter_In_by p x y ys (p y) (filter_In p x ys) i

pub In_get : (xs : List ℕ) (i : ℕ) → i < length xs → In (get_or xs i 0) xs
In_get [] i lt = absurd (omega arith)
In_get (x ∷ xs) zero lt = In_here x xs
In_get (x ∷ xs) (suc i) lt = In_there (get_or xs i 0) x xs (In_get xs i (omega arith))

-- an item, whatever stands past the end
pub get_or_any : {X : Type 0} (xs : List X) (i : ℕ) (c d : X) → i < length xs → get_or xs i c ≡ get_or xs i d
get_or_any [] i c d lt = absurd (omega arith)
get_or_any (x ∷ xs) zero c d lt = refl
get_or_any (x ∷ xs) (suc i) c d lt = get_or_any xs i c d (omega arith)

-- the places that pass are below the count
pub passed_below : (p : ℕ → Bool) (count i d : ℕ) → i < length (filter p (places count)) → get_or (filter p (places count)) i d < count
passed_below p count i d lt =
    let same = get_or_any (filter p (places count)) i d 0 lt in
    let r = places_In (get_or (filter p (places count)) i 0) count (filter_In p (get_or (filter p (places count)) i 0) (places count) (In_get (filter p (places count)) i lt)) in
    omega (arith, same, r)

-- ---- items at places

items_by : {X : Type 0} (all : List X) (x : X) (low : ℕ) (ks : List ℕ) (t : Bool) → slice_get all low ≡ Some x
    → filter_map (slice_get all) (cond t (low ∷ ks) ks) ≡ cond t (x ∷ filter_map (slice_get all) ks) (filter_map (slice_get all) ks)
items_by all x low ks true e = rw e refl
items_by all x low ks false e = refl

items_from : {X : Type 0} (all : List X) (p : X → Bool) (q : ℕ → Bool) (low : ℕ) (xs : List X) → ((i j : ℕ) → low + i ≡ j → i < length xs → slice_get all j ≡ slice_get xs i)
    → ((i j : ℕ) (d : X) → low + i ≡ j → i < length xs → q j ≡ p (get_or xs i d)) → filter_map (slice_get all) (filter q (range_with_len low (length xs))) ≡ filter p xs
items_from all p q low [] at tests = refl
items_from all p q low (x ∷ xs) at tests =
    items_by all x low (filter q (range_with_len (low + 1) (length xs))) (q low) (at 0 low (omega arith) (omega arith))
    ∙ ap (λ t. cond t (x ∷ filter_map (slice_get all) (filter q (range_with_len (low + 1) (length xs)))) (filter_map (slice_get all) (filter q (range_with_len (low + 1) (length xs))))) (tests 0 low x (omega arith) (omega arith))
    ∙ ap (λ z. cond (p x) (x ∷ z) z) (items_from all p q (low + 1) xs (λ i j e lt. at (suc i) j (omega (arith, e)) (omega arith)) (λ i j d e lt. tests (suc i) j d (omega (arith, e)) (omega arith)))

same_place : {X : Type 0} (xs : List X) (i j : ℕ) → 0 + i ≡ j → slice_get xs j ≡ slice_get xs i
same_place xs i j e = let same : j ≡ i = omega (arith, e) in ap (slice_get xs) same

-- the items at the places that pass are the items that pass
pub items_passing : {X : Type 0} (xs : List X) (p : X → Bool) (q : ℕ → Bool) (n : ℕ) → n ≡ length xs → ((k : ℕ) (d : X) → k < length xs → q k ≡ p (get_or xs k d)) → items_at xs (filter q (places n)) ≡ filter p xs
unfolding items_at places
items_passing xs p q n long tests =
    ap (λ m. filter_map (slice_get xs) (filter q (range_with_len 0 m))) long
    ∙ items_from xs p q 0 xs (λ i j e lt. same_place xs i j e)
    (λ i j d e lt. let same : j ≡ i = omega (arith, e) in ap q same ∙ tests i d lt)

-- the first item at some places
pub first_item : (ns ks : List ℕ) → 0 < length ks → get_or ks 0 0 < length ns → get_or (items_at ns ks) 0 0 ≡ get_or ns (get_or ks 0 0) 0
unfolding items_at
first_item ns [] some lt = absurd (omega arith)
first_item ns (k ∷ ks) some lt = rw (slice_get-get_or ns k 0 lt) refl

pub map_items : (ns ks : List ℕ) → ((i : ℕ) (d : ℕ) → i < length ks → get_or ks i d < length ns) → map (λ k. get_or ns k 0) ks ≡ items_at ns ks
unfolding items_at
map_items ns [] below = refl
map_items ns (k ∷ ks) below = rw (slice_get-get_or ns k 0 (below 0 k (omega arith))) (ap (λ z. get_or ns k 0 ∷ z) (map_items ns ks (λ i d lt. below (suc i) d (omega arith))))

-- ---- two lists made of the same places

pub both_made : {A B Y : Type 0} (f : A → Y) (g : B → Y) (u : A → Bool) (v : B → Bool) (a : ℕ → A) (b : ℕ → B) (ks : List ℕ)
    → ((i : ℕ) (d : ℕ) → i < length ks → (u (a (get_or ks i d)) ≡ v (b (get_or ks i d))) × (f (a (get_or ks i d)) ≡ g (b (get_or ks i d))))
    → map f (filter u (map a ks)) ≡ map g (filter v (map b ks))
both_made f g u v a b [] h = refl
both_made f g u v a b (k ∷ ks) h =
    ap (λ t. map f (cond t (a k ∷ filter u (map a ks)) (filter u (map a ks)))) (h 0 k (omega arith)).0
    ∙ by (v (b k)) (both_made f g u v a b ks (λ i d lt. h (suc i) d (omega arith)))
  where
    by : (t : Bool) → map f (filter u (map a ks)) ≡ map g (filter v (map b ks)) → map f (cond t (a k ∷ filter u (map a ks)) (filter u (map a ks))) ≡ map g (cond t (b k ∷ filter v (map b ks)) (filter v (map b ks)))
    by true rest = ap₂ (λ y ys. y ∷ ys) (h 0 k (omega arith)).1 rest
    by false rest = rest

pub all_made : {A B Y : Type 0} (f : A → Y) (g : B → Y) (a : ℕ → A) (b : ℕ → B) (ks : List ℕ) → ((i : ℕ) (d : ℕ) → i < length ks → f (a (get_or ks i d)) ≡ g (b (get_or ks i d))) → map f (map a ks) ≡ map g (map b ks)
all_made f g a b [] h = refl
all_made f g a b (k ∷ ks) h = ap (λ y. y ∷ map f (map a ks)) (h 0 k (omega arith)) ∙ ap (λ z. g (b k) ∷ z) (all_made f g a b ks (λ i d lt. h (suc i) d (omega arith)))
