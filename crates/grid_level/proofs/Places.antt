-- The place of a key in a rising list, and what stands there.
use Rattle.std.proofs.Common.{◌≡◌, refl, sym, ap, ◌∙◌, ℕ, zero, suc, ◌+◌, ◌-◌, ◌<◌, ◌≤◌, Bool, true, false, cond, ◌&&◌, List, [], ◌∷◌, length, arith, get_or, Some}
use Rattle.std.specs.Prelude.{map, nat_lt, ◌==◌, slice_get, slice_set, insert, remove}
use Rattle.std.specs.List.{list_all, AllWithin}
use Rattle.std.specs.List.Sorted.{IsNonDecreasingBy}
use Rattle.std.proofs.lemmas.Bool.{lt-ltb, le-ltb, eq-eqb, ltb-true, eqb-true, and_parts, and_from, false≢true}
use Rattle.std.proofs.lemmas.Bool.Decides.{nat_tests}
use Rattle.grid_lemmas.proofs.Bools.{and_swap}
use Rattle.grid_level.specs.declared.uses.Use.{Use}
use Rattle.grid_level.specs.Uses.{place_among, key_here, once, with_use, without_use, less_use, used_nodes, total}
use Rattle.grid_level.specs.Passing.{with_node, rising, is_rising}
use Rattle.grid_level.proofs.NodeCounts.{Order, below, equal, above, order, with_use_nodes}

pub place_from_point : {X : Type 0} (key : X → ℕ) (n : ℕ) (xs : List X) (i : ℕ) → i ≤ length xs
    → AllWithin (λ y. nat_lt (key y) n ≡ true) xs 0 i → AllWithin (λ y. nat_lt (key y) n ≡ false) xs i (length xs) → place_among key n xs ≡ i
place_from_point key n [] i le t f = omega arith
place_from_point key n (x ∷ xs) zero le t f = let e : nat_lt (key x) n ≡ false = f 0 x (omega arith) (omega arith) in rw e refl
place_from_point key n (x ∷ xs) (suc i) le t f =
    let e : nat_lt (key x) n ≡ true = t 0 x (omega arith) (omega arith) in
    rw e (ap suc (place_from_point key n xs i (omega arith) (λ k d a b. t (suc k) d (omega arith) (omega arith)) (λ k d a b. f (suc k) d (omega arith) (omega arith))))

all_above : {X : Type 0} (key : X → ℕ) (n : ℕ) (xs : List X) (d : X) (j : ℕ) → list_all (nat_lt n) (map key xs) ≡ true → j < length xs → n < key (get_or xs j d)
all_above key n [] d j h l = absurd (omega arith)
all_above key n (x ∷ xs) d zero h l = ltb-true n (key x) (and_parts (nat_lt n (key x)) (list_all (nat_lt n) (map key xs)) h).0
all_above key n (x ∷ xs) d (suc j) h l = all_above key n xs d j (and_parts (nat_lt n (key x)) (list_all (nat_lt n) (map key xs)) h).1 (omega arith)

pub rising_ascends : {X : Type 0} (key : X → ℕ) (xs : List X) → is_rising (map key xs) ≡ true → IsNonDecreasingBy key xs
unfolding is_rising
rising_ascends key [] h i j d le l = absurd (omega arith)
rising_ascends key (x ∷ xs) h zero zero d le l = omega arith
rising_ascends key (x ∷ xs) h zero (suc j) d le l =
    let above : key x < key (get_or xs j d) = all_above key (key x) xs d j (and_parts (list_all (nat_lt (key x)) (map key xs)) (is_rising (map key xs)) h).0 (omega arith) in
    omega arith
rising_ascends key (x ∷ xs) h (suc i) zero d le l = absurd (omega arith)
rising_ascends key (x ∷ xs) h (suc i) (suc j) d le l = rising_ascends key xs (and_parts (list_all (nat_lt (key x)) (map key xs)) (is_rising (map key xs)) h).1 i j d (omega arith) (omega arith)

-- in a rising list the place of a key is where it stands
pub place_where : {X : Type 0} (key : X → ℕ) (n : ℕ) (xs : List X) (i : ℕ) (x : X) → is_rising (map key xs) ≡ true → i < length xs → x ≡ get_or xs i x → key x ≡ n → place_among key n xs ≡ i
unfolding is_rising
place_where key n [] i x r l e k = absurd (omega arith)
place_where key n (y ∷ xs) zero x r l e k = let same : key x ≡ key y = ap key e in rw (le-ltb (key y) n (omega arith)) refl
place_where key n (y ∷ xs) (suc i) x r l e k =
    let parts = and_parts (list_all (nat_lt (key y)) (map key xs)) (is_rising (map key xs)) r in
    let above : key y < key (get_or xs i x) = all_above key (key y) xs x i parts.0 (omega arith) in
    let same : key x ≡ key (get_or xs i x) = ap key e in
    rw (lt-ltb (key y) n (omega arith)) (ap suc (place_where key n xs i x parts.1 (omega arith) e k))

-- ---- with_use at the place

pub place-le : {X : Type 0} (key : X → ℕ) (n : ℕ) (xs : List X) → place_among key n xs ≤ length xs
place-le key n [] = omega arith
place-le key n (x ∷ xs) = grind (arith, nat_tests, place-le key n xs)

-- the use that is there counts one more
pub with_use-set : (n : ℕ) (us : List Use) (u : Use) → place_among (λ u. u.node) n us < length us → u ≡ get_or us (place_among (λ u. u.node) n us) u → u.node ≡ n
    → with_use n us ≡ slice_set us (place_among (λ u. u.node) n us) (record u { more = u.more + 1 })
unfolding with_use
with_use-set n [] u l e h = absurd (omega arith)
with_use-set n (v ∷ us) u l e h = by (nat_lt v.node n) refl l e (λ l e. with_use-set n us u l e h)
  where
    by : (t : Bool) → nat_lt v.node n ≡ t → cond t (suc (place_among (λ u. u.node) n us)) 0 < length (v ∷ us) → u ≡ get_or (v ∷ us) (cond t (suc (place_among (λ u. u.node) n us)) 0) u
        → (place_among (λ u. u.node) n us < length us → u ≡ get_or us (place_among (λ u. u.node) n us) u → with_use n us ≡ slice_set us (place_among (λ u. u.node) n us) (record u { more = u.more + 1 }))
        → cond t (v ∷ with_use n us) (cond (v.node == n) (record v { more = v.more + 1 } ∷ us) (once n ∷ v ∷ us)) ≡ slice_set (v ∷ us) (cond t (suc (place_among (λ u. u.node) n us)) 0) (record u { more = u.more + 1 })
    by true q l e again = ap (λ z. v ∷ z) (again (omega arith) e)
    by false q l e again = let same : (v.node == n) ≡ true = eq-eqb v.node n (sym (ap (λ z. z.node) e) ∙ h) in rw (same, e) refl

pub with_use-insert : (n : ℕ) (us : List Use) → key_here (λ u. u.node) n us ≡ false → with_use n us ≡ insert us (place_among (λ u. u.node) n us) (once n)
unfolding with_use
with_use-insert n [] h = refl
with_use-insert n (v ∷ us) h = by (nat_lt v.node n) refl h (with_use-insert n us)
  where
    by : (t : Bool) → nat_lt v.node n ≡ t → cond t (key_here (λ u. u.node) n us) (v.node == n) ≡ false
        → (key_here (λ u. u.node) n us ≡ false → with_use n us ≡ insert us (place_among (λ u. u.node) n us) (once n))
        → cond t (v ∷ with_use n us) (cond (v.node == n) (record v { more = v.more + 1 } ∷ us) (once n ∷ v ∷ us)) ≡ insert (v ∷ us) (cond t (suc (place_among (λ u. u.node) n us)) 0) (once n)
    by true q h again = ap (λ z. v ∷ z) (again h)
    by false q h again = rw h refl

-- ---- what stays rising

and_twice : (a c : Bool) → a && c ≡ a && (a && c)
and_twice true c = refl
and_twice false c = refl

pub list_all-with_node : (p : ℕ → Bool) (n : ℕ) (ns : List ℕ) → list_all p (with_node n ns) ≡ (p n && list_all p ns)
unfolding with_node
list_all-with_node p n [] = refl
list_all-with_node p n (m ∷ rest) = by (order m n) (list_all-with_node p n rest)
  where
    by : Order m n → list_all p (with_node n rest) ≡ (p n && list_all p rest)
        → list_all p (cond (nat_lt m n) (m ∷ with_node n rest) (cond (m == n) (m ∷ rest) (n ∷ m ∷ rest))) ≡ (p n && (p m && list_all p rest))
    by (below l) again = rw (l, again) (and_swap (p m) (p n) (list_all p rest))
    by (equal l e same) again = rw (l, e, same) (and_twice (p n) (list_all p rest))
    by (above l e g) again = rw (l, e) refl

list_all_below : (n m : ℕ) (ns : List ℕ) → n < m → list_all (nat_lt m) ns ≡ true → list_all (nat_lt n) ns ≡ true
list_all_below n m [] l h = refl
list_all_below n m (k ∷ ns) l h =
    let parts = and_parts (nat_lt m k) (list_all (nat_lt m) ns) h in
    let first : m < k = ltb-true m k parts.0 in
    and_from (nat_lt n k) (list_all (nat_lt n) ns) (lt-ltb n k (omega arith)) (list_all_below n m ns l parts.1)

pub rising-with_node : (n : ℕ) (ns : List ℕ) → is_rising ns ≡ true → is_rising (with_node n ns) ≡ true
unfolding with_node is_rising
rising-with_node n [] h = refl
rising-with_node n (m ∷ rest) h =
    let parts = and_parts (list_all (nat_lt m) rest) (is_rising rest) h in
    by (order m n) parts.0 parts.1 (rising-with_node n rest parts.1)
  where
    by : Order m n → list_all (nat_lt m) rest ≡ true → is_rising rest ≡ true → is_rising (with_node n rest) ≡ true
        → is_rising (cond (nat_lt m n) (m ∷ with_node n rest) (cond (m == n) (m ∷ rest) (n ∷ m ∷ rest))) ≡ true
    by (below l) first tail again = rw (l, list_all-with_node (nat_lt m) n rest, l, first) again
    by (equal l e same) first tail again = rw (l, e) (and_from _ _ first tail)
    by (above l e g) first tail again = rw (l, e, g, list_all_below n m rest (ltb-true n m g) first, first) tail

pub rising_is_rising : (ns : List ℕ) → is_rising (rising ns) ≡ true
unfolding rising is_rising
rising_is_rising [] = refl
rising_is_rising (n ∷ ns) = rising-with_node n (rising ns) (rising_is_rising ns)

list_all-without : (p : ℕ → Bool) (n : ℕ) (us : List Use) → list_all p (used_nodes us) ≡ true → list_all p (used_nodes (without_use n us)) ≡ true
unfolding used_nodes without_use
list_all-without p n [] h = refl
list_all-without p n (v ∷ rest) h =
    let parts = and_parts (p v.node) (list_all p (map (λ (u : Use). u.node) rest)) h in
    by (nat_lt v.node n) (v.node == n) v.more parts.0 parts.1 (list_all-without p n rest parts.1)
  where
    by : (s t : Bool) (k : ℕ) → p v.node ≡ true → list_all p (map (λ (u : Use). u.node) rest) ≡ true → list_all p (map (λ (u : Use). u.node) (without_use n rest)) ≡ true
        → list_all p (map (λ (u : Use). u.node) (cond s (v ∷ without_use n rest) (cond t (less_use v.node k rest) (v ∷ rest)))) ≡ true
    by true t k first tail again = rw first again
    by false true zero first tail again = tail
    by false true (suc k) first tail again = rw first tail
    by false false k first tail again = rw first tail

pub rising-without : (n : ℕ) (us : List Use) → is_rising (used_nodes us) ≡ true → is_rising (used_nodes (without_use n us)) ≡ true
unfolding used_nodes without_use is_rising
rising-without n [] h = refl
rising-without n (v ∷ rest) h =
    let parts = and_parts (list_all (nat_lt v.node) (map (λ (u : Use). u.node) rest)) (is_rising (map (λ (u : Use). u.node) rest)) h in
    by (nat_lt v.node n) (v.node == n) v.more parts.0 parts.1 (rising-without n rest parts.1) (list_all-without (nat_lt v.node) n rest parts.0)
  where
    by : (s t : Bool) (k : ℕ) → list_all (nat_lt v.node) (map (λ (u : Use). u.node) rest) ≡ true → is_rising (map (λ (u : Use). u.node) rest) ≡ true
        → is_rising (map (λ (u : Use). u.node) (without_use n rest)) ≡ true → list_all (nat_lt v.node) (map (λ (u : Use). u.node) (without_use n rest)) ≡ true
        → is_rising (map (λ (u : Use). u.node) (cond s (v ∷ without_use n rest) (cond t (less_use v.node k rest) (v ∷ rest)))) ≡ true
    by true t k first tail again over = rw over again
    by false true zero first tail again over = tail
    by false true (suc k) first tail again over = rw first tail
    by false false k first tail again over = rw first tail

-- ---- without_use at the place

pub without_use-none : (n : ℕ) (us : List Use) → key_here (λ u. u.node) n us ≡ false → without_use n us ≡ us
unfolding without_use
without_use-none n [] h = refl
without_use-none n (v ∷ us) h = by (nat_lt v.node n) refl h (without_use-none n us)
  where
    by : (t : Bool) → nat_lt v.node n ≡ t → cond t (key_here (λ u. u.node) n us) (v.node == n) ≡ false → (key_here (λ u. u.node) n us ≡ false → without_use n us ≡ us)
        → cond t (v ∷ without_use n us) (cond (v.node == n) (less_use v.node v.more us) (v ∷ us)) ≡ v ∷ us
    by true q h again = ap (λ z. v ∷ z) (again h)
    by false q h again = rw h refl

-- a use with no more goes, and another one counts one less
pub without_use-at : (n : ℕ) (us : List Use) (u : Use) → place_among (λ u. u.node) n us < length us → u ≡ get_or us (place_among (λ u. u.node) n us) u → u.node ≡ n
    → (u.more ≡ 0 → without_use n us ≡ remove us (place_among (λ u. u.node) n us))
    × ((k : ℕ) → u.more ≡ suc k → without_use n us ≡ slice_set us (place_among (λ u. u.node) n us) (record u { more = k }))
unfolding without_use
without_use-at n [] u l e h = absurd (omega arith)
without_use-at n (v ∷ us) u l e h = by (nat_lt v.node n) refl l e (λ l e. without_use-at n us u l e h)
  where
    by : (t : Bool) → nat_lt v.node n ≡ t → cond t (suc (place_among (λ u. u.node) n us)) 0 < length (v ∷ us) → u ≡ get_or (v ∷ us) (cond t (suc (place_among (λ u. u.node) n us)) 0) u
        → (place_among (λ u. u.node) n us < length us → u ≡ get_or us (place_among (λ u. u.node) n us) u
        → (u.more ≡ 0 → without_use n us ≡ remove us (place_among (λ u. u.node) n us))
        × ((k : ℕ) → u.more ≡ suc k → without_use n us ≡ slice_set us (place_among (λ u. u.node) n us) (record u { more = k })))
        → (u.more ≡ 0 → cond t (v ∷ without_use n us) (cond (v.node == n) (less_use v.node v.more us) (v ∷ us)) ≡ remove (v ∷ us) (cond t (suc (place_among (λ u. u.node) n us)) 0))
        × ((k : ℕ) → u.more ≡ suc k → cond t (v ∷ without_use n us) (cond (v.node == n) (less_use v.node v.more us) (v ∷ us)) ≡ slice_set (v ∷ us) (cond t (suc (place_among (λ u. u.node) n us)) 0) (record u { more = k }))
    by true q l e again = let both = again (omega arith) e in ((λ none. ap (λ z. v ∷ z) (both.0 none)), (λ k some. ap (λ z. v ∷ z) (both.1 k some)))
    by false q l e again =
        let same : (v.node == n) ≡ true = eq-eqb v.node n (sym (ap (λ z. z.node) e) ∙ h) in
        let node : v.node ≡ u.node = sym (ap (λ z. z.node) e) in
        let more : v.more ≡ u.more = sym (ap (λ z. z.more) e) in
        ((λ none. rw (same, more, none) refl), (λ k some. rw (same, more, some, node) refl))

pub here-below : {X : Type 0} (key : X → ℕ) (n : ℕ) (xs : List X) → key_here key n xs ≡ true → place_among key n xs < length xs
here-below key n [] h = absurd (false≢true h)
here-below key n (y ∷ xs) h = by (nat_lt (key y) n) h (here-below key n xs)
  where
    by : (t : Bool) → cond t (key_here key n xs) (key y == n) ≡ true → (key_here key n xs ≡ true → place_among key n xs < length xs) → cond t (suc (place_among key n xs)) 0 < suc (length xs)
    by true h again = let more : place_among key n xs < length xs = again h in omega arith
    by false h again = omega arith

pub here-is : {X : Type 0} (key : X → ℕ) (n : ℕ) (xs : List X) (x : X) → key_here key n xs ≡ true → x ≡ get_or xs (place_among key n xs) x → key x ≡ n
here-is key n [] x h e = absurd (false≢true h)
here-is key n (y ∷ xs) x h e = by (nat_lt (key y) n) h e (here-is key n xs x)
  where
    by : (t : Bool) → cond t (key_here key n xs) (key y == n) ≡ true → x ≡ get_or (y ∷ xs) (cond t (suc (place_among key n xs)) 0) x
        → (key_here key n xs ≡ true → x ≡ get_or xs (place_among key n xs) x → key x ≡ n) → key x ≡ n
    by true h e again = again h e
    by false h e again = ap key e ∙ eqb-true (key y) n h

more-below : (us : List Use) (i : ℕ) (u : Use) → i < length us → u ≡ get_or us i u → u.more < total us
unfolding total
more-below [] i u l e = absurd (omega arith)
more-below (v ∷ us) zero u l e = let same : u.more ≡ v.more = ap (λ z. z.more) e in omega arith
more-below (v ∷ us) (suc i) u l e = omega (arith, more-below us i u (omega arith) e)

-- ---- what the code does at the place

pub counted_here : (n : ℕ) (us : List Use) (i : ℕ) (u : Use) → i ≡ place_among (λ u. u.node) n us → key_here (λ u. u.node) n us ≡ true → u ≡ get_or us i u
    → slice_set us i (record u { more = u.more + 1 }) ≡ with_use n us
counted_here n us i u at here e =
    let below : place_among (λ u. u.node) n us < length us = here-below (λ u. u.node) n us here in
    let found : u ≡ get_or us (place_among (λ u. u.node) n us) u = e ∙ ap (λ z. get_or us z u) at in
    let node : u.node ≡ n = here-is (λ u. u.node) n us u here found in
    ap (λ z. slice_set us z (record u { more = u.more + 1 })) at ∙ sym (with_use-set n us u below found node)

pub fits_here : (n : ℕ) (us : List Use) (i : ℕ) (u : Use) → i ≡ place_among (λ u. u.node) n us → key_here (λ u. u.node) n us ≡ true → u ≡ get_or us i u → total us < 65536 → u.more + 1 < 65536
fits_here n us i u at here e few = let below : place_among (λ u. u.node) n us < length us = here-below (λ u. u.node) n us here in omega (arith, more-below us i u (omega arith) e)

pub counted_new : (n : ℕ) (us : List Use) (i : ℕ) → i ≡ place_among (λ u. u.node) n us → key_here (λ u. u.node) n us ≡ false → insert us i (once n) ≡ with_use n us
counted_new n us i at here = ap (λ z. insert us z (once n)) at ∙ sym (with_use-insert n us here)

pub rising-with_use : (n : ℕ) (us : List Use) → is_rising (used_nodes us) ≡ true → is_rising (used_nodes (with_use n us)) ≡ true
rising-with_use n us h = rw (with_use_nodes n us) (rising-with_node n (used_nodes us) h)

pub taken_last : (n : ℕ) (us : List Use) (i : ℕ) (u : Use) → i ≡ place_among (λ u. u.node) n us → key_here (λ u. u.node) n us ≡ true → u ≡ get_or us i u → u.more ≡ 0 → remove us i ≡ without_use n us
taken_last n us i u at here e none =
    let below : place_among (λ u. u.node) n us < length us = here-below (λ u. u.node) n us here in
    let found : u ≡ get_or us (place_among (λ u. u.node) n us) u = e ∙ ap (λ z. get_or us z u) at in
    let node : u.node ≡ n = here-is (λ u. u.node) n us u here found in
    ap (λ z. remove us z) at ∙ sym ((without_use-at n us u below found node).0 none)

pub taken_one : (n : ℕ) (us : List Use) (i : ℕ) (u : Use) (k : ℕ) → i ≡ place_among (λ u. u.node) n us → key_here (λ u. u.node) n us ≡ true → u ≡ get_or us i u → u.more ≡ suc k
    → slice_set us i (record u { more = k }) ≡ without_use n us
taken_one n us i u k at here e some =
    let below : place_among (λ u. u.node) n us < length us = here-below (λ u. u.node) n us here in
    let found : u ≡ get_or us (place_among (λ u. u.node) n us) u = e ∙ ap (λ z. get_or us z u) at in
    let node : u.node ≡ n = here-is (λ u. u.node) n us u here found in
    ap (λ z. slice_set us z (record u { more = k })) at ∙ sym ((without_use-at n us u below found node).1 k some)

pub key_here_get : {X : Type 0} (key : X → ℕ) (n : ℕ) (xs : List X) (i : ℕ) (x : X) → i ≡ place_among key n xs → i < length xs → x ≡ get_or xs i x → (key x == n) ≡ key_here key n xs
key_here_get {X} key n xs i x at l e = sym (found xs (omega arith) (e ∙ ap (λ z. get_or xs z x) at))
  where
    found : (ys : List X) → place_among key n ys < length ys → x ≡ get_or ys (place_among key n ys) x → key_here key n ys ≡ (key x == n)
    found [] l e = absurd (omega arith)
    found (y ∷ ys) l e = by (nat_lt (key y) n) l e (found ys)
      where
        by : (t : Bool) → cond t (suc (place_among key n ys)) 0 < suc (length ys) → x ≡ get_or (y ∷ ys) (cond t (suc (place_among key n ys)) 0) x
            → (place_among key n ys < length ys → x ≡ get_or ys (place_among key n ys) x → key_here key n ys ≡ (key x == n)) → cond t (key_here key n ys) (key y == n) ≡ (key x == n)
        by true l e again = again (omega arith) e
        by false l e again = ap (λ z. key z == n) (sym e)

past : {X : Type 0} (key : X → ℕ) (n : ℕ) (xs : List X) → length xs ≤ place_among key n xs → key_here key n xs ≡ false
past key n [] l = refl
past key n (y ∷ ys) l = by (nat_lt (key y) n) l (past key n ys)
  where
    by : (t : Bool) → suc (length ys) ≤ cond t (suc (place_among key n ys)) 0 → (length ys ≤ place_among key n ys → key_here key n ys ≡ false) → cond t (key_here key n ys) (key y == n) ≡ false
    by true l again = again (omega arith)
    by false l again = absurd (omega arith)

pub key_here_past : {X : Type 0} (key : X → ℕ) (n : ℕ) (xs : List X) (i : ℕ) → i ≡ place_among key n xs → length xs ≤ i → false ≡ key_here key n xs
key_here_past key n xs i at l = sym (past key n xs (omega arith))

pub node_at_is : (us : List Use) (i : ℕ) (u : Use) → i < length us → u ≡ get_or us i u → slice_get (used_nodes us) i ≡ Some u.node
unfolding used_nodes
node_at_is [] i u l e = absurd (omega arith)
node_at_is (v ∷ us) zero u l e = ap (λ z. Some z.node) (sym e)
node_at_is (v ∷ us) (suc i) u l e = node_at_is us i u (omega arith) e

pub suc_less : (n : ℕ) → (n ≡ 0 → ⊥) → n ≡ suc (n - 1)
suc_less zero h = absurd (h refl)
suc_less (suc n) h = omega arith

same_item : {X : Type 0} (us : List X) (i : ℕ) (u v : X) → i < length us → u ≡ get_or us i u → v ≡ get_or us i v → u ≡ v
same_item [] i u v l e f = absurd (omega arith)
same_item (w ∷ us) zero u v l e f = e ∙ sym f
same_item (w ∷ us) (suc i) u v l e f = same_item us i u v (omega arith) e f

pub taken_more : (n : ℕ) (us : List Use) (i : ℕ) (u v : Use) → i ≡ place_among (λ u. u.node) n us → key_here (λ u. u.node) n us ≡ true → u ≡ get_or us i u → v ≡ get_or us i v → (v.more ≡ 0 → ⊥)
    → slice_set us i (record u { more = v.more - 1 }) ≡ without_use n us
taken_more n us i u v at here e f some =
    let below : place_among (λ u. u.node) n us < length us = here-below (λ u. u.node) n us here in
    let same : u ≡ v = same_item us i u v (omega arith) e f in
    taken_one n us i u (v.more - 1) at here e (ap (λ z. z.more) same ∙ suc_less v.more some)
