-- Nodes joined by pairs: joined is an equivalence, and as many steps as there are nodes reach whatever can be reached.
use Rattle.std.proofs.Common.{◌≡◌, refl, sym, ap, ◌∙◌, subst, ℕ, zero, suc, ◌+◌, ◌-◌, ◌<◌, ◌≤◌, Bool, true, false, cond, List, [], ◌∷◌, ◌++◌, length, inl, inr, arith, ◌⊎◌}
use Rattle.std.specs.List.{list_any, flat_map, IsDistinct, AllByRecursion}
use Rattle.std.specs.Cmp.{IsEquivalence}
use Rattle.std.specs.Prelude.{eqb}
use Rattle.std.proofs.lemmas.Bool.{or_cases, eqb-true, eqb-false, eq-eqb, ne_eqb, false≢true, cases_Bool}
use Rattle.std.proofs.lemmas.List.Folds.{list_any-append}
use Rattle.std.proofs.lemmas.Map.Made.{length-le_from_is_member}
use Rattle.std.proofs.lemmas.Map.Keys.{IsDistinct-cons, IsDistinct-tail}
use Rattle.std.proofs.Math.Nat.{add-suc, add-zero}
use Rattle.grid_lemmas.proofs.Bools.{not_either, or_left, or_right}
use Rattle.grid_graph.specs.Joined.{end_across, neighbours, within, joined}

pub empty_distinct : IsDistinct eqb []
unfolding IsDistinct
empty_distinct = tt

-- ---- tests of membership

abbrev pub In : ℕ → List ℕ → Type 0
In c xs = list_any (eqb c) xs ≡ true

pub In_here : (x : ℕ) (xs : List ℕ) → In x (x ∷ xs)
In_here x xs = or_left _ _ (eq-eqb x x refl)

pub In_there : (x y : ℕ) (xs : List ℕ) → In x xs → In x (y ∷ xs)
In_there x y xs h = or_right (eqb x y) _ h

pub In_left : (x : ℕ) (xs ys : List ℕ) → In x xs → In x (xs ++ ys)
In_left x xs ys h = list_any-append (eqb x) xs ys ∙ or_left _ _ h

pub In_right : (x : ℕ) (xs ys : List ℕ) → In x ys → In x (xs ++ ys)
In_right x xs ys h = list_any-append (eqb x) xs ys ∙ or_right (list_any (eqb x) xs) _ h

pub In_parts : (x : ℕ) (xs ys : List ℕ) → In x (xs ++ ys) → In x xs ⊎ In x ys
In_parts x xs ys h = or_cases _ _ (sym (list_any-append (eqb x) xs ys) ∙ h)

pub any_from : (p : ℕ → Bool) (xs : List ℕ) → list_any p xs ≡ true → (x : ℕ) × In x xs × (p x ≡ true)
any_from p [] h = absurd (false≢true h)
any_from p (x ∷ xs) h = elim (or_cases (p x) (list_any p xs) h) [
  | inl e ↦ (x, In_here x xs, e)
  | inr e ↦ let r = any_from p xs e in (r.0, In_there r.0 x xs r.1, r.2)
]

pub any_of : (p : ℕ → Bool) (xs : List ℕ) (x : ℕ) → In x xs → p x ≡ true → list_any p xs ≡ true
any_of p [] x i h = absurd (false≢true i)
any_of p (y ∷ ys) x i h = elim (or_cases (eqb x y) (list_any (eqb x) ys) i) [
  | inl e ↦ or_left (p y) _ (let P : ℕ → Type 0 = λ z. p z ≡ true in subst P (eqb-true x y e) h)
  | inr e ↦ or_right (p y) _ (any_of p ys x e h)
]

-- ---- neighbours

across_cases : (a c x y : ℕ) (e f : Bool) → eqb x a ≡ e → eqb y a ≡ f → In c (cond e (y ∷ []) [] ++ cond f (x ∷ []) []) → ((x ≡ a) × (c ≡ y)) ⊎ ((y ≡ a) × (c ≡ x))
across_cases a c x y true true h k i = elim (or_cases (eqb c y) _ i) [
  | inl g ↦ inl (eqb-true x a h, eqb-true c y g)
  | inr g ↦ elim (or_cases (eqb c x) false g) [ inl g' ↦ inr (eqb-true y a k, eqb-true c x g') | inr g' ↦ absurd (false≢true g') ]
]
across_cases a c x y true false h k i = elim (or_cases (eqb c y) _ i) [ inl g ↦ inl (eqb-true x a h, eqb-true c y g) | inr g ↦ absurd (false≢true g) ]
across_cases a c x y false true h k i = elim (or_cases (eqb c x) _ i) [ inl g ↦ inr (eqb-true y a k, eqb-true c x g) | inr g ↦ absurd (false≢true g) ]
across_cases a c x y false false h k i = absurd (false≢true i)

-- c is across from a exactly where the pair is (a, c) or (c, a)
pub across_from : (a c : ℕ) (pair : ℕ × ℕ) → In c (end_across a pair) → ((pair.0 ≡ a) × (c ≡ pair.1)) ⊎ ((pair.1 ≡ a) × (c ≡ pair.0))
unfolding end_across
across_from a c pair i = across_cases a c pair.0 pair.1 _ _ refl refl i

pub across_first : (a : ℕ) (pair : ℕ × ℕ) → pair.0 ≡ a → In pair.1 (end_across a pair)
unfolding end_across
across_first a pair h = rw (eq-eqb pair.0 a h) (In_left pair.1 (pair.1 ∷ []) _ (In_here pair.1 []))

pub across_second : (a : ℕ) (pair : ℕ × ℕ) → pair.1 ≡ a → In pair.0 (end_across a pair)
unfolding end_across
across_second a pair h = rw (eq-eqb pair.1 a h) (In_right pair.0 _ (pair.0 ∷ []) (In_here pair.0 []))

across_back : (a c : ℕ) (pair : ℕ × ℕ) → In c (end_across a pair) → In a (end_across c pair)
across_back a c pair i = elim (across_from a c pair i) [
  | inl h ↦ let P : ℕ → Type 0 = λ z. In z (end_across c pair) in subst P h.0 (across_second c pair (sym h.1))
  | inr h ↦ let P : ℕ → Type 0 = λ z. In z (end_across c pair) in subst P h.0 (across_first c pair (sym h.1))
]

pub neighbours_back : (pairs : List (ℕ × ℕ)) (a c : ℕ) → In c (neighbours pairs a) → In a (neighbours pairs c)
unfolding neighbours
neighbours_back [] a c i = i
neighbours_back (p ∷ ps) a c i = elim (In_parts c (end_across a p) (flat_map (end_across a) ps) i) [
  | inl h ↦ In_left a (end_across c p) (flat_map (end_across c) ps) (across_back a c p h)
  | inr h ↦ In_right a (end_across c p) (flat_map (end_across c) ps) (neighbours_back ps a c h)
]

-- ---- within

pub within_here : (pairs : List (ℕ × ℕ)) (k a : ℕ) → within pairs k a a ≡ true
unfolding within
within_here pairs zero a = eq-eqb a a refl
within_here pairs (suc k) a = or_left _ _ (eq-eqb a a refl)

pub within_step : (pairs : List (ℕ × ℕ)) (k a b c : ℕ) → In c (neighbours pairs a) → within pairs k c b ≡ true → within pairs (suc k) a b ≡ true
unfolding within
within_step pairs k a b c i h = or_right (eqb a b) _ (any_of (λ d. within pairs k d b) (neighbours pairs a) c i h)

pub within_parts : (pairs : List (ℕ × ℕ)) (k a b : ℕ) → within pairs (suc k) a b ≡ true → (a ≡ b) ⊎ ((c : ℕ) × In c (neighbours pairs a) × (within pairs k c b ≡ true))
unfolding within
within_parts pairs k a b h = elim (or_cases (eqb a b) _ h) [ inl e ↦ inl (eqb-true a b e) | inr e ↦ inr (any_from (λ d. within pairs k d b) (neighbours pairs a) e) ]

within_zero : (pairs : List (ℕ × ℕ)) (a b : ℕ) → within pairs zero a b ≡ true → a ≡ b
unfolding within
within_zero pairs a b h = eqb-true a b h

within_eq : (pairs : List (ℕ × ℕ)) (k a b : ℕ) → a ≡ b → within pairs k a b ≡ true
within_eq pairs k a b e = let P : ℕ → Type 0 = λ z. within pairs k a z ≡ true in subst P e (within_here pairs k a)

-- one step more reaches no less
pub within_more : (pairs : List (ℕ × ℕ)) (k a b : ℕ) → within pairs k a b ≡ true → within pairs (suc k) a b ≡ true
within_more pairs zero a b h = within_eq pairs (suc zero) a b (within_zero pairs a b h)
within_more pairs (suc k) a b h = elim (within_parts pairs k a b h) [
  | inl e ↦ within_eq pairs (suc (suc k)) a b e
  | inr r ↦ within_step pairs (suc k) a b r.0 r.1 (within_more pairs k r.0 b r.2)
]

within_add : (pairs : List (ℕ × ℕ)) (k d a b : ℕ) → within pairs k a b ≡ true → within pairs (k + d) a b ≡ true
within_add pairs k zero a b h = rw (add-zero k) h
within_add pairs k (suc d) a b h = rw (add-suc k d) (within_more pairs (k + d) a b (within_add pairs k d a b h))

pub within_le : (pairs : List (ℕ × ℕ)) (k n a b : ℕ) → k ≤ n → within pairs k a b ≡ true → within pairs n a b ≡ true
within_le pairs k n a b le h = let e : k + (n - k) ≡ n = omega arith in let P : ℕ → Type 0 = λ m. within pairs m a b ≡ true in subst P e (within_add pairs k (n - k) a b h)

-- ---- walks: the nodes that are visited after the first

unfoldable pub Walk : List (ℕ × ℕ) → ℕ → ℕ → List ℕ → Type 0
Walk pairs a b [] = a ≡ b
Walk pairs a b (c ∷ rest) = In c (neighbours pairs a) × Walk pairs c b rest

pub within_Walk : (pairs : List (ℕ × ℕ)) (a b : ℕ) (visited : List ℕ) → Walk pairs a b visited → within pairs (length visited) a b ≡ true
unfolding Walk
within_Walk pairs a b [] w = within_eq pairs zero a b w
within_Walk pairs a b (c ∷ rest) w = within_step pairs (length rest) a b c w.0 (within_Walk pairs c b rest w.1)

pub Walk_within : (pairs : List (ℕ × ℕ)) (k a b : ℕ) → within pairs k a b ≡ true → (visited : List ℕ) × Walk pairs a b visited
unfolding Walk
Walk_within pairs zero a b h = ([], within_zero pairs a b h)
Walk_within pairs (suc k) a b h = elim (within_parts pairs k a b h) [
  | inl e ↦ ([], e)
  | inr r ↦ let w = Walk_within pairs k r.0 b r.2 in (r.0 ∷ w.0, (r.1, w.1))
]

-- a walk that visits no node twice
pub record Simple (pairs : List (ℕ × ℕ)) (a b : ℕ) (visited : List ℕ) : Type 0 where
  pub walk : Walk pairs a b visited
  pub distinct : IsDistinct eqb (a ∷ visited)

-- a simple walk that passes a, from a on
cut_here : (pairs : List (ℕ × ℕ)) (a b c : ℕ) (visited : List ℕ) → a ≡ c → Walk pairs c b visited → IsDistinct eqb (c ∷ visited) → (rest : List ℕ) × Simple pairs a b rest
cut_here pairs a b c visited e w d =
    let P : ℕ → Type 0 = λ z. Walk pairs z b visited in
    let Q : ℕ → Type 0 = λ z. IsDistinct eqb (z ∷ visited) in
    (visited, record { walk = subst P (sym e) w; distinct = subst Q (sym e) d })

cut : (pairs : List (ℕ × ℕ)) (a b c : ℕ) (visited : List ℕ) → Walk pairs c b visited → IsDistinct eqb (c ∷ visited) → In a (c ∷ visited) → (rest : List ℕ) × Simple pairs a b rest
unfolding Walk
cut pairs a b c [] w d i = elim (or_cases (eqb a c) false i) [ inl e ↦ cut_here pairs a b c [] (eqb-true a c e) w d | inr e ↦ absurd (false≢true e) ]
cut pairs a b c (v ∷ vs) w d i = elim (or_cases (eqb a c) (list_any (eqb a) (v ∷ vs)) i) [
  | inl e ↦ cut_here pairs a b c (v ∷ vs) (eqb-true a c e) w d
  | inr e ↦ cut pairs a b v vs w.1 (IsDistinct-tail eqb c (v ∷ vs) d) e
]

pub absent : (a : ℕ) (xs : List ℕ) → list_any (eqb a) xs ≡ false → AllByRecursion (λ y. eqb a y ≡ false) xs
absent a [] h = tt
absent a (x ∷ xs) h = let parts = not_either (eqb a x) (list_any (eqb a) xs) h in (parts.0, absent a xs parts.1)

-- whatever a walk reaches, a simple one does
pub simple_from : (pairs : List (ℕ × ℕ)) (a b : ℕ) (visited : List ℕ) → Walk pairs a b visited → (rest : List ℕ) × Simple pairs a b rest
unfolding Walk
simple_from pairs a b [] w = ([], record { walk = w; distinct = IsDistinct-cons eqb a [] tt empty_distinct })
simple_from pairs a b (c ∷ rest) w =
    let r = simple_from pairs c b rest w.1 in
    elim (cases_Bool (list_any (eqb a) (c ∷ r.0))) [
      | inl e ↦ cut pairs a b c r.0 r.1.walk r.1.distinct e
      | inr e ↦ (c ∷ r.0, record { walk = (w.0, r.1.walk); distinct = IsDistinct-cons eqb a (c ∷ r.0) (absent a (c ∷ r.0) e) r.1.distinct })
    ]

-- ---- as many steps as there are nodes

-- the nodes hold a and whatever is across from one of them
pub record Holds (nodes : List ℕ) (pairs : List (ℕ × ℕ)) : Type 0 where
  pub across : (a c : ℕ) → In c (neighbours pairs a) → In c nodes

pub visited_in : (nodes : List ℕ) (pairs : List (ℕ × ℕ)) → Holds nodes pairs → (a b : ℕ) (visited : List ℕ) → Walk pairs a b visited → In a nodes → (q : ℕ) → In q (a ∷ visited) → In q nodes
unfolding Walk
visited_in nodes pairs h a b [] w i q j = elim (or_cases (eqb q a) false j) [ inl e ↦ (let P : ℕ → Type 0 = λ z. In z nodes in subst P (sym (eqb-true q a e)) i) | inr e ↦ absurd (false≢true e) ]
visited_in nodes pairs h a b (c ∷ rest) w i q j = elim (or_cases (eqb q a) (list_any (eqb q) (c ∷ rest)) j) [
  | inl e ↦ (let P : ℕ → Type 0 = λ z. In z nodes in subst P (sym (eqb-true q a e)) i)
  | inr e ↦ visited_in nodes pairs h c b rest w.1 (h.across a c w.0) q e
]

eqb_symm : (a b : ℕ) (t : Bool) → eqb b a ≡ t → eqb a b ≡ t
eqb_symm a b true e = eq-eqb a b (sym (eqb-true b a e))
eqb_symm a b false e = ne_eqb a b (λ g. eqb-false b a e (sym g))

pub eqb_laws : IsEquivalence eqb
eqb_laws = record {
  refl = λ x. eq-eqb x x refl;
  symm = λ x y. eqb_symm x y _ refl;
  congr = λ x y z h. ap (λ t. eqb t z) (eqb-true x y h);
}

-- whatever any number of steps reaches from a node, as many steps as there are nodes do
pub within_saturates : (nodes : List ℕ) (pairs : List (ℕ × ℕ)) → Holds nodes pairs → (k a b : ℕ) → In a nodes → within pairs k a b ≡ true → joined nodes pairs a b ≡ true
unfolding joined
within_saturates nodes pairs h k a b i w =
    let walk = Walk_within pairs k a b w in
    let simple = simple_from pairs a b walk.0 walk.1 in
    let few : length (a ∷ simple.0) ≤ length nodes =
    length-le_from_is_member eqb_laws (a ∷ simple.0) nodes simple.1.distinct (visited_in nodes pairs h a b simple.0 simple.1.walk i) in
    let fewer : length simple.0 ≤ length nodes = omega (arith, few) in
    within_le pairs (length simple.0) (length nodes) a b fewer (within_Walk pairs a b simple.0 simple.1.walk)

-- ---- joined is an equivalence

pub joined_refl : (nodes : List ℕ) (pairs : List (ℕ × ℕ)) (a : ℕ) → joined nodes pairs a a ≡ true
unfolding joined
joined_refl nodes pairs a = within_here pairs (length nodes) a

-- a walk goes on by another
longer : (pairs : List (ℕ × ℕ)) (a b c : ℕ) (first second : List ℕ) → Walk pairs a b first → Walk pairs b c second → Walk pairs a c (first ++ second)
unfolding Walk
longer pairs a b c [] second w v = let P : ℕ → Type 0 = λ z. Walk pairs z c second in subst P (sym w) v
longer pairs a b c (d ∷ rest) second w v = (w.0, longer pairs d b c rest second w.1 v)

-- and back
back : (pairs : List (ℕ × ℕ)) (a b : ℕ) (visited : List ℕ) → Walk pairs a b visited → (other : List ℕ) × Walk pairs b a other
unfolding Walk
back pairs a b [] w = ([], sym w)
back pairs a b (c ∷ rest) w =
    let r = back pairs c b rest w.1 in
    (r.0 ++ a ∷ [], longer pairs b c a r.0 (a ∷ []) r.1 (neighbours_back pairs a c w.0, refl))

pub joined_trans : (nodes : List ℕ) (pairs : List (ℕ × ℕ)) → Holds nodes pairs → (a b c : ℕ) → In a nodes → joined nodes pairs a b ≡ true → joined nodes pairs b c ≡ true → joined nodes pairs a c ≡ true
unfolding joined
joined_trans nodes pairs h a b c i w v =
    let p = Walk_within pairs (length nodes) a b w in
    let q = Walk_within pairs (length nodes) b c v in
    within_saturates nodes pairs h _ a c i (within_Walk pairs a c (p.0 ++ q.0) (longer pairs a b c p.0 q.0 p.1 q.1))

pub joined_symm : (nodes : List ℕ) (pairs : List (ℕ × ℕ)) → Holds nodes pairs → (a b : ℕ) → In b nodes → joined nodes pairs a b ≡ true → joined nodes pairs b a ≡ true
unfolding joined
joined_symm nodes pairs h a b i w =
    let p = Walk_within pairs (length nodes) a b w in
    let r = back pairs a b p.0 p.1 in
    within_saturates nodes pairs h _ b a i (within_Walk pairs b a r.0 r.1)

pub some_member : (x : ℕ) (xs : List ℕ) → In x xs → 0 < length xs
some_member x [] i = absurd (false≢true i)
some_member x (y ∷ ys) i = omega arith
