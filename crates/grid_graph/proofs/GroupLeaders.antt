-- Least nodes lead groups.
use Rattle.std.proofs.Common.{◌≡◌, refl, sym, ap, subst, ℕ, suc, ◌+◌, ◌<◌, ◌≤◌, Bool, true, false, cond, ◌&&◌, List, [], ◌∷◌, length, get_or, Some, inl, inr, arith}
use Rattle.std.specs.Prelude.{eqb, filter, nat_lt, slice_get}
use Rattle.std.specs.List.{list_any, flat_map}
use Rattle.std.specs.List.Sorted.{IsStrictlyIncreasing}
use Rattle.std.proofs.lemmas.Bool.{false≢true, both_ways, or_cases, cases_Bool, cases_eq, cases_lt, eqb-true, lt-ltb, ltb-true, not-true}
use Rattle.std.proofs.lemmas.List.Kept.{AllPairs-from_increasing}
use Rattle.grid_lemmas.proofs.Bools.{not_false}
use Rattle.grid_graph.specs.Joined.{end_across, neighbours, joined, is_least, least_nodes, group_of}
use Rattle.grid_graph.specs.Laws.{EndsAmong}
use Rattle.grid_graph.proofs.Reach.{In, In_here, In_there, In_parts, across_from, Holds, any_from, any_of, joined_symm, joined_trans, joined_refl}
use Rattle.grid_graph.proofs.Least.{In_filter, filter_In}

-- ---- the nodes hold whatever is across from one of them

neighbour_among : (nodes : List ℕ) (pairs : List (ℕ × ℕ)) → EndsAmong nodes pairs → (a c : ℕ) → In c (neighbours pairs a) → In c nodes
unfolding neighbours
neighbour_among nodes [] ends a c i = absurd (false≢true i)
neighbour_among nodes (p ∷ ps) ends a c i = elim (In_parts c (end_across a p) (flat_map (end_across a) ps) i) [
  | inl h ↦ (let here = ends 0 p (omega arith) in let P : ℕ → Type 0 = λ z. In z nodes in
      elim (across_from a c p h) [ inl g ↦ subst P (sym g.1) here.1 | inr g ↦ subst P (sym g.1) here.0 ])
  | inr h ↦ neighbour_among nodes ps (λ k d lt. ends (suc k) d (omega arith)) a c h
]

pub among_holds : (nodes : List ℕ) (pairs : List (ℕ × ℕ)) → EndsAmong nodes pairs → Holds nodes pairs
among_holds nodes pairs ends = record { across = neighbour_among nodes pairs ends }

-- ---- rising lists

-- each number of the tail is above the first
above_first : (x : ℕ) (xs : List ℕ) → IsStrictlyIncreasing (x ∷ xs) → (y : ℕ) → In y xs → x < y
above_first x xs rise y i = go xs y (λ k lt. AllPairs-from_increasing (x ∷ xs) rise 0 (suc k) 0 (omega arith) (omega arith)) i
  where
    go : (ys : List ℕ) (z : ℕ) → ((k : ℕ) → k < length ys → x < get_or ys k 0) → In z ys → x < z
    go [] z f j = absurd (false≢true j)
    go (w ∷ ws) z f j = elim (or_cases (eqb z w) (list_any (eqb z) ws) j) [
      | inl e ↦ (let P : ℕ → Type 0 = λ n. x < n in subst P (sym (eqb-true z w e)) (f 0 (omega arith)))
      | inr h ↦ go ws z (λ k lt. f (suc k) (omega arith)) h
    ]

rising_rest : (x : ℕ) (xs : List ℕ) → IsStrictlyIncreasing (x ∷ xs) → IsStrictlyIncreasing xs
rising_rest x xs rise k lt = let e : suc k + 1 ≡ suc (k + 1) = omega arith in AllPairs-from_increasing (x ∷ xs) rise (suc k) (suc (k + 1)) 0 (omega arith) (omega arith)

-- the first number of a rising list at which a test passes is the least one
first_is : (p : ℕ → Bool) (xs : List ℕ) (a : ℕ) → IsStrictlyIncreasing xs → In a xs → p a ≡ true → ((b : ℕ) → In b xs → b < a → p b ≡ false) → slice_get (filter p xs) 0 ≡ Some a
first_is p [] a rise i h none = absurd (false≢true i)
first_is p (x ∷ xs) a rise i h none = elim (or_cases (eqb a x) (list_any (eqb a) xs) i) [
  | inl e ↦ (let same : a ≡ x = eqb-true a x e in let here : p x ≡ true = (let P : ℕ → Type 0 = λ z. p z ≡ true in subst P same h) in
      let P : Bool → Type 0 = λ t. slice_get (cond t (x ∷ filter p xs) (filter p xs)) 0 ≡ Some a in
      subst P (sym here) (ap (λ z. Some z) (sym same)))
  | inr j ↦ (let past : p x ≡ false = none x (In_here x xs) (above_first x xs rise a j) in
      let P : Bool → Type 0 = λ t. slice_get (cond t (x ∷ filter p xs) (filter p xs)) 0 ≡ Some a in
      subst P (sym past) (first_is p xs a (rising_rest x xs rise) j h (λ b k. none b (In_there b x xs k))))
]

-- there is a least one
least_of : (p : ℕ → Bool) (xs : List ℕ) (b : ℕ) → IsStrictlyIncreasing xs → In b xs → p b ≡ true → (a : ℕ) × In a xs × (p a ≡ true) × ((c : ℕ) → In c xs → p c ≡ true → a ≤ c)
least_of p [] b rise i h = absurd (false≢true i)
least_of p (x ∷ xs) b rise i h = elim (cases_Bool (p x)) [
  | inl e ↦ (
    x,
    In_here x xs,
    e,
    λ c j k. elim (or_cases (eqb c x) (list_any (eqb c) xs) j) [
      | inl g ↦ (let same : c ≡ x = eqb-true c x g in omega (arith, same))
      | inr g ↦ (let above : x < c = above_first x xs rise c g in omega (arith, above))
    ],
  )
  | inr e ↦ elim (or_cases (eqb b x) (list_any (eqb b) xs) i) [
    | inl g ↦ absurd (both_ways (p x) e (let P : ℕ → Type 0 = λ z. p z ≡ true in subst P (eqb-true b x g) h))
    | inr g ↦ (let r = least_of p xs b (rising_rest x xs rise) g h in (
      r.0,
      In_there r.0 x xs r.1,
      r.2,
      λ c j k. elim (or_cases (eqb c x) (list_any (eqb c) xs) j) [
        | inl f ↦ absurd (both_ways (p x) e (let P : ℕ → Type 0 = λ z. p z ≡ true in subst P (eqb-true c x f) k))
        | inr f ↦ r.3 c f k
      ],
    ))
  ]
]

-- ---- least nodes

and_false : (s t : Bool) → s && t ≡ false → s ≡ true → t ≡ false
and_false true t e h = e
and_false false t e h = absurd (false≢true h)

and_true : (s t : Bool) → s && t ≡ true → (s ≡ true) × (t ≡ true)
and_true true t e = (refl, e)
and_true false t e = absurd (false≢true e)

none_of : (p : ℕ → Bool) (xs : List ℕ) (x : ℕ) → list_any p xs ≡ false → In x xs → p x ≡ false
none_of p xs x none i = elim (cases_Bool (p x)) [ inl h ↦ absurd (both_ways _ none (any_of p xs x i h)) | inr h ↦ h ]

-- no lesser node is joined to a least node
pub least_apart_from : (nodes : List ℕ) (pairs : List (ℕ × ℕ)) (a b : ℕ) → is_least nodes pairs a ≡ true → In b nodes → b < a → joined nodes pairs a b ≡ false
unfolding is_least
least_apart_from nodes pairs a b least i lt =
    and_false (nat_lt b a) (joined nodes pairs a b) (none_of (λ c. nat_lt c a && joined nodes pairs a c) nodes b (not-true _ least) i) (lt-ltb b a lt)

-- what is joined to no lesser node is a least node
pub none_joined : (nodes : List ℕ) (pairs : List (ℕ × ℕ)) (a : ℕ) → ((c : ℕ) → In c nodes → joined nodes pairs a c ≡ true → a ≤ c) → is_least nodes pairs a ≡ true
unfolding is_least
none_joined nodes pairs a least = elim (cases_Bool (list_any (λ c. nat_lt c a && joined nodes pairs a c) nodes)) [
  | inl h ↦ (let r = any_from (λ c. nat_lt c a && joined nodes pairs a c) nodes h in
      let parts = and_true (nat_lt r.0 a) (joined nodes pairs a r.0) r.2 in
      let less : r.0 < a = ltb-true r.0 a parts.0 in
      let more : a ≤ r.0 = least r.0 r.1 parts.1 in
      absurd (omega (arith, less, more)))
  | inr h ↦ not_false _ h
]

pub first_least : (nodes : List ℕ) (pairs : List (ℕ × ℕ)) (a : ℕ) → IsStrictlyIncreasing nodes → In a (least_nodes nodes pairs) → slice_get (group_of nodes pairs a) 0 ≡ Some a
unfolding least_nodes group_of
first_least nodes pairs a rise i =
    let r = filter_In (is_least nodes pairs) a nodes i in
    first_is (joined nodes pairs a) nodes a rise r.0 (joined_refl nodes pairs a) (λ b j lt. least_apart_from nodes pairs a b r.1 j lt)

pub led_by : (nodes : List ℕ) (pairs : List (ℕ × ℕ)) (b : ℕ) → IsStrictlyIncreasing nodes → Holds nodes pairs → In b nodes → (a : ℕ) × In a (least_nodes nodes pairs) × (joined nodes pairs a b ≡ true)
unfolding least_nodes
led_by nodes pairs b rise holds i =
    let r = least_of (joined nodes pairs b) nodes b rise i (joined_refl nodes pairs b) in
    let least : is_least nodes pairs r.0 ≡ true = none_joined nodes pairs r.0 (λ c j k. r.3 c j (joined_trans nodes pairs holds b r.0 c i r.2 k)) in
    (r.0, In_filter (is_least nodes pairs) r.0 nodes r.1 least, joined_symm nodes pairs holds b r.0 r.1 r.2)

-- a node is the least of its group, and joined to another one
abbrev pub Leads : List ℕ → List (ℕ × ℕ) → ℕ → ℕ → Type 0
Leads nodes pairs a b = In a (least_nodes nodes pairs) × (joined nodes pairs a b ≡ true)

pub leads_alone : (nodes : List ℕ) (pairs : List (ℕ × ℕ)) (a c b : ℕ) → Holds nodes pairs → In b nodes → Leads nodes pairs a b → Leads nodes pairs c b → a ≡ c
unfolding least_nodes
leads_alone nodes pairs a c b holds there h k =
    let r = filter_In (is_least nodes pairs) a nodes h.0 in
    let s = filter_In (is_least nodes pairs) c nodes k.0 in
    let forth : joined nodes pairs a c ≡ true = joined_trans nodes pairs holds a b c r.0 h.1 (joined_symm nodes pairs holds c b there k.1) in
    let back : joined nodes pairs c a ≡ true = joined_symm nodes pairs holds a c s.0 forth in
    elim (cases_lt a c) [
      | inl lt ↦ absurd (both_ways _ (least_apart_from nodes pairs c a s.1 r.0 lt) back)
      | inr le ↦ elim (cases_eq a c) [
        | inl e ↦ e
        | inr ne ↦ (let less : c < a = omega (arith, le, ne) in absurd (both_ways _ (least_apart_from nodes pairs a c r.1 s.0 less) forth))
      ]
    ]
