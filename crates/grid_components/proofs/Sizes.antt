-- The sizes of groups, as counts of the nodes of one label.
use Rattle.std.proofs.Common.{◌≡◌, refl, sym, ap, ◌∙◌, subst, ℕ, zero, suc, ◌+◌, ◌-◌, ◌<◌, ◌≤◌, Bool, true, false, cond, ◌&&◌, List, [], ◌∷◌, length, arith, inl, inr, ◌⊎◌}
use Rattle.std.specs.Prelude.{eqb, filter, count_by, nat_lt, map}
use Rattle.std.specs.List.{range_with_len}
use Rattle.std.proofs.lemmas.Bool.{false≢true, both_ways, cases_Bool, eq-eqb, ne_eqb, lt-ltb, le-ltb}
use Rattle.std.proofs.lemmas.List.Sums.{length-filter}
use Rattle.grid_lemmas.proofs.Bools.{and_true}
use Rattle.grid_graph.specs.Components.{places}
use Rattle.grid_graph.proofs.Reach.{In}
use Rattle.grid_graph.proofs.Places.{AreBelow, In_places, places_In}
use Rattle.grid_graph.specs.Graph.{Graph, joined_in, least_joined, count_joined}
use Rattle.grid_graph.proofs.FilteredNodes.{counts_none}
use Rattle.grid_components.specs.Ranks.{is_key}
use Rattle.grid_graph.proofs.Least.{least_same, joined_from_least, n_refl, n_same, In_filter}
use Rattle.grid_graph.proofs.Least.{leads_itself}
use Rattle.grid_components.proofs.Tallies.{counts_same}

-- ---- counts over a map, a filter, and the places below one

same_cond : (t : Bool) (x y : ℕ) (a b : List ℕ) → length a ≡ length b → length (cond t (x ∷ a) a) ≡ length (cond t (y ∷ b) b)
same_cond true x y a b e = omega (arith, e)
same_cond false x y a b e = e

filters_map : (p : ℕ → Bool) (f : ℕ → ℕ) (xs : List ℕ) → length (filter p (map f xs)) ≡ length (filter (λ x. p (f x)) xs)
filters_map p f [] = refl
filters_map p f (x ∷ xs) = same_cond (p (f x)) (f x) x (filter p (map f xs)) (filter (λ y. p (f y)) xs) (filters_map p f xs)

pub counts_map : (p : ℕ → Bool) (f : ℕ → ℕ) (xs : List ℕ) → count_by p (map f xs) ≡ count_by (λ x. p (f x)) xs
counts_map p f xs = sym (length-filter p (map f xs)) ∙ filters_map p f xs ∙ length-filter (λ x. p (f x)) xs

-- groups that rank before one, of the nodes that pass
groups_cond : (s t : Bool) (g : List ℕ) (x : ℕ) (a : List (List ℕ)) (b : List ℕ) → length a ≡ length b → length (cond s (g ∷ a) a) ≡ length (cond s (x ∷ b) b)
groups_cond true t g x a b e = omega (arith, e)
groups_cond false t g x a b e = e

groups_step : (p : List ℕ → Bool) (f : ℕ → List ℕ) (q : ℕ → Bool) (x : ℕ) (xs : List ℕ) (t : Bool) → length (filter p (map f (filter q xs))) ≡ length (filter (λ y. q y && p (f y)) xs)
    → length (filter p (map f (cond t (x ∷ filter q xs) (filter q xs)))) ≡ length (cond (t && p (f x)) (x ∷ filter (λ y. q y && p (f y)) xs) (filter (λ y. q y && p (f y)) xs))
groups_step p f q x xs true e = groups_cond (p (f x)) true (f x) x (filter p (map f (filter q xs))) (filter (λ y. q y && p (f y)) xs) e
groups_step p f q x xs false e = e

and_false : (a : Bool) → (a && false) ≡ false
and_false true = refl
and_false false = refl

filters_past : (p : ℕ → Bool) (l low n : ℕ) → l ≤ low → filter (λ x. p x && nat_lt x l) (range_with_len low n) ≡ []
filters_past p l low zero le = refl
filters_past p l low (suc n) le =
    let e : (p low && nat_lt low l) ≡ false = ap (λ t. p low && t) (le-ltb low l le) ∙ and_false (p low) in
    rw e (filters_past p l (low + 1) n (omega arith))

filters_below : (p : ℕ → Bool) (l low a b : ℕ) → l ≡ low + a → length (filter (λ x. p x && nat_lt x l) (range_with_len low (a + b))) ≡ length (filter p (range_with_len low a))
filters_below p l low zero b e = let same : zero + b ≡ b = omega arith in rw (same, filters_past p l low b (omega (arith, e))) refl
filters_below p l low (suc a) b e =
    let same : suc a + b ≡ suc (a + b) = omega arith in
    let head : (p low && nat_lt low l) ≡ p low = ap (λ t. p low && t) (lt-ltb low l (omega (arith, e))) ∙ and_true (p low) in
    let rest : length (filter (λ x. p x && nat_lt x l) (range_with_len (low + 1) (a + b))) ≡ length (filter p (range_with_len (low + 1) a)) = filters_below p l (low + 1) a b (omega (arith, e)) in
    rw (same, head) (same_cond (p low) low low (filter (λ x. p x && nat_lt x l) (range_with_len (low + 1) (a + b))) (filter p (range_with_len (low + 1) a)) rest)

pub groups_count : (p : List ℕ → Bool) (f : ℕ → List ℕ) (q : ℕ → Bool) (xs : List ℕ) → length (filter p (map f (filter q xs))) ≡ length (filter (λ x. q x && p (f x)) xs)
groups_count p f q [] = refl
groups_count p f q (x ∷ xs) = groups_step p f q x xs (q x) (groups_count p f q xs)

pub count_below : (p : ℕ → Bool) (l n : ℕ) → l ≤ n → count_by (λ x. p x && nat_lt x l) (places n) ≡ count_by p (places l)
unfolding places
count_below p l n le =
    let e : l + (n - l) ≡ n = omega (arith, le) in
    let P : ℕ → Type 0 = λ m. length (filter (λ x. p x && nat_lt x l) (range_with_len 0 m)) ≡ length (filter p (range_with_len 0 l)) in
    sym (length-filter (λ x. p x && nat_lt x l) (range_with_len 0 n)) ∙ subst P e (filters_below p l 0 l (n - l) (omega arith)) ∙ length-filter p (range_with_len 0 l)

-- ---- the sizes

-- how often each node is a least one
unfoldable pub size_of : Graph → ℕ → ℕ
size_of net x = count_by (λ y. is_key x (least_joined net y)) (places net.nodes)

pub size_leads : (net : Graph) (x : ℕ) → AreBelow net.nodes net.pairs → x < net.nodes → least_joined net x ≡ x → size_of net x ≡ count_joined net x
unfolding size_of count_joined
size_leads net x fit lt leads = counts_same (λ y. is_key x (least_joined net y)) (joined_in net x) (places net.nodes) (λ y i. same y (places_In y net.nodes i) (cases_Bool (joined_in net x y)))
  where
    same : (y : ℕ) → y < net.nodes → (joined_in net x y ≡ true) ⊎ (joined_in net x y ≡ false) → eqb (least_joined net y) x ≡ joined_in net x y
    same y less (inl j) = eq-eqb (least_joined net y) x (sym (least_same net x y fit lt j) ∙ leads) ∙ sym j
    same y less (inr j) = ne_eqb (least_joined net y) x (λ e. both_ways (joined_in net x y) j (joined_from_least net x y fit lt less (leads ∙ sym e))) ∙ sym j

pub size_other : (net : Graph) (x : ℕ) → AreBelow net.nodes net.pairs → (least_joined net x ≡ x → ⊥) → size_of net x ≡ 0
unfolding size_of
size_other net x fit other = counts_none (λ y. is_key x (least_joined net y)) (places net.nodes) (λ y i. ne_eqb (least_joined net y) x (λ e. other (leads_itself net y x fit (places_In y net.nodes i) e)))

In_length : (x : ℕ) (xs : List ℕ) → In x xs → 1 ≤ length xs
In_length x [] i = absurd (false≢true i)
In_length x (y ∷ ys) i = omega arith

pub joined_some : (net : Graph) (x : ℕ) → AreBelow net.nodes net.pairs → x < net.nodes → 1 ≤ count_joined net x
unfolding count_joined
joined_some net x fit lt = rw (← length-filter (joined_in net x) (places net.nodes)) (In_length x (filter (joined_in net x) (places net.nodes)) (In_filter (joined_in net x) x (places net.nodes) (In_places x net.nodes lt) (n_refl net x fit)))

-- a bus counts as many as its least one
pub count_same : (net : Graph) (a b : ℕ) → AreBelow net.nodes net.pairs → a < net.nodes → joined_in net a b ≡ true → count_joined net a ≡ count_joined net b
unfolding count_joined
count_same net a b fit lt h = counts_same (joined_in net a) (joined_in net b) (places net.nodes) (λ x i. n_same net a b x fit lt h)
