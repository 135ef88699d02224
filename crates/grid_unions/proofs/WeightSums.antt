-- Sums of weights: over the list of a class, over a class of a larger graph, and over component 0.
use Rattle.std.proofs.Common.{◌≡◌, refl, sym, ap, ◌∙◌, subst, ℕ, ℤ, pos, suc, ◌+◌, ◌<◌, ◌+ℤ◌, Bool, true, false, cond, List, [], ◌∷◌, length, get_or, map, inl, inr, arith}
use Rattle.std.specs.Prelude.{eqb, filter, fold, zip}
use Rattle.std.specs.List.{range_with_len}
use Rattle.std.proofs.lemmas.Bool.{or_cases, eqb-true, false≢true}
use Rattle.std.proofs.lemmas.List.Folds.{fold-map}
use Rattle.std.proofs.Math.IntN.{+ℤ_idl}
use Rattle.grid_graph.specs.Joined.{joined, group_of}
use Rattle.grid_graph.specs.Components.{places, component_number, component_numbers}
use Rattle.grid_graph.specs.Graph.{Graph, graph, joined_in, count_joined}
use Rattle.grid_graph.proofs.Reach.{In, In_here, In_there}
use Rattle.grid_graph.proofs.Places.{AreBelow, In_places, places_In}
use Rattle.grid_graph.proofs.Least.{In_filter, filter_In, n_refl}
use Rattle.grid_components.specs.Ranks.{is_key}
use Rattle.grid_unions.specs.Ranks.{IsGreatest}
use Rattle.grid_unions.proofs.Subgraphs.{placed, IsEmbedded, group_embedded, long_group}
use Rattle.grid_unions.proofs.Greatest.{zero_joined}

-- adds a weight where its number passes a test
abbrev pub add_passed : {X : Type 0} → (X → ℤ) → (ℕ → Bool) → ℤ → ℕ × X → ℤ
add_passed watts passes total at = cond (passes at.0) (total +ℤ watts at.1) total

-- adds a number's weight
abbrev pub add_at : (ℕ → ℤ) → ℤ → ℕ → ℤ
add_at watts total x = total +ℤ watts x

-- numbers that other ones stand for, where these pass as those do
renumbered : {X : Type 0} (watts : X → ℤ) (p q : ℕ → Bool) (f : ℕ → ℕ) (ns : List ℕ) (xs : List X) (total : ℤ) → ((x : ℕ) → In x ns → p (f x) ≡ q x)
    → fold (add_passed watts p) total (zip (map f ns) xs) ≡ fold (add_passed watts q) total (zip ns xs)
renumbered watts p q f [] xs total h = refl
renumbered watts p q f (n ∷ ns) [] total h = refl
renumbered watts p q f (n ∷ ns) (x ∷ xs) total h =
    ap (λ t. fold (add_passed watts p) (cond t (total +ℤ watts x) total) (zip (map f ns) xs)) (h n (In_here n ns))
    ∙ renumbered watts p q f ns xs (cond (q n) (total +ℤ watts x) total) (λ y i. h y (In_there y n ns i))

-- weights that are made of others
pub mapped_weights : {X Y : Type 0} (watts : Y → ℤ) (p : ℕ → Bool) (f : X → Y) (ns : List ℕ) (xs : List X) (total : ℤ)
    → fold (add_passed watts p) total (zip ns (map f xs)) ≡ fold (add_passed (λ x. watts (f x)) p) total (zip ns xs)
mapped_weights watts p f [] xs total = refl
mapped_weights watts p f (n ∷ ns) [] total = refl
mapped_weights watts p f (n ∷ ns) (x ∷ xs) total = mapped_weights watts p f ns xs (cond (p n) (total +ℤ watts (f x)) total)

same_watts : (u v : ℕ → ℤ) (xs : List ℕ) (total : ℤ) → ((x : ℕ) → In x xs → u x ≡ v x) → fold (add_at u) total xs ≡ fold (add_at v) total xs
same_watts u v [] total h = refl
same_watts u v (x ∷ xs) total h =
    ap (λ z. fold (add_at u) (total +ℤ z) xs) (h x (In_here x xs)) ∙ same_watts u v xs (total +ℤ v x) (λ y i. h y (In_there y x xs i))

passed_from : {X : Type 0} (watts : X → ℤ) (p : ℕ → Bool) (all : List X) (d : X) (low : ℕ) (xs : List X) (total : ℤ) → ((i : ℕ) → i < length xs → get_or all (low + i) d ≡ get_or xs i d)
    → fold (add_passed watts p) total (zip (range_with_len low (length xs)) xs) ≡ fold (add_at (λ x. watts (get_or all x d))) total (filter p (range_with_len low (length xs)))
passed_from watts p all d low [] total h = refl
passed_from watts p all d low (x ∷ xs) total h =
    passed_from watts p all d (low + 1) xs (cond (p low) (total +ℤ watts x) total)
    (λ i lt. (let same : (low + 1) + i ≡ low + suc i = omega arith in ap (λ z. get_or all z d) same ∙ h (suc i) (omega (arith, lt))))
    ∙ step (p low)
  where
    rest : List ℕ
    rest = filter p (range_with_len (low + 1) (length xs))

    here : get_or all low d ≡ x
    here = let same : low ≡ low + 0 = omega arith in ap (λ z. get_or all z d) same ∙ h 0 (omega arith)

    step : (t : Bool) → fold (add_at (λ z. watts (get_or all z d))) (cond t (total +ℤ watts x) total) rest ≡ fold (add_at (λ z. watts (get_or all z d))) total (cond t (low ∷ rest) rest)
    step true = ap (λ z. fold (add_at (λ y. watts (get_or all y d))) (total +ℤ watts z) rest) (sym here)
    step false = refl

-- a class sum is the sum over the list of the class's numbers
pub over_group : {X : Type 0} (watts : X → ℤ) (net : Graph) (weights : List X) (a : ℕ) (d : X) → length weights ≡ net.nodes
    → fold (add_passed watts (joined_in net a)) (pos 0) (zip (places net.nodes) weights) ≡ fold (add_at (λ x. watts (get_or weights x d))) (pos 0) (group_of (places net.nodes) net.pairs a)
unfolding places group_of joined_in
over_group watts net weights a d long =
    let p = joined_in net a in
    let P : ℕ → Type 0 = λ n. fold (add_passed watts p) (pos 0) (zip (range_with_len 0 n) weights) ≡ fold (add_at (λ x. watts (get_or weights x d))) (pos 0) (filter p (range_with_len 0 n)) in
    subst P long (passed_from watts p weights d 0 weights (pos 0) (λ i lt. (let same : 0 + i ≡ i = omega arith in ap (λ z. get_or weights z d) same)))

-- ---- classes of one number

only_member : (a : ℕ) (xs : List ℕ) → In a xs → length xs ≡ 1 → xs ≡ a ∷ []
only_member a [] i e = absurd (false≢true i)
only_member a (x ∷ []) i e = elim (or_cases (eqb a x) false i) [ inl h ↦ ap (λ z. z ∷ []) (sym (eqb-true a x h)) | inr h ↦ absurd (false≢true h) ]
only_member a (x ∷ y ∷ ys) i e = absurd (omega (arith, e))

in_group : (net : Graph) (a : ℕ) → AreBelow net.nodes net.pairs → a < net.nodes → In a (group_of (places net.nodes) net.pairs a)
unfolding group_of joined_in
in_group net a fit lt = In_filter (joined_in net a) a (places net.nodes) (In_places a net.nodes lt) (n_refl net a fit)

group_in : (net : Graph) (a x : ℕ) → In x (group_of (places net.nodes) net.pairs a) → x < net.nodes
unfolding group_of
group_in net a x i = places_In x net.nodes (filter_In (joined (places net.nodes) net.pairs a) x (places net.nodes) i).0

-- the sum of a class of one number is that number's weight
pub over_single : {X : Type 0} (watts : X → ℤ) (net : Graph) (weights : List X) (a : ℕ) (d : X) → length weights ≡ net.nodes → AreBelow net.nodes net.pairs → a < net.nodes → count_joined net a ≡ 1
    → fold (add_passed watts (joined_in net a)) (pos 0) (zip (places net.nodes) weights) ≡ watts (get_or weights a d)
over_single watts net weights a d long fit lt one =
    over_group watts net weights a d long
    ∙ ap (fold (add_at (λ x. watts (get_or weights x d))) (pos 0)) (only_member a (group_of (places net.nodes) net.pairs a) (in_group net a fit lt) (long_group net a ∙ one))
    ∙ +ℤ_idl (watts (get_or weights a d))

-- ---- classes of a larger graph

-- a class of numbers in use has the sum that it has in the smaller graph, where their weights are the same
pub over_embedded : {X : Type 0} (watts : X → ℤ) (ids : List ℕ) (pairs : List (ℕ × ℕ)) (count : ℕ) (more : List (ℕ × ℕ)) → IsEmbedded ids pairs count more
    → (weights all : List X) (d : X) → length weights ≡ length ids → length all ≡ count → ((k : ℕ) → k < length ids → get_or all (placed ids k) d ≡ get_or weights k d) → (a : ℕ) → a < length ids
    → fold (add_passed watts (joined_in (graph count more) (placed ids a))) (pos 0) (zip (places count) all)
    ≡ fold (add_passed watts (joined_in (graph (length ids) pairs) a)) (pos 0) (zip (places (length ids)) weights)
over_embedded watts ids pairs count more s weights all d long all_long same a lt =
    let group = group_of (places (length ids)) pairs a in
    over_group watts (graph count more) all (placed ids a) d all_long
    ∙ ap (fold (add_at (λ x. watts (get_or all x d))) (pos 0)) (group_embedded ids pairs count more s a lt)
    ∙ fold-map (add_at (λ x. watts (get_or all x d))) (placed ids) (pos 0) group
    ∙ same_watts (λ x. watts (get_or all (placed ids x) d)) (λ x. watts (get_or weights x d)) group (pos 0)
    (λ x i. ap watts (same x (group_in (graph (length ids) pairs) a x i)))
    ∙ sym (over_group watts (graph (length ids) pairs) weights a d long)

-- ---- component 0

-- the sum over component 0 is that over the greatest class
pub over_zeros : {X : Type 0} (watts : X → ℤ) (net : Graph) (k : ℕ) → AreBelow net.nodes net.pairs → IsGreatest net k → (weights : List X)
    → fold (add_passed watts (is_key 0)) (pos 0) (zip (component_numbers net.nodes net.pairs) weights)
    ≡ fold (add_passed watts (joined_in net k)) (pos 0) (zip (places net.nodes) weights)
unfolding component_numbers
over_zeros watts net k fit g weights =
    renumbered watts (is_key 0) (joined_in net k) (component_number net.nodes net.pairs) (places net.nodes) weights (pos 0) (λ x i. zero_joined net k fit g x (places_In x net.nodes i))
