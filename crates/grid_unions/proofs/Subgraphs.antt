-- A graph within a larger one, whose other numbers are joined to nothing.
use Rattle.std.proofs.Common.{◌≡◌, ◌≢◌, refl, sym, ap, ◌∙◌, subst, ℕ, zero, suc, ◌+◌, ◌<◌, ◌≤◌, Bool, true, false, cond, not, ◌&&◌, List, [], ◌∷◌, length, get_or, map, inl, inr, ◌⊎◌, arith}
use Rattle.std.specs.Prelude.{eqb, filter, count_by}
use Rattle.std.specs.List.{list_any, flat_map, range_with_len, Contains}
use Rattle.std.specs.List.Sorted.{IsStrictlyIncreasing}
use Rattle.std.proofs.lemmas.Bool.{false≢true, both_ways, cases_eq, cases_lt, cases_Bool, eqb-true, eq-eqb}
use Rattle.std.proofs.lemmas.List.{get_or_default, length-map, get_or-map}
use Rattle.std.proofs.lemmas.List.Elements.{All-map, Contains-get_or}
use Rattle.std.proofs.lemmas.List.FromFn.{length-range_with_len}
use Rattle.std.proofs.lemmas.List.Kept.{AllPairs-from_increasing}
use Rattle.std.proofs.lemmas.List.Sums.{length-filter}
use Rattle.std.proofs.lemmas.Map.Views.{list_any-from_Contains}
use Rattle.grid_lemmas.proofs.Bools.{same_test}
use Rattle.grid_lemmas.proofs.Counts.{count_cons}
use Rattle.grid_graph.specs.Joined.{end_across, neighbours, joined, group_of, groups}
use Rattle.grid_graph.specs.Components.{places}
use Rattle.grid_graph.specs.Graph.{Graph, graph, EndsBelow, joined_in, least_joined, count_joined}
use Rattle.grid_graph.proofs.Reach.{In, In_here, In_there, In_parts, across_from, eqb_laws, Holds, within_saturates}
use Rattle.grid_graph.proofs.Places.{AreBelow, In_places, places_In, range_In, j_along}
use Rattle.grid_graph.proofs.Below.{pairs_below}
use Rattle.grid_graph.proofs.Counts.{by_places}
use Rattle.grid_graph.proofs.FilteredNodes.{filters_none, filters_same}
use Rattle.grid_graph.proofs.Least.{n_refl, n_symm, least_below, least_le}
use Rattle.grid_graph.proofs.RenamedNodes.{renamed, IsApart, EndsIn, within_renamed}
use Rattle.grid_components.proofs.Sizes.{counts_map, joined_some}
use Rattle.grid_components.proofs.Tallies.{Parts, counts_part, counts_same, In_at}
use Rattle.grid_unions.specs.Ranks.{Ranks, IsGreatest}
use Rattle.grid_unions.specs.Trees.{count_least}
use Rattle.grid_unions.proofs.Orders.{AreAmong, AreAlike, alike_joined}
use Rattle.grid_unions.proofs.UnionCounts.{count_groups}

-- the number in the larger graph of a number
abbrev pub placed : List ℕ → ℕ → ℕ
placed ids k = get_or ids k 0

-- the numbers in use rise and are below a count, and the pairs of the larger graph are those of the smaller one between
-- them
pub record IsEmbedded (ids : List ℕ) (pairs : List (ℕ × ℕ)) (count : ℕ) (more : List (ℕ × ℕ)) : Type 0 where
  pub rise : IsStrictlyIncreasing ids
  pub below : (k : ℕ) → k < length ids → placed ids k < count
  pub ends : EndsBelow pairs (length ids)
  pub forth : AreAmong (renamed (placed ids) pairs) more
  pub back : AreAmong more (renamed (placed ids) pairs)

-- so it is where each pair of either graph stands for one of the other
pub embedded_of : (ids : List ℕ) (pairs : List (ℕ × ℕ)) (count : ℕ) (more : List (ℕ × ℕ)) → IsStrictlyIncreasing ids → ((k : ℕ) → k < length ids → placed ids k < count) → EndsBelow pairs (length ids)
    → ((p : ℕ × ℕ) → Contains pairs p → Contains more (placed ids p.0, placed ids p.1))
    → ((q : ℕ × ℕ) → Contains more q → (p : ℕ × ℕ) × Contains pairs p × (q ≡ (placed ids p.0, placed ids p.1)))
    → IsEmbedded ids pairs count more
embedded_of ids pairs count more rise below ends forth back = record {
  rise = rise;
  below = below;
  ends = ends;
  forth = record {
    found = λ k lt.
        let inside : k < length pairs = omega (arith, lt, length-map pairs f) in
        let r = forth (get_or pairs k (0, 0)) (Contains-get_or pairs k (0, 0) inside) in
        (r.0, r.1, get_or_default more r.0 (0, 0) (f (get_or pairs k (0, 0))) r.1 ∙ r.2 ∙ sym (get_or-map f pairs k (0, 0) (0, 0) inside));
  };
  back = record {
    found = λ k lt.
        let r = back (get_or more k (0, 0)) (Contains-get_or more k (0, 0) lt) in
        let inside = r.1.1 in
        (r.1.0, omega (arith, inside, length-map pairs f), get_or-map f pairs r.1.0 (0, 0) (0, 0) inside ∙ ap f (get_or_default pairs r.1.0 (0, 0) r.0 inside ∙ r.1.2) ∙ sym r.2);
  };
}
  where
    f : ℕ × ℕ → ℕ × ℕ
    f p = (placed ids p.0, placed ids p.1)

-- no number in use
abbrev pub IsIdle : List ℕ → ℕ → Type 0
IsIdle ids x = (k : ℕ) → k < length ids → get_or ids k 0 ≢ x

in_get : (xs : List ℕ) (k : ℕ) → k < length xs → In (get_or xs k 0) xs
in_get xs k lt = list_any-from_Contains eqb_laws (get_or xs k 0) xs (Contains-get_or xs k 0 lt)

-- a number is in use or idle
pub used_or_idle : (ids : List ℕ) (x : ℕ) → ((k : ℕ) × (k < length ids) × (get_or ids k 0 ≡ x)) ⊎ IsIdle ids x
used_or_idle ids x = elim (cases_Bool (list_any (eqb x) ids)) [
  | inl h ↦ inl (In_at x ids h)
  | inr h ↦ inr (λ k lt e. (let P : ℕ → Type 0 = λ z. In z ids in both_ways (list_any (eqb x) ids) h (subst P e (in_get ids k lt))))
]

-- ---- rising numbers

abbrev Rise : List ℕ → Type 0
Rise xs = (j k : ℕ) → j < k → k < length xs → get_or xs j 0 < get_or xs k 0

-- of the numbers of a range a test picks some among rising ones, where it picks none that is idle
filters_rising : (p : ℕ → Bool) (low count : ℕ) (ids : List ℕ) → Rise ids → ((k : ℕ) → k < length ids → (low ≤ get_or ids k 0) × (get_or ids k 0 < low + count))
    → ((x : ℕ) → low ≤ x → x < low + count → IsIdle ids x → p x ≡ false) → filter p (range_with_len low count) ≡ filter p ids
filters_rising p low zero [] rise within none = refl
filters_rising p low zero (y ∷ ys) rise within none = absurd (omega (arith, (within 0 (omega arith)).0, (within 0 (omega arith)).1))
filters_rising p low (suc c) [] rise within none =
    filters_none p (range_with_len low (suc c)) (λ x i. none x (range_In x low (suc c) i).0 (range_In x low (suc c) i).1 (λ k lt. absurd (omega (arith, lt))))
filters_rising p low (suc c) (y ∷ ys) rise within none = elim (cases_eq y low) [
  | inl e ↦ (let rest : filter p (range_with_len (low + 1) c) ≡ filter p ys = filters_rising p (low + 1) c ys (λ j k lt less. rise (suc j) (suc k) (omega (arith, lt)) (omega (arith, less)))
      (λ k lt. (omega (arith, rise 0 (suc k) (omega arith) (omega (arith, lt)), e), omega (arith, (within (suc k) (omega (arith, lt))).1)))
      (λ x le lt idle. none x (omega (arith, le)) (omega (arith, lt)) (past x (omega (arith, le, e)) idle)) in
      ap (λ z. cond (p low) (low ∷ z) z) rest ∙ ap (λ z. cond (p z) (z ∷ filter p ys) (filter p ys)) (sym e))
  | inr ne ↦ (let over : low < y = omega (arith, (within 0 (omega arith)).0, ne) in
      let off : p low ≡ false = none low (omega arith) (omega arith) (above over) in
      let rest : filter p (range_with_len (low + 1) c) ≡ filter p (y ∷ ys) = filters_rising p (low + 1) c (y ∷ ys) rise
      (λ k lt. (omega (arith, least over k lt), omega (arith, (within k lt).1)))
      (λ x le lt idle. none x (omega (arith, le)) (omega (arith, lt)) idle) in
      ap (λ t. cond t (low ∷ filter p (range_with_len (low + 1) c)) (filter p (range_with_len (low + 1) c))) off ∙ rest)
]
  where
    past : (x : ℕ) → y ≢ x → IsIdle ys x → IsIdle (y ∷ ys) x
    past x ne idle zero lt e = ne e
    past x ne idle (suc k) lt e = idle k (omega (arith, lt)) e

    least : low < y → (k : ℕ) → k < length (y ∷ ys) → low < get_or (y ∷ ys) k 0
    least over zero lt = over
    least over (suc k) lt = omega (arith, over, rise 0 (suc k) (omega arith) lt)

    above : low < y → IsIdle (y ∷ ys) low
    above over k lt e = omega (arith, least over k lt, e)

-- the same from 0 on
pub picked : (p : ℕ → Bool) (count : ℕ) (ids : List ℕ) → IsStrictlyIncreasing ids → ((k : ℕ) → k < length ids → get_or ids k 0 < count)
    → ((x : ℕ) → x < count → IsIdle ids x → p x ≡ false) → filter p (places count) ≡ filter p ids
unfolding places
picked p count ids rise below none =
    filters_rising p 0 count ids (λ j k lt less. AllPairs-from_increasing ids rise j k 0 lt less) (λ k lt. (omega arith, omega (arith, below k lt)))
    (λ x le lt idle. none x (omega (arith, lt)) idle)

filters_map : (p : ℕ → Bool) (f : ℕ → ℕ) (xs : List ℕ) → filter p (map f xs) ≡ map f (filter (λ x. p (f x)) xs)
filters_map p f [] = refl
filters_map p f (x ∷ xs) = step (p (f x)) (filters_map p f xs)
  where
    step : (t : Bool) → filter p (map f xs) ≡ map f (filter (λ y. p (f y)) xs)
        → cond t (f x ∷ filter p (map f xs)) (filter p (map f xs)) ≡ map f (cond t (x ∷ filter (λ y. p (f y)) xs) (filter (λ y. p (f y)) xs))
    step true e = ap (λ z. f x ∷ z) e
    step false e = e

counts_every : (p : ℕ → Bool) (xs : List ℕ) → ((x : ℕ) → In x xs → p x ≡ true) → count_by p xs ≡ length xs
counts_every p [] h = refl
counts_every p (x ∷ xs) h = omega (arith, count_cons p x xs, ap {B = ℕ} (λ t. cond t 1 0) (h x (In_here x xs)), counts_every p xs (λ y i. h y (In_there y x xs i)))

-- a class is as long as it has numbers
pub long_group : (net : Graph) (x : ℕ) → length (group_of (places net.nodes) net.pairs x) ≡ count_joined net x
unfolding group_of count_joined joined_in
long_group net x = length-filter (joined (places net.nodes) net.pairs x) (places net.nodes)

-- ---- pairs

ends_in : (count : ℕ) (pairs : List (ℕ × ℕ)) → EndsBelow pairs count → EndsIn (places count) pairs
ends_in count [] ends = tt
ends_in count (p ∷ ps) ends =
    let here = ends 0 p (omega arith) in
    (In_places p.0 count here.0, In_places p.1 count here.1, ends_in count ps (λ k d lt. ends (suc k) d (omega (arith, lt))))

ends_among : (count : ℕ) (first second : List (ℕ × ℕ)) → EndsBelow second count → AreAmong first second → EndsBelow first count
ends_among count first second ends h k d lt =
    let r = h.found k lt in
    let P : ℕ × ℕ → Type 0 = λ p. (p.0 < count) × (p.1 < count) in
    subst P (r.2 ∙ get_or_default first k (0, 0) d lt) (ends r.0 (0, 0) r.1)

module _ (ids : List ℕ) (pairs : List (ℕ × ℕ)) (count : ℕ) (more : List (ℕ × ℕ)) (s : IsEmbedded ids pairs count more) where
  abbrev small : Graph
  small = graph (length ids) pairs

  abbrev large : Graph
  large = graph count more

  abbrev named : List (ℕ × ℕ)
  named = renamed (placed ids) pairs

  named_ends : EndsBelow named count
  named_ends =
      All-map (λ pair. (pair.0 < count) × (pair.1 < count)) (λ p. (placed ids p.0, placed ids p.1)) pairs
      (λ k d lt. (s.below (get_or pairs k d).0 (s.ends k d lt).0, s.below (get_or pairs k d).1 (s.ends k d lt).1))

  alike : AreAlike count named more
  alike = record { ends = named_ends; other_ends = ends_among count more named named_ends s.back; forth = s.forth; back = s.back }

  pub small_fit : AreBelow (length ids) pairs
  small_fit = pairs_below (length ids) pairs s.ends

  pub large_fit : AreBelow count more
  large_fit = pairs_below count more alike.other_ends

  named_fit : AreBelow count named
  named_fit = pairs_below count named named_ends

  pub rises : (j k : ℕ) → j < k → k < length ids → placed ids j < placed ids k
  rises j k lt less = AllPairs-from_increasing ids s.rise j k 0 lt less

  pub told_apart : (j k : ℕ) → j < length ids → k < length ids → placed ids j ≡ placed ids k → j ≡ k
  told_apart j k lt less e = elim (cases_lt j k) [
    | inl h ↦ absurd (omega (arith, e, rises j k h less))
    | inr h ↦ elim (cases_eq j k) [ inl f ↦ f | inr ne ↦ absurd (omega (arith, e, rises k j (omega (arith, h, ne)) lt)) ]
  ]

  apart : IsApart (placed ids) (places (length ids))
  apart = record { apart = λ x y i j e. told_apart x y (places_In x (length ids) i) (places_In y (length ids) j) e }

  small_holds : Holds (places (length ids)) pairs
  small_holds = record { across = λ a c i. In_places c (length ids) (small_fit.across a c i) }

  named_holds : Holds (places count) named
  named_holds = record { across = λ a c i. In_places c count (named_fit.across a c i) }

  -- ---- numbers in use

  forth_joined : (a b : ℕ) → a < length ids → b < length ids → joined_in small a b ≡ true → joined_in (graph count named) (placed ids a) (placed ids b) ≡ true
  unfolding joined_in joined
  forth_joined a b lt less h =
      let n = length ids in
      within_saturates (places count) named named_holds (length (places n)) (placed ids a) (placed ids b) (In_places (placed ids a) count (s.below a lt))
      (within_renamed (placed ids) (places n) apart pairs (length (places n)) a b (In_places a n lt) (In_places b n less) (ends_in n pairs s.ends) ∙ h)

  back_joined : (a b : ℕ) → a < length ids → b < length ids → joined_in (graph count named) (placed ids a) (placed ids b) ≡ true → joined_in small a b ≡ true
  unfolding joined_in joined
  back_joined a b lt less h =
      let n = length ids in
      within_saturates (places n) pairs small_holds (length (places count)) a b (In_places a n lt)
      (sym (within_renamed (placed ids) (places n) apart pairs (length (places count)) a b (In_places a n lt) (In_places b n less) (ends_in n pairs s.ends)) ∙ h)

  pub joined_embedded : (a b : ℕ) → a < length ids → b < length ids → joined_in large (placed ids a) (placed ids b) ≡ joined_in small a b
  joined_embedded a b lt less =
      sym (alike_joined count named more alike (placed ids a) (placed ids b) (s.below a lt)) ∙ same_test _ _ (back_joined a b lt less) (forth_joined a b lt less)

  -- ---- idle numbers

  none_near : (x : ℕ) → IsIdle ids x → (qs : List (ℕ × ℕ)) → EndsBelow qs (length ids) → (c : ℕ) → In c (neighbours (renamed (placed ids) qs) x) → ⊥
  unfolding neighbours
  none_near x idle [] ends c i = false≢true i
  none_near x idle (q ∷ qs) ends c i = elim (In_parts c (end_across x (placed ids q.0, placed ids q.1)) (flat_map (end_across x) (renamed (placed ids) qs)) i) [
    | inl h ↦ (let here = ends 0 q (omega arith) in
        elim (across_from x c (placed ids q.0, placed ids q.1) h) [ inl g ↦ idle q.0 here.0 g.0 | inr g ↦ idle q.1 here.1 g.0 ])
    | inr h ↦ none_near x idle qs (λ k d lt. ends (suc k) d (omega (arith, lt))) c h
  ]

  pub idle_joined : (x y : ℕ) → x < count → IsIdle ids x → joined_in large x y ≡ true → x ≡ y
  unfolding joined_in
  idle_joined x y lt idle j =
      eqb-true x y (j_along count named named_fit (eqb x)
      (λ z c e i. (let P : ℕ → Type 0 = λ w. In c (neighbours named w) in absurd (none_near x idle pairs s.ends c (subst P (sym (eqb-true x z e)) i))))
      x y (eq-eqb x x refl) (alike_joined count named more alike x y lt ∙ j))

  off_idle : (a x : ℕ) → a < count → x < count → IsIdle ids x → a ≢ x → joined_in large a x ≡ false
  off_idle a x lt less idle ne = elim (cases_Bool (joined_in large a x)) [
    | inl j ↦ absurd (ne (sym (idle_joined x a less idle (n_symm large a x large_fit less j))))
    | inr h ↦ h
  ]

  one_rises : (x : ℕ) → IsStrictlyIncreasing (x ∷ [])
  one_rises x k lt = absurd (omega (arith, lt))

  group_idle : (x : ℕ) → x < count → IsIdle ids x → group_of (places count) more x ≡ x ∷ []
  unfolding group_of joined_in
  group_idle x lt idle =
      picked (joined (places count) more x) count (x ∷ []) (one_rises x) (one_below x lt)
      (λ y less other. elim (cases_Bool (joined_in large x y)) [
        | inl j ↦ absurd (other 0 (omega arith) (idle_joined x y lt idle j))
        | inr h ↦ h
      ])
      ∙ ap (λ t. cond t (x ∷ []) []) own
    where
      one_below : (x : ℕ) → x < count → (k : ℕ) → k < length (x ∷ []) → get_or (x ∷ []) k 0 < count
      one_below x lt zero less = lt
      one_below x lt (suc k) less = absurd (omega (arith, less))

      own : joined (places count) more x x ≡ true
      own = n_refl large x large_fit

  pub count_idle : (x : ℕ) → x < count → IsIdle ids x → count_joined large x ≡ 1
  count_idle x lt idle = sym (long_group large x) ∙ ap length (group_idle x lt idle)

  pub least_idle : (x : ℕ) → x < count → IsIdle ids x → least_joined large x ≡ x
  unfolding least_joined
  least_idle x lt idle = ap (λ z. get_or z 0 0) (group_idle x lt idle)

  -- ---- classes of numbers in use

  listed : ids ≡ map (placed ids) (places (length ids))
  listed = by_places (length ids) (placed ids) ids refl (λ x lt. refl)

  -- its numbers are those of the smaller one
  pub group_embedded : (a : ℕ) → a < length ids → group_of (places count) more (placed ids a) ≡ map (placed ids) (group_of (places (length ids)) pairs a)
  unfolding group_of joined_in
  group_embedded a lt =
      let n = length ids in
      let p = joined (places count) more (placed ids a) in
      picked p count ids s.rise s.below (λ x less idle. off_idle (placed ids a) x (s.below a lt) less idle (idle a lt))
      ∙ ap (filter p) listed ∙ filters_map p (placed ids) (places n)
      ∙ ap (map (placed ids)) (filters_same (λ x. p (placed ids x)) (joined (places n) pairs a) (places n) (λ x i. joined_embedded a x lt (places_In x n i)))

  pub count_embedded : (a : ℕ) → a < length ids → count_joined large (placed ids a) ≡ count_joined small a
  count_embedded a lt =
      sym (long_group large (placed ids a)) ∙ ap length (group_embedded a lt) ∙ length-map (group_of (places (length ids)) pairs a) (placed ids) ∙ long_group small a

  pub least_embedded : (a : ℕ) → a < length ids → least_joined large (placed ids a) ≡ placed ids (least_joined small a)
  unfolding least_joined
  least_embedded a lt =
      ap (λ z. get_or z 0 0) (group_embedded a lt)
      ∙ get_or-map (placed ids) (group_of (places (length ids)) pairs a) 0 0 0 (omega (arith, long_group small a, joined_some small a small_fit lt))

  -- ---- how many classes

  used : ℕ → Bool
  used x = list_any (eqb x) ids

  leads : ℕ → Bool
  leads x = eqb (least_joined large x) x

  unused : (x : ℕ) → used x ≡ false → IsIdle ids x
  unfolding used
  unused x off k lt e = let P : ℕ → Type 0 = λ z. In z ids in both_ways (used x) off (subst P e (in_get ids k lt))

  used_off : (x : ℕ) → IsIdle ids x → used x ≡ false
  unfolding used
  used_off x idle = elim (cases_Bool (used x)) [
    | inl h ↦ (let r = In_at x ids h in absurd (idle r.0 r.1 r.2))
    | inr h ↦ h
  ]

  used_on : (k : ℕ) → k < length ids → used (placed ids k) ≡ true
  unfolding used
  used_on k lt = in_get ids k lt

  and_off : (t u : Bool) → t ≡ false → (t && u) ≡ false
  and_off true u e = absurd (false≢true (sym e))
  and_off false u e = refl

  and_on : (t u : Bool) → t ≡ true → (t && u) ≡ u
  and_on true u e = refl
  and_on false u e = absurd (false≢true e)

  parts_of : (t u : Bool) → (t ≡ false → u ≡ true) → Parts (t && u) (not t) u
  parts_of true u h = record { both = λ e. refl; first = λ e. e; second = λ e. absurd (false≢true e); none = λ e f. e }
  parts_of false u h = record { both = λ e. absurd (false≢true e); first = λ e. absurd (false≢true e); second = λ e. h refl; none = λ e f. absurd (false≢true (sym f)) }

  all_parts : (t : Bool) → Parts t (not t) true
  all_parts true = record { both = λ e. refl; first = λ e. refl; second = λ e. refl; none = λ e f. absurd (false≢true (sym e)) }
  all_parts false = record { both = λ e. absurd (false≢true e); first = λ e. refl; second = λ e. refl; none = λ e f. absurd (false≢true (sym f)) }

  leads_used : (k : ℕ) → k < length ids → (used (placed ids k) && leads (placed ids k)) ≡ eqb (least_joined small k) k
  unfolding leads
  leads_used k lt =
      and_on (used (placed ids k)) (leads (placed ids k)) (used_on k lt)
      ∙ ap (λ z. eqb z (placed ids k)) (least_embedded k lt)
      ∙ same_test _ _
      (λ h. eq-eqb (least_joined small k) k (told_apart (least_joined small k) k (least_below small k small_fit lt) lt (eqb-true (placed ids (least_joined small k)) (placed ids k) h)))
      (λ h. eq-eqb (placed ids (least_joined small k)) (placed ids k) (ap (placed ids) (eqb-true (least_joined small k) k h)))

  count_used : count_by used (places count) ≡ length ids
  count_used =
      sym (length-filter used (places count)) ∙ ap length (picked used count ids s.rise s.below (λ x lt idle. used_off x idle)) ∙ length-filter used ids
      ∙ counts_every used ids (λ x i. (let r = In_at x ids i in let P : ℕ → Type 0 = λ z. used z ≡ true in subst P r.2 (used_on r.0 r.1)))

  count_leads_used : count_by (λ x. used x && leads x) (places count) ≡ count_least small
  unfolding count_least
  count_leads_used =
      let q : ℕ → Bool = λ x. used x && leads x in
      sym (length-filter q (places count))
      ∙ ap length (picked q count ids s.rise s.below (λ x lt idle. and_off (used x) (leads x) (used_off x idle)))
      ∙ length-filter q ids ∙ ap (count_by q) listed ∙ counts_map q (placed ids) (places (length ids))
      ∙ counts_same (λ k. q (placed ids k)) (λ k. eqb (least_joined small k) k) (places (length ids)) (λ k i. leads_used k (places_In k (length ids) i))

  long_places : length (places count) ≡ count
  unfolding places
  long_places = length-range_with_len 0 count

  leasts_embedded : count_least large + length ids ≡ count_least small + count
  unfolding count_least leads
  leasts_embedded =
      let both : count_by (λ x. used x && leads x) (places count) + count_by (λ x. not (used x)) (places count) ≡ count_by leads (places count) =
      counts_part (λ x. used x && leads x) (λ x. not (used x)) leads (places count) (λ x i. parts_of (used x) (leads x)
      (λ off. eq-eqb (least_joined large x) x (least_idle x (places_In x count i) (unused x off)))) in
      let all : count_by used (places count) + count_by (λ x. not (used x)) (places count) ≡ count_by (λ x. true) (places count) =
      counts_part used (λ x. not (used x)) (λ x. true) (places count) (λ x i. all_parts (used x)) in
      let every : count_by (λ x. true) (places count) ≡ length (places count) = counts_every (λ x. true) (places count) (λ x i. refl) in
      omega (arith, both, all, every, long_places, count_used, count_leads_used)

  -- each idle number is a class more
  pub groups_embedded : length (groups (places count) more) + length ids ≡ length (groups (places (length ids)) pairs) + count
  groups_embedded = omega (arith, leasts_embedded, count_groups large large_fit, count_groups small small_fit)

  -- ---- the greatest class

  no_less : (a b : ℕ) → a < length ids → b < length ids → placed ids a ≤ placed ids b → a ≤ b
  no_less a b lt less le = elim (cases_lt b a) [
    | inl h ↦ absurd (omega (arith, le, rises b a h lt))
    | inr h ↦ h
  ]

  ranks_small : (m k x : ℕ) → placed ids k ≡ m → k < length ids → x < length ids → Ranks (count_joined large m) m (count_joined large (placed ids x)) (least_joined large (placed ids x))
      → Ranks (count_joined small k) k (count_joined small x) (least_joined small x)
  ranks_small m k x e lt less (inl h) =
      inl (omega (arith, h, ap (count_joined large) e, count_embedded k lt, count_embedded x less))
  ranks_small m k x e lt less (inr h) =
      inr (
        omega (arith, h.0, ap (count_joined large) e, count_embedded k lt, count_embedded x less),
        no_less k (least_joined small x) lt (least_below small x small_fit less) (omega (arith, h.1, e, least_embedded x less)),
      )

  -- where the larger one's greatest class has more than one number, it is the smaller one's
  pub greatest_many : (m : ℕ) → IsGreatest large m → 1 < count_joined large m → (k : ℕ) × (k < length ids) × (placed ids k ≡ m) × IsGreatest small k
  greatest_many m g some = elim (used_or_idle ids m) [
    | inr idle ↦ absurd (omega (arith, some, count_idle m g.below idle))
    | inl r ↦ (
      r.0,
      r.1,
      r.2,
      record {
        below = r.1;
        least = told_apart (least_joined small r.0) r.0 (least_below small r.0 small_fit r.1) r.1 (sym (least_embedded r.0 r.1) ∙ ap (least_joined large) r.2 ∙ g.least ∙ sym r.2);
        most = λ x lt. ranks_small m r.0 x r.2 r.1 lt (g.most (placed ids x) (s.below x lt));
      },
    )
  ]

  -- where it has one, each of the smaller one's has, and the first number is the greatest
  pub count_single : (m : ℕ) → IsGreatest large m → count_joined large m ≡ 1 → (x : ℕ) → x < length ids → count_joined small x ≡ 1
  count_single m g one x lt =
      let some = joined_some small x small_fit lt in
      elim (g.most (placed ids x) (s.below x lt)) [
        | inl h ↦ omega (arith, h, one, some, count_embedded x lt)
        | inr h ↦ omega (arith, h.0, one, count_embedded x lt)
      ]

  pub greatest_single : (m : ℕ) → IsGreatest large m → count_joined large m ≡ 1 → 0 < length ids → IsGreatest small 0
  greatest_single m g one some = record {
    below = some;
    least = omega (arith, least_le small 0 small_fit some);
    most = λ x lt. inr (omega (arith, count_single m g one x lt, count_single m g one 0 some), omega arith);
  }
