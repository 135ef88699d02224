-- The greatest class is component 0.
use Rattle.std.proofs.Common.{◌≡◌, ◌≢◌, refl, sym, ap, ◌∙◌, ℕ, zero, suc, ◌<◌, ◌≤◌, Bool, true, false, List, [], ◌∷◌, length, get_or, map, take, cond, inl, inr, arith}
use Rattle.std.specs.Prelude.{eqb, count_by}
use Rattle.std.proofs.lemmas.Bool.{cases_eq, cases_lt, cases_Bool, eqb-true, eqb-false, eq-eqb, ne_eqb, le-ltb, ltb-false}
use Rattle.std.proofs.lemmas.List.{get_or-take, length-take-le}
use Rattle.grid_lemmas.proofs.Bools.{same_test}
use Rattle.grid_lemmas.proofs.Counts.{count_cons}
use Rattle.grid_graph.specs.Components.{places, component_number, component_numbers}
use Rattle.grid_graph.specs.Graph.{Graph, joined_in, least_joined, count_joined}
use Rattle.grid_graph.proofs.Places.{AreBelow, places_In}
use Rattle.grid_graph.proofs.Counts.{at_place, long_places}
use Rattle.grid_graph.proofs.FilteredNodes.{counts_none}
use Rattle.grid_graph.proofs.Least.{least_below, least_same, joined_from_least, leads_itself}
use Rattle.grid_components.specs.Ranks.{is_key, is_above, rank_in}
use Rattle.grid_components.proofs.ComponentRanks.{rank_is}
use Rattle.grid_components.proofs.Sizes.{counts_map, size_of, size_leads, size_other, joined_some}
use Rattle.grid_components.proofs.Tallies.{counts_same, In_at}
use Rattle.grid_unions.specs.Ranks.{IsGreatest}

-- where a test counts none, none passes
uncounted : (p : ℕ → Bool) (xs : List ℕ) → count_by p xs ≡ 0 → (j : ℕ) → j < length xs → p (get_or xs j 0) ≡ false
uncounted p [] none j lt = absurd (omega (arith, lt))
uncounted p (x ∷ xs) none zero lt = elim (cases_Bool (p x)) [
  | inl h ↦ absurd (omega (arith, none, count_cons p x xs, ap {B = ℕ} (λ t. cond t 1 0) h))
  | inr h ↦ h
]
uncounted p (x ∷ xs) none (suc j) lt = uncounted p xs (omega (arith, none, count_cons p x xs)) j (omega (arith, lt))

module _ (net : Graph) (k : ℕ) (fit : AreBelow net.nodes net.pairs) (g : IsGreatest net k) where
  sizes : List ℕ
  sizes = map (size_of net) (places net.nodes)

  long : length sizes ≡ net.nodes
  unfolding sizes
  long = long_places net.nodes (size_of net) sizes refl

  each : (x : ℕ) → x < net.nodes → get_or sizes x 0 ≡ size_of net x
  unfolding sizes
  each x lt = at_place net.nodes (size_of net) sizes x refl lt

  leader_size : (x : ℕ) → x < net.nodes → least_joined net x ≡ x → get_or sizes x 0 ≡ count_joined net x
  leader_size x lt leads = each x lt ∙ size_leads net x fit lt leads

  rank : (x : ℕ) → x < net.nodes → rank_in sizes (least_joined net x) ≡ component_number net.nodes net.pairs x
  rank x lt = rank_is net sizes x fit lt long each

  -- none has more numbers
  no_more : (x : ℕ) → x < net.nodes → get_or sizes x 0 ≤ get_or sizes k 0
  no_more x lt = elim (cases_eq (least_joined net x) x) [
    | inl e ↦ elim (g.most x lt) [
      | inl h ↦ omega (arith, h, leader_size x lt e, leader_size k g.below g.least)
      | inr h ↦ omega (arith, h.0, leader_size x lt e, leader_size k g.below g.least)
    ]
    | inr ne ↦ omega (arith, each x lt, size_other net x fit ne)
  ]

  -- nor as many and a lesser first one
  none_earlier : (x : ℕ) → x < k → get_or sizes x 0 ≢ get_or sizes k 0
  none_earlier x lt same = elim (cases_eq (least_joined net x) x) [
    | inl e ↦ elim (g.most x less) [
      | inl h ↦ omega (arith, h, same, leader_size x less e, leader_size k g.below g.least)
      | inr h ↦ omega (arith, h.1, e, lt)
    ]
    | inr ne ↦ omega (arith, same, each x less, size_other net x fit ne, leader_size k g.below g.least, joined_some net k fit g.below)
  ]
    where
      less : x < net.nodes
      less = omega (arith, lt, g.below)

  ranks_first : rank_in sizes k ≡ 0
  ranks_first =
      let s : ℕ = get_or sizes k 0 in
      let above : count_by (is_above s) sizes ≡ 0 =
      counts_none (is_above s) sizes (λ x i. (let r = In_at x sizes i in le-ltb s x (omega (arith, no_more r.0 (omega (arith, r.1, long)), r.2)))) in
      let before : count_by (is_key s) (take k sizes) ≡ 0 =
      counts_none (is_key s) (take k sizes) (λ x i. (let r = In_at x (take k sizes) i in
      let lt : r.0 < k = omega (arith, r.1, length-take-le k sizes (omega (arith, g.below, long))) in
      ne_eqb x s (λ e. none_earlier r.0 lt (sym (get_or-take k sizes r.0 0 lt) ∙ r.2 ∙ e)))) in
      omega (arith, above, before)

  number_first : (x : ℕ) → x < net.nodes → joined_in net k x ≡ true → component_number net.nodes net.pairs x ≡ 0
  number_first x lt j =
      let e : least_joined net x ≡ k = sym (least_same net k x fit g.below j) ∙ g.least in
      sym (rank x lt) ∙ ap (rank_in sizes) e ∙ ranks_first

  is_first : (l : ℕ) → l < net.nodes → least_joined net l ≡ l → rank_in sizes l ≡ 0 → k ≡ l
  is_first l lt leads none =
      let s : ℕ = get_or sizes l 0 in
      let above : count_by (is_above s) sizes ≡ 0 = omega (arith, none) in
      let before : count_by (is_key s) (take l sizes) ≡ 0 = omega (arith, none) in
      let less : get_or sizes k 0 ≤ s = ltb-false s (get_or sizes k 0) (uncounted (is_above s) sizes above k (omega (arith, g.below, long))) in
      elim (g.most l lt) [
        | inl h ↦ absurd (omega (arith, h, less, leader_size l lt leads, leader_size k g.below g.least))
        | inr h ↦ elim (cases_lt k l) [
          | inr le ↦ omega (arith, le, h.1, leads)
          | inl early ↦ (let off : eqb (get_or (take l sizes) k 0) s ≡ false =
              uncounted (is_key s) (take l sizes) before k (omega (arith, early, length-take-le l sizes (omega (arith, lt, long)))) in
              let same : get_or sizes k 0 ≡ s = omega (arith, h.0, leader_size l lt leads, leader_size k g.below g.least) in
              absurd (eqb-false (get_or (take l sizes) k 0) s off (get_or-take l sizes k 0 early ∙ same)))
        ]
      ]

  first_joined : (x : ℕ) → x < net.nodes → component_number net.nodes net.pairs x ≡ 0 → joined_in net k x ≡ true
  first_joined x lt e =
      let l = least_joined net x in
      let one : k ≡ l = is_first l (least_below net x fit lt) (leads_itself net x l fit lt refl) (rank x lt ∙ e) in
      joined_from_least net k x fit g.below lt (g.least ∙ one)

  -- a number is of component 0 where it is joined to that of the greatest class
  pub zero_joined : (x : ℕ) → x < net.nodes → is_key 0 (component_number net.nodes net.pairs x) ≡ joined_in net k x
  zero_joined x lt =
      same_test _ _
      (λ h. first_joined x lt (eqb-true (component_number net.nodes net.pairs x) 0 h))
      (λ j. eq-eqb (component_number net.nodes net.pairs x) 0 (number_first x lt j))

  pub zero_at : (x : ℕ) → x < net.nodes → is_key 0 (get_or (component_numbers net.nodes net.pairs) x 0) ≡ joined_in net k x
  unfolding component_numbers
  zero_at x lt = ap (is_key 0) (at_place net.nodes (component_number net.nodes net.pairs) (component_numbers net.nodes net.pairs) x refl lt) ∙ zero_joined x lt

  -- so many are of component 0
  pub zeros_counted : count_by (is_key 0) (component_numbers net.nodes net.pairs) ≡ count_joined net k
  unfolding component_numbers count_joined
  zeros_counted =
      counts_map (is_key 0) (component_number net.nodes net.pairs) (places net.nodes)
      ∙ counts_same (λ x. is_key 0 (component_number net.nodes net.pairs x)) (joined_in net k) (places net.nodes) (λ x i. zero_joined x (places_In x net.nodes i))
