-- Least nodes and counts after one pair more, the newest.
use Rattle.std.proofs.Common.{◌≡◌, ◌≢◌, refl, sym, ap, ◌∙◌, subst, ℕ, zero, suc, ◌+◌, ◌<◌, ◌≤◌, true, false, cond, List, [], ◌∷◌, length, inl, inr, ◌⊎◌, min, max, arith}
use Rattle.std.specs.Prelude.{eqb, count_by, filter}
use Rattle.std.specs.List.{range_with_len}
use Rattle.std.proofs.lemmas.Bool.{both_ways, cases_eq, cases_Bool, eqb-true, eqb-false, eq-eqb, ne_eqb}
use Rattle.std.proofs.lemmas.List.Elements.{All-cons}
use Rattle.std.proofs.lemmas.List.Sums.{length-filter}
use Rattle.std.proofs.lemmas.List.FromFn.{length-range_with_len}
use Rattle.grid_lemmas.proofs.Bools.{same_test}
use Rattle.grid_lemmas.proofs.Lists.{length_map}
use Rattle.grid_graph.specs.Joined.{end_across, neighbours, is_least, least_nodes, group_of, groups}
use Rattle.grid_graph.specs.Components.{places}
use Rattle.grid_graph.specs.Graph.{Graph, graph, EndsBelow, joined_in, least_joined, count_joined}
use Rattle.grid_graph.proofs.Reach.{In_left, In_right, In_parts, across_from, across_first, across_second}
use Rattle.grid_graph.proofs.Places.{AreBelow, places_In, range_In}
use Rattle.grid_graph.proofs.Below.{pairs_below}
use Rattle.grid_graph.proofs.FilteredNodes.{counts_none}
use Rattle.grid_lemmas.proofs.Counts.{count_cons}
use Rattle.grid_graph.proofs.Labels.{least_true, least_false}
use Rattle.grid_graph.proofs.Least.{least_below, least_same, joined_from_least, leads_itself}
use Rattle.grid_queue.proofs.OneMore.{IsOneMore, kept_joined, near_joined, least_apart, least_joined_anyway}
use Rattle.grid_queue.proofs.Parents.{least_of_both}
use Rattle.grid_components.proofs.Tallies.{Parts, counts_part, counts_same}
use Rattle.grid_unions.specs.Trees.{count_least}
use Rattle.grid_unions.specs.Unions.{with_newest}

-- ---- the graph with one pair more

pub newest_ends : (net : Graph) (a b : ℕ) → EndsBelow net.pairs net.nodes → a < net.nodes → b < net.nodes → EndsBelow (with_newest net a b).pairs net.nodes
newest_ends net a b ends lt less = All-cons (λ pair. (pair.0 < net.nodes) × (pair.1 < net.nodes)) (a, b) net.pairs (lt, less) ends

pub newest_pair : (net : Graph) (a b : ℕ) → EndsBelow net.pairs net.nodes → a < net.nodes → b < net.nodes → IsOneMore net (with_newest net a b) a b
unfolding neighbours
newest_pair net a b ends lt less = record {
  nodes = refl;
  fit = pairs_below net.nodes net.pairs ends;
  more_fit = pairs_below net.nodes (with_newest net a b).pairs (newest_ends net a b ends lt less);
  first = lt;
  second = less;
  kept = λ x c i. In_right c (end_across x (a, b)) (neighbours net.pairs x) i;
  near = In_left b (end_across a (a, b)) (neighbours net.pairs a) (across_first a (a, b) refl);
  back = In_left a (end_across b (a, b)) (neighbours net.pairs b) (across_second b (a, b) refl);
  parts = λ x c i. elim (In_parts c (end_across x (a, b)) (neighbours net.pairs x) i) [
    | inr h ↦ inl h
    | inl h ↦ elim (across_from x c (a, b) h) [ inl g ↦ inr (inl (sym g.0, g.1)) | inr g ↦ inr (inr (sym g.0, g.1)) ]
  ];
}

-- ---- the least nodes

-- the least node of a number is one of two
abbrev pub IsAmong : Graph → ℕ → ℕ → ℕ → Type 0
IsAmong net low top x = (least_joined net x ≡ least_joined net low) ⊎ (least_joined net x ≡ least_joined net top)

module _ (net more : Graph) (a b : ℕ) (s : IsOneMore net more a b) where
  into : (x : ℕ) → x < net.nodes → x < more.nodes
  into x lt = rw s.nodes lt

  pub least_in_either : (x : ℕ) → x < net.nodes → IsAmong net a b x → least_joined more x ≡ min (least_joined net a) (least_joined net b)
  least_in_either x lt (inl e) =
      least_same more x a s.more_fit (into x lt) (kept_joined net more a b x a s lt (joined_from_least net x a s.fit lt s.first e)) ∙ least_of_both net more a b s
  least_in_either x lt (inr e) =
      least_same more x b s.more_fit (into x lt) (kept_joined net more a b x b s lt (joined_from_least net x b s.fit lt s.second e))
      ∙ sym (least_same more a b s.more_fit (into a s.first) (near_joined net more a b s)) ∙ least_of_both net more a b s

  not_joined : (x y : ℕ) → x < net.nodes → least_joined net y ≢ least_joined net x → joined_in net x y ≡ false
  not_joined x y lt ne = elim (cases_Bool (joined_in net x y)) [
    | inl j ↦ absurd (ne (sym (least_same net x y s.fit lt j)))
    | inr j ↦ j
  ]

  pub least_in_neither : (x : ℕ) → x < net.nodes → least_joined net x ≢ least_joined net a → least_joined net x ≢ least_joined net b → least_joined more x ≡ least_joined net x
  least_in_neither x lt f g = least_apart net more a b x s lt (not_joined a x s.first f) (not_joined b x s.second g)

  pub among : (x : ℕ) → IsAmong net a b x ⊎ ((least_joined net x ≢ least_joined net a) × (least_joined net x ≢ least_joined net b))
  among x = elim (cases_eq (least_joined net x) (least_joined net a)) [
    | inl e ↦ inl (inl e)
    | inr f ↦ elim (cases_eq (least_joined net x) (least_joined net b)) [ inl e ↦ inl (inr e) | inr g ↦ inr (f, g) ]
  ]

  pub kept_least : (x y : ℕ) → x < net.nodes → y < net.nodes → least_joined net x ≡ least_joined net y → least_joined more x ≡ least_joined more y
  kept_least x y lt less e =
      least_same more x y s.more_fit (into x lt) (kept_joined net more a b x y s lt (joined_from_least net x y s.fit lt less e))

  pub parts_least : (x y : ℕ) → x < net.nodes → y < net.nodes → least_joined more x ≡ least_joined more y
      → (least_joined net x ≡ least_joined net y) ⊎ (IsAmong net a b x × IsAmong net a b y)
  parts_least x y lt less e = split (among x) (among y)
    where
      one : (z : ℕ) → least_joined net z ≡ min (least_joined net a) (least_joined net b) → IsAmong net a b z
      one z h = elim (cases_eq (least_joined net z) (least_joined net a)) [ inl g ↦ inl g | inr g ↦ inr (omega (arith, h, g)) ]

      split : IsAmong net a b x ⊎ ((least_joined net x ≢ least_joined net a) × (least_joined net x ≢ least_joined net b))
          → IsAmong net a b y ⊎ ((least_joined net y ≢ least_joined net a) × (least_joined net y ≢ least_joined net b))
          → (least_joined net x ≡ least_joined net y) ⊎ (IsAmong net a b x × IsAmong net a b y)
      split (inl f) (inl g) = inr (f, g)
      split (inl f) (inr g) = inr (f, one y (sym (least_in_neither y less g.0 g.1) ∙ sym e ∙ least_in_either x lt f))
      split (inr f) (inl g) = inr (one x (sym (least_in_neither x lt f.0 f.1) ∙ e ∙ least_in_either y less g), g)
      split (inr f) (inr g) = inl (sym (least_in_neither x lt f.0 f.1) ∙ e ∙ least_in_neither y less g.0 g.1)

-- ---- how many are joined

-- as many as have the same least node
pub count_alike : (net : Graph) (x : ℕ) → AreBelow net.nodes net.pairs → x < net.nodes → count_joined net x ≡ count_by (λ y. eqb (least_joined net y) (least_joined net x)) (places net.nodes)
unfolding count_joined
count_alike net x fit lt = counts_same (joined_in net x) (λ y. eqb (least_joined net y) (least_joined net x)) (places net.nodes)
    (λ y i. same_test _ _
    (λ j. eq-eqb (least_joined net y) (least_joined net x) (sym (least_same net x y fit lt j)))
    (λ h. joined_from_least net x y fit lt (places_In y net.nodes i) (sym (eqb-true (least_joined net y) (least_joined net x) h))))

-- of two that were apart and are joined now, the classes are put together
pub count_united : (net more : Graph) (a b low top : ℕ) → IsOneMore net more a b → low < net.nodes → top < net.nodes → more.nodes ≡ net.nodes → least_joined net low ≢ least_joined net top
    → ((x : ℕ) → IsAmong net a b x → IsAmong net low top x) → least_joined more low ≡ least_joined more top
    → count_joined net top + count_joined net low ≡ count_joined more top
count_united net more a b low top s lt less nodes apart into_them met =
    let first = count_alike net top s.fit less in
    let second = count_alike net low s.fit lt in
    let both = count_alike more top s.more_fit (rw s.nodes less) in
    let P : ℕ → Type 0 = λ n. count_joined more top ≡ count_by (λ y. eqb (least_joined more y) (least_joined more top)) (places n) in
    let there : count_joined more top ≡ count_by (λ y. eqb (least_joined more y) (least_joined more top)) (places net.nodes) = subst P nodes both in
    rw (first, second, there)
    (counts_part (λ y. eqb (least_joined net y) (least_joined net top)) (λ y. eqb (least_joined net y) (least_joined net low)) (λ y. eqb (least_joined more y) (least_joined more top)) (places net.nodes)
    (λ y i. (let here : y < net.nodes = places_In y net.nodes i in record {
      both = λ h. ne_eqb (least_joined net y) (least_joined net low) (λ e. apart (sym e ∙ eqb-true (least_joined net y) (least_joined net top) h));
      first = λ h. eq-eqb (least_joined more y) (least_joined more top) (kept_least net more a b s y top here less (eqb-true (least_joined net y) (least_joined net top) h));
      second = λ h. eq-eqb (least_joined more y) (least_joined more top) (kept_least net more a b s y low here lt (eqb-true (least_joined net y) (least_joined net low) h) ∙ met);
      none = λ f g. ne_eqb (least_joined more y) (least_joined more top) (λ e. elim (parts_least net more a b s y top here less e) [
        | inl h ↦ eqb-false (least_joined net y) (least_joined net top) f h
        | inr h ↦ elim (into_them y h.0) [ inl k ↦ eqb-false (least_joined net y) (least_joined net low) g k | inr k ↦ eqb-false (least_joined net y) (least_joined net top) f k ]
      ]);
    })))

-- and those of the others stay
pub count_stays : (net more : Graph) (a b x : ℕ) → IsOneMore net more a b → x < net.nodes → more.nodes ≡ net.nodes → (IsAmong net a b x → ⊥) → count_joined net x ≡ count_joined more x
count_stays net more a b x s lt nodes other =
    let P : ℕ → Type 0 = λ n. count_joined more x ≡ count_by (λ y. eqb (least_joined more y) (least_joined more x)) (places n) in
    let there : count_joined more x ≡ count_by (λ y. eqb (least_joined more y) (least_joined more x)) (places net.nodes) = subst P nodes (count_alike more x s.more_fit (rw s.nodes lt)) in
    rw (count_alike net x s.fit lt, there)
    (counts_same (λ y. eqb (least_joined net y) (least_joined net x)) (λ y. eqb (least_joined more y) (least_joined more x)) (places net.nodes)
    (λ y i. (let here : y < net.nodes = places_In y net.nodes i in same_test _ _
    (λ h. eq-eqb (least_joined more y) (least_joined more x) (kept_least net more a b s y x here lt (eqb-true (least_joined net y) (least_joined net x) h)))
    (λ h. elim (parts_least net more a b s y x here lt (eqb-true (least_joined more y) (least_joined more x) h)) [
      | inl e ↦ eq-eqb (least_joined net y) (least_joined net x) e
      | inr e ↦ absurd (other e.1)
    ]))))

-- ---- how many least nodes

pub count_groups : (net : Graph) → AreBelow net.nodes net.pairs → count_least net ≡ length (groups (places net.nodes) net.pairs)
unfolding count_least groups least_nodes
count_groups net fit =
    counts_same (λ x. eqb (least_joined net x) x) (is_least (places net.nodes) net.pairs) (places net.nodes)
    (λ x i. same_test _ _
    (λ h. least_true net x fit (places_In x net.nodes i) (eqb-true (least_joined net x) x h))
    (λ h. elim (cases_eq (least_joined net x) x) [
      | inl e ↦ eq-eqb (least_joined net x) x e
      | inr ne ↦ absurd (both_ways _ (least_false net x fit (places_In x net.nodes i) ne) h)
    ]))
    ∙ sym (length-filter (is_least (places net.nodes) net.pairs) (places net.nodes))
    ∙ sym (length_map (group_of (places net.nodes) net.pairs) (filter (is_least (places net.nodes) net.pairs) (places net.nodes)))

none_before : (x low n : ℕ) → x < low → count_by (eqb x) (range_with_len low n) ≡ 0
none_before x low n lt = counts_none (eqb x) (range_with_len low n) (λ y i. (let r = range_In y low n i in ne_eqb x y (λ e. omega (arith, e, r.0, lt))))

one_between : (x low n : ℕ) → low ≤ x → x < low + n → count_by (eqb x) (range_with_len low n) ≡ 1
one_between x low zero le lt = absurd (omega arith)
one_between x low (suc n) le lt = elim (cases_eq x low) [
  | inl e ↦ omega (arith, count_cons (eqb x) low (range_with_len (low + 1) n), ap {B = ℕ} (λ t. cond t 1 0) (eq-eqb x low e), none_before x (low + 1) n (omega (arith, e)))
  | inr ne ↦ omega (arith, count_cons (eqb x) low (range_with_len (low + 1) n), ap {B = ℕ} (λ t. cond t 1 0) (ne_eqb x low ne), one_between x (low + 1) n (omega (arith, ne, le)) (omega (arith, lt)))
]

one_place : (n x : ℕ) → x < n → count_by (eqb x) (places n) ≡ 1
unfolding places
one_place n x lt = one_between x 0 n (omega arith) (omega (arith, lt))

-- the greater of the two least nodes is none any more
module _ (net more : Graph) (a b : ℕ) (s : IsOneMore net more a b) (apart : least_joined net a ≢ least_joined net b) where
  abbrev first : ℕ
  first = least_joined net a

  abbrev second : ℕ
  second = least_joined net b

  abbrev high : ℕ
  high = max first second

  high_below : high < net.nodes
  high_below = omega (arith, least_below net a s.fit s.first, least_below net b s.fit s.second)

  leads : (y : ℕ) → (y ≡ first) ⊎ (y ≡ second) → least_joined net y ≡ y
  leads y (inl e) = ap (least_joined net) e ∙ leads_itself net a first s.fit s.first refl ∙ sym e
  leads y (inr e) = ap (least_joined net) e ∙ leads_itself net b second s.fit s.second refl ∙ sym e

  is_either : (y : ℕ) → (y ≡ min first second) ⊎ (y ≡ high) → (y ≡ first) ⊎ (y ≡ second)
  is_either y e = elim (cases_eq y first) [
    | inl f ↦ inl f
    | inr ne ↦ elim e [ inl g ↦ inr (omega (arith, g, ne)) | inr g ↦ inr (omega (arith, g, ne)) ]
  ]

  in_either : (y : ℕ) → (y ≡ first) ⊎ (y ≡ second) → IsAmong net a b y
  in_either y (inl e) = inl (leads y (inl e) ∙ e)
  in_either y (inr e) = inr (leads y (inr e) ∙ e)

  high_moves : (y : ℕ) → y < net.nodes → least_joined more y ≡ y → high ≢ y
  high_moves y lt e f =
      let moved : least_joined more y ≡ min first second = least_in_either net more a b s y lt (in_either y (is_either y (inr (sym f)))) in
      apart (omega (arith, moved, e, f))

  still_leads : (y : ℕ) → y < net.nodes → least_joined more y ≡ y → least_joined net y ≡ y
  still_leads y lt e = elim (among net more a b s y) [
    | inl m ↦ leads y (is_either y (inl (sym e ∙ least_in_either net more a b s y lt m)))
    | inr m ↦ sym (least_in_neither net more a b s y lt m.0 m.1) ∙ e
  ]

  led_before : (y : ℕ) → y < net.nodes → least_joined net y ≡ y → high ≢ y → least_joined more y ≡ y
  led_before y lt e ne = elim (among net more a b s y) [
    | inl m ↦ (let moved : least_joined more y ≡ min first second = least_in_either net more a b s y lt m in
        elim m [ inl f ↦ omega (arith, moved, e, f, ne) | inr f ↦ omega (arith, moved, e, f, ne) ])
    | inr m ↦ least_in_neither net more a b s y lt m.0 m.1 ∙ e
  ]

  parts_of_leads : (y : ℕ) → y < net.nodes → Parts (eqb (least_joined more y) y) (eqb high y) (eqb (least_joined net y) y)
  parts_of_leads y lt = record {
    both = λ h. ne_eqb high y (high_moves y lt (eqb-true (least_joined more y) y h));
    first = λ h. eq-eqb (least_joined net y) y (still_leads y lt (eqb-true (least_joined more y) y h));
    second = λ h. eq-eqb (least_joined net y) y (leads y (is_either y (inr (sym (eqb-true high y h)))));
    none = λ f g. ne_eqb (least_joined net y) y (λ e. eqb-false (least_joined more y) y f (led_before y lt e (eqb-false high y g)));
  }

  pub least_fewer : more.nodes ≡ net.nodes → count_least more + 1 ≡ count_least net
  unfolding count_least
  least_fewer nodes =
      let P : ℕ → Type 0 = λ n. count_by (λ y. eqb (least_joined more y) y) (places n) + 1 ≡ count_by (λ y. eqb (least_joined net y) y) (places net.nodes) in
      let all = counts_part (λ y. eqb (least_joined more y) y) (eqb high) (λ y. eqb (least_joined net y) y) (places net.nodes) (λ y i. parts_of_leads y (places_In y net.nodes i)) in
      subst P (sym nodes) (omega (arith, all, one_place net.nodes high high_below))

-- where the two were joined, nothing changes

pub anyway : (net more : Graph) (a b x : ℕ) → IsOneMore net more a b → x < net.nodes → least_joined net a ≡ least_joined net b → least_joined more x ≡ least_joined net x
anyway net more a b x s lt e = least_joined_anyway net more a b x s lt (joined_from_least net a b s.fit s.first s.second e)

pub count_anyway : (net more : Graph) (a b x : ℕ) → IsOneMore net more a b → x < net.nodes → more.nodes ≡ net.nodes → least_joined net a ≡ least_joined net b → count_joined net x ≡ count_joined more x
count_anyway net more a b x s lt nodes e =
    let P : ℕ → Type 0 = λ n. count_joined more x ≡ count_by (λ y. eqb (least_joined more y) (least_joined more x)) (places n) in
    let there : count_joined more x ≡ count_by (λ y. eqb (least_joined more y) (least_joined more x)) (places net.nodes) = subst P nodes (count_alike more x s.more_fit (rw s.nodes lt)) in
    count_alike net x s.fit lt
    ∙ counts_same (λ y. eqb (least_joined net y) (least_joined net x)) (λ y. eqb (least_joined more y) (least_joined more x)) (places net.nodes)
    (λ y i. ap (λ z. eqb z (least_joined net x)) (sym (anyway net more a b y s (places_In y net.nodes i) e)) ∙ ap (eqb (least_joined more y)) (sym (anyway net more a b x s lt e)))
    ∙ sym there

pub least_as_many : (net more : Graph) (a b : ℕ) → IsOneMore net more a b → more.nodes ≡ net.nodes → least_joined net a ≡ least_joined net b → count_least more ≡ count_least net
unfolding count_least
least_as_many net more a b s nodes e =
    let P : ℕ → Type 0 = λ n. count_by (λ x. eqb (least_joined more x) x) (places n) ≡ count_by (λ x. eqb (least_joined net x) x) (places net.nodes) in
    subst P (sym nodes) (counts_same (λ x. eqb (least_joined more x) x) (λ x. eqb (least_joined net x) x) (places net.nodes)
    (λ x i. ap (λ z. eqb z x) (anyway net more a b x s (places_In x net.nodes i) e)))

-- ---- no pair

count_every : (xs : List ℕ) → count_by (λ x. true) xs ≡ length xs
count_every [] = refl
count_every (x ∷ xs) = omega (arith, count_cons (λ y. true) x xs, count_every xs)

pub alone_joined : (count x : ℕ) → AreBelow count [] → ((y : ℕ) → y < count → least_joined (graph count []) y ≡ y) → x < count → count_joined (graph count []) x ≡ 1
alone_joined count x fit own lt =
    count_alike (graph count []) x fit lt
    ∙ counts_same (λ y. eqb (least_joined (graph count []) y) (least_joined (graph count []) x)) (eqb x) (places count)
    (λ y i. (let here : y < count = places_In y count i in same_test _ _
    (λ h. eq-eqb x y (sym (own x lt) ∙ sym (eqb-true (least_joined (graph count []) y) (least_joined (graph count []) x) h) ∙ own y here))
    (λ h. eq-eqb (least_joined (graph count []) y) (least_joined (graph count []) x) (ap (least_joined (graph count [])) (sym (eqb-true x y h))))))
    ∙ one_place count x lt

pub alone_least : (count : ℕ) → ((y : ℕ) → y < count → least_joined (graph count []) y ≡ y) → count_least (graph count []) ≡ count
unfolding count_least places
alone_least count own =
    counts_same (λ x. eqb (least_joined (graph count []) x) x) (λ x. true) (range_with_len 0 count)
    (λ y i. eq-eqb (least_joined (graph count []) y) y (own y (omega (arith, (range_In y 0 count i).1))))
    ∙ count_every (range_with_len 0 count) ∙ length-range_with_len 0 count
