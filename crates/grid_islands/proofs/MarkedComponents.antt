-- Labels of which only those in marked components are found anew.
use Rattle.std.proofs.Common.{◌≡◌, refl, sym, ap, ◌∙◌, ℕ, ◌<◌, Bool, true, false, not, cond, List, [], ◌∷◌, length, get_or, inl, inr, Some, None, arith}
use Rattle.std.specs.Prelude.{eqb, flat_map, slice_get}
use Rattle.std.proofs.lemmas.Bool.{false≢true, cases_Bool, both_ways, eqb-true, eq-eqb}
use Rattle.std.proofs.lemmas.List.Elements.{All-append, All-nil}
use Rattle.std.proofs.lemmas.Option.{slice_get-get_or, slice_get_within}
use Rattle.grid_graph.specs.Graph.{Graph, graph, EndsBelow, joined_in, least_joined}
use Rattle.grid_graph.specs.Joined.{neighbours}
use Rattle.grid_graph.proofs.Below.{pairs_below}
use Rattle.grid_graph.proofs.Labels.{labels_long, label_at}
use Rattle.grid_graph.proofs.Least.{least_same, least_is, least_is_least, least_le, n_refl, n_below}
use Rattle.grid_graph.proofs.Places.{AreBelow, j_along, j_near}
use Rattle.grid_graph.proofs.Reach.{In, neighbours_back}
use Rattle.grid_queue.specs.Parents.{AreLabelsOf, AreParents}
use Rattle.grid_components.specs.Changes.{IsOtherAt}
use Rattle.grid_components.proofs.TouchedNodes.{labels_by, same_least}
use Rattle.grid_islands.specs.declared.spots.BranchBuses.{BranchBuses}
use Rattle.grid_islands.specs.Spots.{pairs_of_buses, with_pairs}
use Rattle.grid_islands.specs.Rejoining.{mark_of, is_marked, either_marked, marked_pairs, unmarked_pairs, AreApart, AreOthersMarked}
use Rattle.grid_islands.proofs.BranchEnds.{leads, near_one_of, one_near, near_none, near_left, near_right, near_parts}
use Rattle.grid_islands.proofs.PairEnds.{ends_front, ends_back}

-- nodes that are joined have one label
one_label : (net : Graph) (labels : List ℕ) (x c : ℕ) → AreLabelsOf net labels → In c (neighbours net.pairs x) → slice_get labels x ≡ slice_get labels c
unfolding joined_in
one_label net labels x c is i =
    let fit = pairs_below net.nodes net.pairs is.ends in
    let far : c < net.nodes = fit.across x c i in
    let near : x < net.nodes = fit.across c x (neighbours_back net.pairs x c i) in
    let long = labels_long net labels is.least in
    let one : slice_get labels x ≡ Some (get_or labels x 0) = slice_get-get_or labels x 0 (rw long near) in
    let two : slice_get labels c ≡ Some (get_or labels c 0) = slice_get-get_or labels c 0 (rw long far) in
    let same : get_or labels x 0 ≡ get_or labels c 0 =
    label_at net labels x is.least near ∙ least_same net x c fit near (j_near net.nodes net.pairs fit x c near i) ∙ sym (label_at net labels c is.least far) in
    one ∙ ap Some same ∙ sym two

-- so they have one mark
pub one_mark : (net : Graph) (labels : List ℕ) (marks : List Bool) → AreLabelsOf net labels → (x c : ℕ) → In c (neighbours net.pairs x) → is_marked labels marks x ≡ is_marked labels marks c
unfolding is_marked
one_mark net labels marks is x c i = ap (mark_of marks) (one_label net labels x c is i)

abbrev no_buses : BranchBuses
no_buses = record { first = None; second = None; third = None }

is_on : (t : Bool) → not t ≡ false → t ≡ true
is_on true e = refl
is_on false e = absurd (false≢true (sym e))

is_off : (t : Bool) → not t ≡ true → t ≡ false
is_off true e = absurd (false≢true e)
is_off false e = refl

-- ---- the pairs of the branches that have a mark

module _ (m : ℕ → Bool) where
  some_of : (b : BranchBuses) (x c : ℕ) → In c (neighbours (marked_pairs m b) x) → In c (neighbours (pairs_of_buses b) x) × (either_marked m b.first b.second ≡ true)
  unfolding marked_pairs
  some_of b x c i = pick (either_marked m b.first b.second) i
    where
      pick : (t : Bool) → In c (neighbours (cond t (pairs_of_buses b) []) x) → In c (neighbours (pairs_of_buses b) x) × (t ≡ true)
      pick true j = (j, refl)
      pick false j = absurd (near_none x c j)

  all_of : (b : BranchBuses) (x c : ℕ) → either_marked m b.first b.second ≡ true → In c (neighbours (pairs_of_buses b) x) → In c (neighbours (marked_pairs m b) x)
  unfolding marked_pairs
  all_of b x c e i = rw e i

  some_ends_of : (b : BranchBuses) (count : ℕ) → EndsBelow (pairs_of_buses b) count → EndsBelow (marked_pairs m b) count
  unfolding marked_pairs
  some_ends_of b count ends = pick (either_marked m b.first b.second)
    where
      pick : (t : Bool) → EndsBelow (cond t (pairs_of_buses b) []) count
      pick true = ends
      pick false = All-nil (λ pair. (pair.0 < count) × (pair.1 < count))

  pub some_ends : (branches : List BranchBuses) (count : ℕ) → EndsBelow (flat_map pairs_of_buses branches) count → EndsBelow (flat_map (marked_pairs m) branches) count
  some_ends [] count ends = ends
  some_ends (b ∷ bs) count ends =
      All-append (λ pair. (pair.0 < count) × (pair.1 < count)) (marked_pairs m b) (flat_map (marked_pairs m) bs)
      (some_ends_of b count (ends_front (pairs_of_buses b) (flat_map pairs_of_buses bs) count ends)) (some_ends bs count (ends_back (pairs_of_buses b) (flat_map pairs_of_buses bs) count ends))

-- ---- the marked buses are set apart

module _ (m : ℕ → Bool) (branches : List BranchBuses) (count : ℕ) (ends : EndsBelow (flat_map pairs_of_buses branches) count) (alike : (x c : ℕ) → In c (neighbours (flat_map pairs_of_buses branches) x) → m x ≡ m c) where
  abbrev whole : Graph
  whole = graph count (flat_map pairs_of_buses branches)

  abbrev rest : Graph
  rest = graph count (flat_map (unmarked_pairs m) branches)

  fit : AreBelow count whole.pairs
  fit = pairs_below count whole.pairs ends

  rest_fit : AreBelow count rest.pairs
  rest_fit = pairs_below count rest.pairs (some_ends (λ bus. not (m bus)) branches count ends)

  -- a branch without a mark joins buses without
  left_off : (k : ℕ) (b : BranchBuses) → slice_get branches k ≡ Some b → (x c : ℕ) → In c (neighbours (pairs_of_buses b) x) → either_marked (λ bus. not (m bus)) b.first b.second ≡ not (m x)
  left_off k b at x c i = leads (λ bus. not (m bus)) b (λ y d j. ap not (alike y d (near_one_of pairs_of_buses branches k b y d at j))) x c i

  rest_off : (x c : ℕ) → In c (neighbours rest.pairs x) → In c (neighbours whole.pairs x) × (m x ≡ false)
  rest_off x c i =
      let r = one_near (unmarked_pairs m) branches x c i in
      let s = some_of (λ bus. not (m bus)) r.1.0 x c r.1.1.1 in (
        near_one_of pairs_of_buses branches r.0 r.1.0 x c r.1.1.0 s.0,
        is_off (m x) (sym (left_off r.0 r.1.0 r.1.1.0 x c s.0) ∙ s.1),
      )

  rest_same : IsOtherAt whole rest m
  rest_same = record {
    nodes = refl;
    old_ends = ends;
    new_ends = some_ends (λ bus. not (m bus)) branches count ends;
    stays = λ x c off i. (let r = one_near pairs_of_buses branches x c i in
        near_one_of (unmarked_pairs m) branches r.0 r.1.0 x c r.1.1.0 (all_of (λ bus. not (m bus)) r.1.0 x c (left_off r.0 r.1.0 r.1.1.0 x c r.1.1.1 ∙ ap not off) r.1.1.1));
    was = λ x c off i. (rest_off x c i).0;
  }

  -- what is joined to a bus without a mark has none
  joined_off : (x y : ℕ) → m x ≡ false → joined_in whole x y ≡ true → m y ≡ false
  unfolding joined_in
  joined_off x y off j = is_off (m y) (j_along count whole.pairs fit (λ z. not (m z)) (λ z c e i. ap not (sym (alike z c i)) ∙ e) x y (ap not off) j)

  rest_joined_off : (x y : ℕ) → m x ≡ false → joined_in rest x y ≡ true → m y ≡ false
  unfolding joined_in
  rest_joined_off x y off j = is_off (m y) (j_along count rest.pairs rest_fit (λ z. not (m z)) (λ z c e i. ap not (sym (alike z c (rest_off z c i).0)) ∙ e) x y (ap not off) j)

  off_least : (x : ℕ) → x < count → m x ≡ false → least_joined rest x ≡ least_joined whole x
  off_least x lt off = sym (same_least whole rest m x rest_same lt (λ y less j. rest_joined_off x y off j))

  -- a bus with a mark is joined to none
  on_alone : (x y : ℕ) → m x ≡ true → joined_in rest x y ≡ true → x ≡ y
  unfolding joined_in
  on_alone x y on j =
      eqb-true x y (j_along count rest.pairs rest_fit (eqb x) (λ z c e i. absurd (both_ways (m x) (ap m (eqb-true x z e) ∙ (rest_off z c i).1) on)) x y (eq-eqb x x refl) j)

  on_least : (x : ℕ) → x < count → m x ≡ true → least_joined rest x ≡ x
  on_least x lt on = least_is rest x x rest_fit lt (record { reached = n_refl rest x rest_fit; least = λ y j. omega (arith, on_alone x y on j) })

  pub apart_parents : (labels apart : List ℕ) → AreLabelsOf whole labels → AreApart labels m apart → AreParents rest apart
  apart_parents labels apart is are = record {
    ends = some_ends (λ bus. not (m bus)) branches count ends;
    long = are.long ∙ labels_long whole labels is.least;
    down = λ x lt. elim (cases_Bool (m x)) [
      | inl on ↦ omega (arith, own x lt on)
      | inr off ↦ omega (arith, stays x lt off, least_le whole x fit lt)
    ];
    same = λ x lt. elim (cases_Bool (m x)) [
      | inl on ↦ ap (least_joined rest) (own x lt on)
      | inr off ↦ (let up = least_joined whole x in
          let l = least_is_least whole x fit lt in
          ap (least_joined rest) (stays x lt off) ∙ off_least up (n_below whole x up fit lt l.reached) (joined_off x up off l.reached) ∙ sym (least_same whole x up fit lt l.reached) ∙ sym (off_least x lt off))
    ];
    roots = λ x lt e. elim (cases_Bool (m x)) [
      | inl on ↦ on_least x lt on
      | inr off ↦ off_least x lt off ∙ sym (stays x lt off) ∙ e
    ];
  }
    where
      there : (x : ℕ) → x < count → get_or apart x 0 ≡ cond (m x) x (get_or labels x 0)
      there x lt = are.each x (rw (labels_long whole labels is.least) lt)

      own : (x : ℕ) → x < count → m x ≡ true → get_or apart x 0 ≡ x
      own x lt on = there x lt ∙ ap (λ t. cond t x (get_or labels x 0)) on

      stays : (x : ℕ) → x < count → m x ≡ false → get_or apart x 0 ≡ least_joined whole x
      stays x lt off = there x lt ∙ ap (λ t. cond t x (get_or labels x 0)) off ∙ label_at whole labels x is.least lt

-- ---- they are joined anew

module _ (m : ℕ → Bool) (before after : List BranchBuses) (count : ℕ) (ends : EndsBelow (flat_map pairs_of_buses after) count) (alike : (x c : ℕ) → In c (neighbours (flat_map pairs_of_buses before) x) → m x ≡ m c)
    (others : AreOthersMarked m before after) where
  abbrev now : Graph
  now = graph count (flat_map pairs_of_buses after)

  abbrev anew : Graph
  anew = with_pairs (graph count (flat_map (unmarked_pairs m) before)) (flat_map (marked_pairs m) after)

  there : (k : ℕ) → k < length after → slice_get before k ≡ Some (get_or before k no_buses)
  there k lt = slice_get-get_or before k no_buses (rw others.long lt)

  here : (k : ℕ) → k < length before → slice_get after k ≡ Some (get_or after k no_buses)
  here k lt = slice_get-get_or after k no_buses (rw (← others.long) lt)

  before_alike : (k : ℕ) (b : BranchBuses) → slice_get before k ≡ Some b → (x c : ℕ) → In c (neighbours (pairs_of_buses b) x) → m x ≡ m c
  before_alike k b at x c i = alike x c (near_one_of pairs_of_buses before k b x c at i)

  after_alike : (k : ℕ) (b : BranchBuses) → slice_get after k ≡ Some b → (x c : ℕ) → In c (neighbours (pairs_of_buses b) x) → m x ≡ m c
  after_alike k b at x c i =
      let then = there k (slice_get_within after k b at) in
      elim (others.each k (get_or before k no_buses) b then at) [
        | inl same ↦ before_alike k b (then ∙ ap Some same) x c i
        | inr both ↦ both.1 x c i ∙ sym (both.1 c x (neighbours_back (pairs_of_buses b) x c i))
      ]

  from_before : (x c : ℕ) → In c (neighbours (flat_map (unmarked_pairs m) before) x) → In c (neighbours (flat_map pairs_of_buses after) x)
  from_before x c i =
      let r = one_near (unmarked_pairs m) before x c i in
      let k : ℕ = r.0 in
      let b = r.1.0 in
      let s = some_of (λ bus. not (m bus)) b x c r.1.1.1 in
      let off = is_off (m x) (sym (leads (λ bus. not (m bus)) b (λ y d j. ap not (before_alike k b r.1.1.0 y d j)) x c s.0) ∙ s.1) in
      let at = here k (slice_get_within before k b r.1.1.0) in
      elim (others.each k b (get_or after k no_buses) r.1.1.0 at) [
        | inl same ↦ near_one_of pairs_of_buses after k b x c (at ∙ ap Some (sym same)) s.0
        | inr both ↦ absurd (both_ways (m x) off (both.0 x c s.0))
      ]

  from_after : (x c : ℕ) → In c (neighbours (flat_map (marked_pairs m) after) x) → In c (neighbours (flat_map pairs_of_buses after) x)
  from_after x c i = let r = one_near (marked_pairs m) after x c i in near_one_of pairs_of_buses after r.0 r.1.0 x c r.1.1.0 (some_of m r.1.0 x c r.1.1.1).0

  of_now : (x c : ℕ) → In c (neighbours (flat_map pairs_of_buses after) x) → In c (neighbours anew.pairs x)
  of_now x c i =
      let r = one_near pairs_of_buses after x c i in
      let k : ℕ = r.0 in
      let b = r.1.0 in
      let left = flat_map (unmarked_pairs m) before in
      let right = flat_map (marked_pairs m) after in
      elim (cases_Bool (m x)) [
        | inl on ↦ near_right left right x c (near_one_of (marked_pairs m) after k b x c r.1.1.0 (all_of m b x c (leads m b (after_alike k b r.1.1.0) x c r.1.1.1 ∙ on) r.1.1.1))
        | inr off ↦ (let at = there k (slice_get_within after k b r.1.1.0) in
            elim (others.each k (get_or before k no_buses) b at r.1.1.0) [
              | inl same ↦ (let was = at ∙ ap Some same in
                  near_left left right x c
                  (near_one_of (unmarked_pairs m) before k b x c was (all_of (λ bus. not (m bus)) b x c (leads (λ bus. not (m bus)) b (λ y d j. ap not (before_alike k b was y d j)) x c r.1.1.1 ∙ ap not off) r.1.1.1)))
              | inr both ↦ absurd (both_ways (m x) off (both.1 x c r.1.1.1))
            ])
      ]

  all_same : EndsBelow anew.pairs count → IsOtherAt anew now (λ x. false)
  all_same fits = record {
    nodes = refl;
    old_ends = fits;
    new_ends = ends;
    stays = λ x c off i. elim (near_parts (flat_map (unmarked_pairs m) before) (flat_map (marked_pairs m) after) x c i) [ inl j ↦ from_before x c j | inr j ↦ from_after x c j ];
    was = λ x c off i. of_now x c i;
  }

  pub rejoined : (joined : List ℕ) → AreLabelsOf anew joined → AreLabelsOf now joined
  rejoined joined fresh = record {
    ends = ends;
    least = labels_by now joined (labels_long anew joined fresh.least) (λ x lt. label_at anew joined x fresh.least lt ∙ same_least anew now (λ y. false) x (all_same fresh.ends) lt (λ y in_now j. refl));
  }

-- ---- marks that tell the same

pub marked_as : (m p : ℕ → Bool) (before after : List BranchBuses) → ((x : ℕ) → p x ≡ m x) → AreOthersMarked m before after → AreOthersMarked p before after
marked_as m p before after same others = record {
  long = others.long;
  each = λ place old new at there. elim (others.each place old new at there) [
    | inl e ↦ inl e
    | inr both ↦ inr (λ x c i. same x ∙ both.0 x c i, λ x c i. same x ∙ both.1 x c i)
  ];
}
