-- Trees whose roots are hung under each other.
use Rattle.std.proofs.Common.{◌≡◌, ◌≢◌, refl, sym, ap, ◌∙◌, subst, ℕ, ◌+◌, ◌-◌, ◌<◌, ◌≤◌, List, [], length, get_or, set, inl, inr, ◌⊎◌, arith, get_or-set_same, get_or-set_other, length-set}
use Rattle.std.specs.Prelude.{eqb}
use Rattle.std.proofs.lemmas.Bool.{cases_eq, eqb-true, eq-eqb}
use Rattle.grid_lemmas.proofs.Bools.{same_test}
use Rattle.grid_graph.proofs.Least.{joined_from_least, least_same}
use Rattle.std.proofs.lemmas.List.{set-set, set-get_or}
use Rattle.grid_graph.specs.Graph.{Graph, graph, joined_in, least_joined, count_joined}
use Rattle.grid_graph.proofs.Below.{pairs_below}
use Rattle.grid_graph.proofs.Counts.{count_all}
use Rattle.grid_components.proofs.Sizes.{joined_some}
use Rattle.grid_queue.proofs.OneMore.{IsOneMore}
use Rattle.grid_queue.proofs.Parents.{none_joined}
use Rattle.grid_unions.specs.Trees.{Trees, trees, parent_of, size_at, hung, unhung, IsForest, IsHung}
use Rattle.grid_unions.specs.Unions.{with_newest}
use Rattle.grid_unions.proofs.UnionCounts.{newest_ends, newest_pair, IsAmong, least_in_either, kept_least, parts_least, count_united, count_stays, anyway, count_anyway, least_fewer, least_as_many, alone_joined, alone_least}

-- ---- writes

at_set : (P : ℕ → ℕ → Type 0) (xs : List ℕ) (at up x : ℕ) → at < length xs → (x ≡ at → P x up) → (x ≢ at → P x (get_or xs x 0)) → P x (get_or (set xs at up) x 0)
at_set P xs at up x lt here there = elim (cases_eq x at) [
  | inl e ↦ (let Q : ℕ → Type 0 = λ z. P x (get_or (set xs at up) z 0) in let R : ℕ → Type 0 = λ z. P x z in
      subst Q (sym e) (subst R (sym (get_or-set_same xs at up 0 lt)) (here e)))
  | inr ne ↦ (let R : ℕ → Type 0 = λ z. P x z in subst R (sym (get_or-set_other xs at x up 0 ne)) (there ne))
]

-- what was hung is taken back
pub taken_back : (forest : Trees) (low top : ℕ) → low < length forest.parents → top < length forest.sizes → low ≢ top → parent_of forest low ≡ low → 1 ≤ forest.roots
    → unhung (hung forest low top) low ≡ forest
taken_back forest low top lt less ne root some =
    let ps : List ℕ = forest.parents in
    let ss : List ℕ = forest.sizes in
    let more : ℕ = get_or ss top 0 + get_or ss low 0 in
    let up : get_or (set ps low top) low 0 ≡ top = get_or-set_same ps low top 0 lt in
    let great : get_or (set ss top more) top 0 ≡ more = get_or-set_same ss top more 0 less in
    let small : get_or (set ss top more) low 0 ≡ get_or ss low 0 = get_or-set_other ss top low more 0 ne in
    let before : get_or (set ss top more) top 0 - get_or (set ss top more) low 0 ≡ get_or ss top 0 = omega (arith, great, small) in
    let pars : set (set ps low top) low low ≡ ps = set-set ps low top low ∙ ap (set ps low) (sym root) ∙ set-get_or ps low 0 in
    let sizs : set (set ss top more) top (get_or ss top 0) ≡ ss = set-set ss top more (get_or ss top 0) ∙ set-get_or ss top 0 in
    let each : set (set ss top more) (get_or (set ps low top) low 0) (get_or (set ss top more) (get_or (set ps low top) low 0) 0 - get_or (set ss top more) low 0) ≡ ss =
    ap (λ z. set (set ss top more) z (get_or (set ss top more) z 0 - get_or (set ss top more) low 0)) up ∙ ap (set (set ss top more) top) before ∙ sizs in
    let count : (forest.roots - 1) + 1 ≡ forest.roots = omega (arith, some) in
    let less_at : ℕ = get_or (set ps low top) low 0 in
    ap (λ z. trees z (set (set ss top more) less_at (get_or (set ss top more) less_at 0 - get_or (set ss top more) low 0)) ((forest.roots - 1) + 1)) pars
    ∙ ap (λ z. trees ps z ((forest.roots - 1) + 1)) each ∙ ap (λ z. trees ps ss z) count

-- ---- no pair

pub forest_alone : (count : ℕ) (forest : Trees) → length forest.parents ≡ count → length forest.sizes ≡ count → forest.roots ≡ count
    → ((x : ℕ) → x < count → parent_of forest x ≡ x) → ((x : ℕ) → x < count → size_at forest x ≡ 1) → IsForest (graph count []) forest
forest_alone count forest long sizes_long roots own one =
    let s = none_joined count forest.parents long own in
    let least : (x : ℕ) → x < count → least_joined (graph count []) x ≡ x = λ x lt. s.roots x lt (own x lt) in
    record {
      ends = s.ends;
      long = long;
      sizes_long = sizes_long;
      up = λ x lt. omega (arith, own x lt, lt);
      rise = λ x lt ne. absurd (ne (own x lt));
      few = λ x lt. omega (arith, one x lt, lt);
      near = λ x lt. ap (least_joined (graph count [])) (own x lt);
      apart = λ x y lt less f g e. sym (least x lt) ∙ e ∙ least y less;
      sizes = λ x lt e. one x lt ∙ sym (alone_joined count x (pairs_below count [] s.ends) least lt);
      roots = roots ∙ sym (alone_least count least);
    }

-- ---- a pair of one class

pub forest_same : (net : Graph) (a b : ℕ) (forest : Trees) → IsForest net forest → a < net.nodes → b < net.nodes → least_joined net a ≡ least_joined net b → IsForest (with_newest net a b) forest
forest_same net a b forest s lt less e =
    record {
      ends = newest_ends net a b s.ends lt less;
      long = s.long;
      sizes_long = s.sizes_long;
      up = s.up;
      rise = s.rise;
      few = s.few;
      near = λ x h. kept_least net more a b one (parent_of forest x) x (s.up x h) h (s.near x h);
      apart = λ x y h k f g m. s.apart x y h k f g (same x y h k m);
      sizes = λ x h f. s.sizes x h f ∙ counts x h;
      roots = s.roots ∙ sym (least_as_many net more a b one refl e);
    }
  where
    more : Graph
    more = with_newest net a b

    one : IsOneMore net more a b
    one = newest_pair net a b s.ends lt less

    same : (x y : ℕ) → x < net.nodes → y < net.nodes → least_joined more x ≡ least_joined more y → least_joined net x ≡ least_joined net y
    same x y h k m = sym (anyway net more a b x one h e) ∙ m ∙ anyway net more a b y one k e

    counts : (x : ℕ) → x < net.nodes → count_joined net x ≡ count_joined more x
    counts x h = count_anyway net more a b x one h refl e

-- ---- a pair of two classes

-- the roots of the two ends, in either order
abbrev pub AreRootsOf : Graph → ℕ → ℕ → ℕ → ℕ → Type 0
AreRootsOf net a b low top =
    ((least_joined net low ≡ least_joined net a) × (least_joined net top ≡ least_joined net b))
    ⊎ ((least_joined net low ≡ least_joined net b) × (least_joined net top ≡ least_joined net a))

pub record AreApart (net : Graph) (forest : Trees) (a b low top : ℕ) : Type 0 where
  pub first : a < net.nodes
  pub second : b < net.nodes
  pub low_below : low < net.nodes
  pub top_below : top < net.nodes
  pub low_root : parent_of forest low ≡ low
  pub top_root : parent_of forest top ≡ top
  pub other : low ≢ top
  pub of_ends : AreRootsOf net a b low top

module _ (net : Graph) (a b low top : ℕ) (forest : Trees) (s : IsForest net forest) (h : AreApart net forest a b low top) where
  abbrev pub more : Graph
  more = with_newest net a b

  one : IsOneMore net more a b
  one = newest_pair net a b s.ends h.first h.second

  to_roots : (x : ℕ) → IsAmong net a b x → IsAmong net low top x
  to_roots x e = elim h.of_ends [
    | inl r ↦ elim e [ inl f ↦ inl (f ∙ sym r.0) | inr f ↦ inr (f ∙ sym r.1) ]
    | inr r ↦ elim e [ inl f ↦ inr (f ∙ sym r.1) | inr f ↦ inl (f ∙ sym r.0) ]
  ]

  from_roots : (x : ℕ) → IsAmong net low top x → IsAmong net a b x
  from_roots x e = elim h.of_ends [
    | inl r ↦ elim e [ inl f ↦ inl (f ∙ r.0) | inr f ↦ inr (f ∙ r.1) ]
    | inr r ↦ elim e [ inl f ↦ inr (f ∙ r.0) | inr f ↦ inl (f ∙ r.1) ]
  ]

  pub low_in : (least_joined net low ≡ least_joined net a) ⊎ (least_joined net low ≡ least_joined net b)
  low_in = from_roots low (inl refl)

  pub top_in : (least_joined net top ≡ least_joined net a) ⊎ (least_joined net top ≡ least_joined net b)
  top_in = from_roots top (inr refl)

  differ : least_joined net low ≢ least_joined net top
  differ = λ e. h.other (s.apart low top h.low_below h.top_below h.low_root h.top_root e)

  ends_differ : least_joined net a ≢ least_joined net b
  ends_differ = λ e. elim h.of_ends [ inl r ↦ differ (r.0 ∙ e ∙ sym r.1) | inr r ↦ differ (r.0 ∙ sym e ∙ sym r.1) ]

  met : least_joined more low ≡ least_joined more top
  met = least_in_either net more a b one low h.low_below low_in ∙ sym (least_in_either net more a b one top h.top_below top_in)

  sum : size_at forest top + size_at forest low ≡ count_joined more top
  sum =
      let f = s.sizes top h.top_below h.top_root in
      let g = s.sizes low h.low_below h.low_root in
      omega (arith, f, g, count_united net more a b low top one h.low_below h.top_below refl differ to_roots met)

  abbrev pub new : Trees
  new = hung forest low top

  pub low_inside : low < length forest.parents
  low_inside = omega (arith, h.low_below, s.long)

  pub top_inside : top < length forest.sizes
  top_inside = omega (arith, h.top_below, s.sizes_long)

  pub some : 1 ≤ size_at forest top
  some = omega (arith, s.sizes top h.top_below h.top_root, joined_some net top one.fit h.top_below)

  no_less : (x : ℕ) → size_at forest x ≤ size_at new x
  no_less x = at_set (λ z v. size_at forest z ≤ v) forest.sizes top (size_at forest top + size_at forest low) x top_inside
      (λ e. (let P : ℕ → Type 0 = λ z. get_or forest.sizes z 0 ≤ get_or forest.sizes top 0 + get_or forest.sizes low 0 in subst P (sym e) (omega arith))) (λ ne. omega arith)

  pub stays : (x : ℕ) → x ≢ top → size_at new x ≡ size_at forest x
  stays x ne = get_or-set_other forest.sizes top x (size_at forest top + size_at forest low) 0 ne

  pub sum_at : size_at new top ≡ size_at forest top + size_at forest low
  sum_at = get_or-set_same forest.sizes top (size_at forest top + size_at forest low) 0 top_inside

  pub low_up : parent_of new low ≡ top
  low_up = get_or-set_same forest.parents low top 0 low_inside

  pub other_up : (x : ℕ) → x ≢ low → parent_of new x ≡ parent_of forest x
  other_up x ne = get_or-set_other forest.parents low x top 0 ne

  pub sum_fits : size_at forest top + size_at forest low ≤ net.nodes
  unfolding count_joined
  sum_fits = omega (arith, sum, count_all net.nodes (joined_in more top))

  rises : (x : ℕ) → x < net.nodes → parent_of new x ≢ x → size_at new x < size_at new (parent_of new x)
  rises x lt ne = elim (cases_eq x low) [
    | inl e ↦ (let P : ℕ → Type 0 = λ z. size_at new z < size_at new (parent_of new z) in let Q : ℕ → Type 0 = λ z. size_at new low < size_at new z in
        subst P (sym e) (subst Q (sym low_up) (omega (arith, stays low h.other, sum_at, some))))
    | inr f ↦ (let same : parent_of new x ≡ parent_of forest x = other_up x f in
        let away : parent_of forest x ≢ x = λ e. ne (same ∙ e) in
        let apart_top : x ≢ top = λ e. (let P : ℕ → Type 0 = λ z. parent_of forest z ≡ z in away (subst P (sym e) h.top_root)) in
        let Q : ℕ → Type 0 = λ z. size_at new x < size_at new z in
        subst Q (sym same) (omega (arith, stays x apart_top, s.rise x lt away, no_less (parent_of forest x))))
  ]

  -- a root of the new trees was one
  pub root_before : (x : ℕ) → parent_of new x ≡ x → (x ≢ low) × (parent_of forest x ≡ x)
  root_before x e =
      let f : x ≢ low = λ g. (let P : ℕ → Type 0 = λ z. parent_of new z ≡ z in h.other (sym (subst P g e) ∙ low_up)) in
      (f, sym (other_up x f) ∙ e)

  pub root_among : (x : ℕ) → x < net.nodes → parent_of new x ≡ x → IsAmong net a b x → x ≡ top
  root_among x lt e m =
      let r = root_before x e in
      elim (to_roots x m) [
        | inl g ↦ absurd (r.0 (s.apart x low lt h.low_below r.1 h.low_root g))
        | inr g ↦ s.apart x top lt h.top_below r.1 h.top_root g
      ]

  aparts : (x y : ℕ) → x < net.nodes → y < net.nodes → parent_of new x ≡ x → parent_of new y ≡ y → least_joined more x ≡ least_joined more y → x ≡ y
  aparts x y lt less f g e = elim (parts_least net more a b one x y lt less e) [
    | inl m ↦ s.apart x y lt less (root_before x f).1 (root_before y g).1 m
    | inr m ↦ root_among x lt f m.0 ∙ sym (root_among y less g m.1)
  ]

  counted : (x : ℕ) → x < net.nodes → parent_of new x ≡ x → size_at new x ≡ count_joined more x
  counted x lt e = elim (cases_eq x top) [
    | inl f ↦ (let P : ℕ → Type 0 = λ z. size_at new z ≡ count_joined more z in subst P (sym f) (sum_at ∙ sum))
    | inr ne ↦ stays x ne ∙ s.sizes x lt (root_before x e).1 ∙ count_stays net more a b x one lt refl (λ m. ne (root_among x lt e m))
  ]

  pub is_hung : IsHung new low
  is_hung = record {
    below = omega (arith, length-set forest.parents low top, low_inside);
    inside = omega (arith, low_up, length-set forest.sizes top (size_at forest top + size_at forest low), top_inside);
    other = λ e. h.other (sym e ∙ low_up);
    less = (let Q : ℕ → Type 0 = λ z. size_at new low ≤ size_at new z in subst Q (sym low_up) (omega (arith, stays low h.other, sum_at)));
  }

  pub some_roots : 1 ≤ forest.roots
  some_roots = omega (arith, s.roots, least_fewer net more a b one ends_differ refl)

  pub forest_hung : IsForest more new
  forest_hung = record {
    ends = newest_ends net a b s.ends h.first h.second;
    long = length-set forest.parents low top ∙ s.long;
    sizes_long = length-set forest.sizes top (size_at forest top + size_at forest low) ∙ s.sizes_long;
    up = λ x lt. at_set (λ z v. v < net.nodes) forest.parents low top x low_inside (λ e. h.top_below) (λ ne. s.up x lt);
    rise = rises;
    few = λ x lt. at_set (λ z v. v ≤ net.nodes) forest.sizes top (size_at forest top + size_at forest low) x top_inside (λ e. sum_fits) (λ ne. s.few x lt);
    near = λ x lt. at_set (λ z v. least_joined more v ≡ least_joined more z) forest.parents low top x low_inside
        (λ e. (let P : ℕ → Type 0 = λ z. least_joined more top ≡ least_joined more z in subst P (sym e) (sym met)))
        (λ ne. kept_least net more a b one (parent_of forest x) x (s.up x lt) lt (s.near x lt));
    apart = aparts;
    sizes = counted;
    roots = omega (arith, s.roots, least_fewer net more a b one ends_differ refl);
  }

  pub hung_back : unhung new low ≡ forest
  hung_back = taken_back forest low top low_inside top_inside h.other h.low_root some_roots

-- ---- roots

pub record IsRootOf (net : Graph) (forest : Trees) (node root : ℕ) : Type 0 where
  pub below : root < net.nodes
  pub own : parent_of forest root ≡ root
  pub same : least_joined net root ≡ least_joined net node

-- two nodes are joined exactly where they have one root
pub same_roots : (net : Graph) (forest : Trees) (a b first second : ℕ) → IsForest net forest → a < net.nodes → b < net.nodes → IsRootOf net forest a first → IsRootOf net forest b second
    → eqb first second ≡ joined_in net a b
same_roots net forest a b first second s lt less f g =
    let fit = pairs_below net.nodes net.pairs s.ends in
    same_test _ _
    (λ h. joined_from_least net a b fit lt less (sym f.same ∙ ap (least_joined net) (eqb-true first second h) ∙ g.same))
    (λ j. eq-eqb first second (s.apart first second f.below g.below f.own g.own (f.same ∙ least_same net a b fit lt j ∙ sym g.same)))

-- two roots of one tree are one, and those of two trees are apart
pub one_root : (net : Graph) (forest : Trees) (a b first second : ℕ) → IsRootOf net forest a first → IsRootOf net forest b second → first ≡ second → least_joined net a ≡ least_joined net b
one_root net forest a b first second f g e = sym f.same ∙ ap (least_joined net) e ∙ g.same

abbrev ordered_apart : Graph → Trees → ℕ → ℕ → ℕ × ℕ → Type 0
ordered_apart net forest a b order = AreApart net forest a b order.0 order.1

pub two_roots : (net : Graph) (forest : Trees) (a b first second : ℕ) (order : ℕ × ℕ) → a < net.nodes → b < net.nodes → IsRootOf net forest a first → IsRootOf net forest b second → first ≢ second
    → (order ≡ (first, second)) ⊎ (order ≡ (second, first)) → AreApart net forest a b order.0 order.1
two_roots net forest a b first second order lt less f g ne e = elim e [
  | inl k ↦ subst (ordered_apart net forest a b) (sym k) (record { first = lt; second = less; low_below = f.below; top_below = g.below; low_root = f.own; top_root = g.own; other = ne; of_ends = inl (f.same, g.same) })
  | inr k ↦ subst (ordered_apart net forest a b) (sym k) (record { first = lt; second = less; low_below = g.below; top_below = f.below; low_root = g.own; top_root = f.own; other = λ i. ne (sym i); of_ends = inr (g.same, f.same) })
]
