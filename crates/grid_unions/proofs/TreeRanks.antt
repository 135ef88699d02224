-- The least numbers of trees whose roots are hung under each other, and the greatest of the trees.
use Rattle.std.proofs.Common.{◌≡◌, ◌≢◌, refl, sym, ap, ◌∙◌, subst, ℕ, zero, suc, ◌+◌, ◌<◌, Some, None, List, [], ◌∷◌, ◌++◌, length, get_or, set, reverse, inl, inr, min, arith, get_or-set_same, get_or-set_other, length-set}
use Rattle.std.proofs.lemmas.Bool.{cases_eq}
use Rattle.std.proofs.lemmas.List.{set-set, set-get_or}
use Rattle.grid_graph.specs.Graph.{Graph, graph, least_joined, count_joined}
use Rattle.grid_graph.proofs.Below.{pairs_below}
use Rattle.grid_graph.proofs.Least.{least_is_least, leads_itself, joined_from_least, least_below}
use Rattle.grid_components.proofs.Sizes.{count_same}
use Rattle.grid_queue.proofs.OneMore.{IsOneMore}
use Rattle.grid_queue.proofs.Parents.{none_joined}
use Rattle.grid_unions.specs.declared.join.Join.{Join}
use Rattle.grid_unions.specs.Trees.{Trees, parent_of, size_at, hung, IsForest}
use Rattle.grid_unions.specs.Unions.{with_newest, before_join, AreRight}
use Rattle.grid_unions.specs.Ranks.{Ranking, ranking, first_at, Ranks, RanksBefore, firsts_united, IsChosen, ranks_before, IsRanked, AreRanked, IsGreatest}
use Rattle.grid_unions.proofs.UnionCounts.{newest_pair, least_in_either, least_in_neither, among, anyway, alone_joined}
use Rattle.grid_unions.proofs.Trees.{AreApart, hung_back, top_in, low_up, other_up, stays, sum_at, some, root_before, root_among}
use Rattle.grid_unions.proofs.JoinReversals.{graph_of, join_of, right_forest, reversed}

-- ---- orders

ranks_trans : (s f t g u h : ℕ) → Ranks s f t g → Ranks t g u h → Ranks s f u h
ranks_trans s f t g u h (inl a) (inl b) = inl (omega (arith, a, b))
ranks_trans s f t g u h (inl a) (inr b) = inl (omega (arith, a, b.0))
ranks_trans s f t g u h (inr a) (inl b) = inl (omega (arith, a.0, b))
ranks_trans s f t g u h (inr a) (inr b) = inr (b.0 ∙ a.0, omega (arith, a.1, b.1))

-- ---- no pair

pub ranked_alone : (count : ℕ) (forest : Trees) (ranks : Ranking) → IsForest (graph count []) forest → length ranks.firsts ≡ count
    → ((x : ℕ) → x < count → first_at ranks x ≡ x) → ranks.greatest ≡ 0 → IsRanked (graph count []) forest ranks
ranked_alone count forest ranks s long own none =
    let all = none_joined count ranks.firsts long own in
    let fit = pairs_below count [] s.ends in
    let least : (x : ℕ) → x < count → least_joined (graph count []) x ≡ x = λ x lt. all.roots x lt (own x lt) in
    let root : (x : ℕ) → x < count → parent_of forest x ≡ x = λ x lt. sym (least (parent_of forest x) (s.up x lt)) ∙ s.near x lt ∙ least x lt in
    let one : (x : ℕ) → x < count → size_at forest x ≡ 1 = λ x lt. s.sizes x lt (root x lt) ∙ alone_joined count x fit least lt in
    let P : ℕ → Type 0 = λ z. (z < count) × (parent_of forest z ≡ z) in
    let Q : ℕ → ℕ → Type 0 = λ x z. RanksBefore forest ranks z x in
    record {
      long = long;
      firsts = λ x lt e. own x lt ∙ sym (least x lt);
      greatest = λ lt. subst P (sym none) (lt, root 0 lt);
      most = λ x lt e. (let some : 0 < count = omega (arith, lt) in subst (Q x) (sym none) (inr (one x lt ∙ sym (one 0 some), omega (arith, own 0 some))));
    }

-- ---- a pair of one class

pub ranked_same : (net : Graph) (a b : ℕ) (forest : Trees) (ranks : Ranking) → IsForest net forest → IsRanked net forest ranks → a < net.nodes → b < net.nodes
    → least_joined net a ≡ least_joined net b → IsRanked (with_newest net a b) forest ranks
ranked_same net a b forest ranks s r lt less e = record {
  long = r.long;
  firsts = λ x h f. r.firsts x h f ∙ sym (anyway net (with_newest net a b) a b x (newest_pair net a b s.ends lt less) h e);
  greatest = r.greatest;
  most = r.most;
}

-- ---- a pair of two classes

module _ (net : Graph) (a b low top : ℕ) (forest : Trees) (s : IsForest net forest) (h : AreApart net forest a b low top) (ranks next : Ranking) (r : IsRanked net forest ranks)
    (firsts : next.firsts ≡ firsts_united ranks.firsts low top) (chosen : IsChosen (hung forest low top) next ranks.greatest top) where
  abbrev more : Graph
  more = with_newest net a b

  one : IsOneMore net more a b
  one = newest_pair net a b s.ends h.first h.second

  abbrev new : Trees
  new = hung forest low top

  least_of_two : ℕ
  least_of_two = min (first_at ranks top) (first_at ranks low)

  inside : top < length ranks.firsts
  inside = omega (arith, r.long, h.top_below)

  first_top : first_at next top ≡ min (first_at ranks top) (first_at ranks low)
  first_top = ap (λ l. get_or l top 0) firsts ∙ get_or-set_same ranks.firsts top (min (first_at ranks top) (first_at ranks low)) 0 inside

  first_other : (x : ℕ) → x ≢ top → first_at next x ≡ first_at ranks x
  first_other x ne = ap (λ l. get_or l x 0) firsts ∙ get_or-set_other ranks.firsts top x (min (first_at ranks top) (first_at ranks low)) 0 ne

  least_top : least_joined more top ≡ min (least_joined net top) (least_joined net low)
  least_top =
      let e : least_joined more top ≡ min (least_joined net a) (least_joined net b) = least_in_either net more a b one top h.top_below (top_in net a b low top forest s h) in
      elim h.of_ends [
        | inl g ↦ omega (arith, e, g.0, g.1)
        | inr g ↦ omega (arith, e, g.0, g.1)
      ]

  firsts_are : (x : ℕ) → x < net.nodes → parent_of new x ≡ x → first_at next x ≡ least_joined more x
  firsts_are x lt e = elim (cases_eq x top) [
    | inl f ↦ (let P : ℕ → Type 0 = λ z. first_at next z ≡ least_joined more z in
        subst P (sym f) (omega (arith, first_top, least_top, r.firsts top h.top_below h.top_root, r.firsts low h.low_below h.low_root)))
    | inr ne ↦ (let before = root_before net a b low top forest s h x e in
        elim (among net more a b one x) [
          | inl m ↦ absurd (ne (root_among net a b low top forest s h x lt e m))
          | inr m ↦ first_other x ne ∙ r.firsts x lt before.1 ∙ sym (least_in_neither net more a b one x lt m.0 m.1)
        ])
  ]

  top_stays : parent_of new top ≡ top
  top_stays = other_up net a b low top forest s h top (λ e. h.other (sym e)) ∙ h.top_root

  -- the root that was hung is not the greatest
  held_stays : ranks.greatest < net.nodes → parent_of forest ranks.greatest ≡ ranks.greatest → RanksBefore new next ranks.greatest top → parent_of new ranks.greatest ≡ ranks.greatest
  held_stays lt root k =
      let P : ℕ → Type 0 = λ z. RanksBefore new next z top in
      other_up net a b low top forest s h ranks.greatest (λ e. low_less (subst P e k)) ∙ root
    where
      low_less : RanksBefore new next low top → ⊥
      low_less (inl k) = omega (arith, k, stays net a b low top forest s h low h.other, sum_at net a b low top forest s h, some net a b low top forest s h)
      low_less (inr k) = omega (arith, k.0, stays net a b low top forest s h low h.other, sum_at net a b low top forest s h, some net a b low top forest s h)

  is_greatest : 0 < net.nodes → (next.greatest < net.nodes) × (parent_of new next.greatest ≡ next.greatest)
  is_greatest lt =
      let held = r.greatest lt in
      let P : ℕ → Type 0 = λ z. (z < net.nodes) × (parent_of new z ≡ z) in
      elim chosen [
        | inl k ↦ subst P (sym k.0) (h.top_below, top_stays)
        | inr k ↦ subst P (sym k.0) (held.0, held_stays held.0 held.1 k.1)
      ]

  -- the chosen one ranks at or before both
  before_top : RanksBefore new next next.greatest top
  before_top =
      let P : ℕ → Type 0 = λ z. RanksBefore new next z top in
      elim chosen [ inl k ↦ subst P (sym k.0) (inr (refl, omega arith)) | inr k ↦ subst P (sym k.0) k.1 ]

  before_held : RanksBefore new next next.greatest ranks.greatest
  before_held =
      let P : ℕ → Type 0 = λ z. RanksBefore new next z ranks.greatest in
      elim chosen [ inl k ↦ subst P (sym k.0) k.1 | inr k ↦ subst P (sym k.0) (inr (refl, omega arith)) ]

  -- what the greatest ranked before, it or the new tree ranks before
  before_other : (x : ℕ) → x < net.nodes → x ≢ top → parent_of forest x ≡ x → RanksBefore new next next.greatest x
  before_other x lt ne e =
      let old : RanksBefore forest ranks ranks.greatest x = r.most x lt e in
      let size : size_at new x ≡ size_at forest x = stays net a b low top forest s h x ne in
      let first : first_at next x ≡ first_at ranks x = first_other x ne in
      let P : ℕ → Type 0 = λ z. Ranks (size_at forest z) (first_at ranks z) (size_at forest x) (first_at ranks x) in
      elim (cases_eq ranks.greatest top) [
        | inl g ↦ ranks_trans (size_at new next.greatest) (first_at next next.greatest) (size_at new top) (first_at next top) (size_at new x) (first_at next x) before_top (top_over x size first (subst P g old))
        | inr f ↦ ranks_trans (size_at new next.greatest) (first_at next next.greatest) (size_at new ranks.greatest) (first_at next ranks.greatest) (size_at new x) (first_at next x) before_held
            (held_over x size first (stays net a b low top forest s h ranks.greatest f) (first_other ranks.greatest f) old)
      ]
    where
      top_over : (x : ℕ) → size_at new x ≡ size_at forest x → first_at next x ≡ first_at ranks x → RanksBefore forest ranks top x → RanksBefore new next top x
      top_over x size first (inl k) = inl (omega (arith, size, k, sum_at net a b low top forest s h))
      top_over x size first (inr k) = elim (cases_eq (size_at forest low) 0) [
        | inl z ↦ inr (omega (arith, size, k.0, z, sum_at net a b low top forest s h), omega (arith, first, first_top, k.1))
        | inr z ↦ inl (omega (arith, size, k.0, z, sum_at net a b low top forest s h))
      ]

      held_over : (x : ℕ) → size_at new x ≡ size_at forest x → first_at next x ≡ first_at ranks x → size_at new ranks.greatest ≡ size_at forest ranks.greatest
          → first_at next ranks.greatest ≡ first_at ranks ranks.greatest → RanksBefore forest ranks ranks.greatest x → RanksBefore new next ranks.greatest x
      held_over x size first held_size held_first (inl k) = inl (omega (arith, size, held_size, k))
      held_over x size first held_size held_first (inr k) = inr (omega (arith, size, held_size, k.0), omega (arith, first, held_first, k.1))

  most_are : (x : ℕ) → x < net.nodes → parent_of new x ≡ x → RanksBefore new next next.greatest x
  most_are x lt e =
      let P : ℕ → Type 0 = λ z. RanksBefore new next next.greatest z in
      elim (cases_eq x top) [
        | inl f ↦ subst P (sym f) before_top
        | inr ne ↦ before_other x lt ne (root_before net a b low top forest s h x e).1
      ]

  pub ranked_hung : IsRanked (with_newest net a b) (hung forest low top) next
  ranked_hung = record {
    long = ap length firsts ∙ length-set ranks.firsts top (min (first_at ranks top) (first_at ranks low)) ∙ r.long;
    firsts = firsts_are;
    greatest = is_greatest;
    most = most_are;
  }

  pub ranks_back : ranks_before next (hung forest low top) (Some low) (first_at ranks top) ranks.greatest ≡ ranks
  ranks_back =
      let m : ℕ = min (first_at ranks top) (first_at ranks low) in
      let up : parent_of new low ≡ top = low_up net a b low top forest s h in
      ap (λ z. ranking (set next.firsts z (first_at ranks top)) ranks.greatest) up
      ∙ ap (λ l. ranking (set l top (first_at ranks top)) ranks.greatest) firsts
      ∙ ap (λ l. ranking l ranks.greatest) (set-set ranks.firsts top m (first_at ranks top) ∙ set-get_or ranks.firsts top 0)

-- ---- joins one after the other

pub ranks_of : (count : ℕ) (joins : List Join) (forest : Trees) (ranks : Ranking) → AreRanked count joins forest ranks → IsRanked (graph_of count joins) forest ranks
ranks_of count [] forest ranks r = r
ranks_of count (join ∷ older) forest ranks r = r.0

pub ranks_same : (count a b first greatest : ℕ) (joins more : List Join) (forest : Trees) (ranks : Ranking) → more ≡ joins ++ join_of a b None first greatest ∷ []
    → AreRight count (reverse joins) forest → AreRanked count (reverse joins) forest ranks → a < count → b < count
    → least_joined (graph_of count (reverse joins)) a ≡ least_joined (graph_of count (reverse joins)) b → AreRanked count (reverse more) forest ranks
ranks_same count a b first greatest joins more forest ranks e s r lt less same =
    let P : List Join → Type 0 = λ js. AreRanked count js forest ranks in
    subst P (sym (reversed joins more (join_of a b None first greatest) e))
    (ranked_same (graph_of count (reverse joins)) a b forest ranks (right_forest count (reverse joins) forest s) (ranks_of count (reverse joins) forest ranks r) lt less same, r)

pub ranks_hung : (count a b low top first greatest : ℕ) (joins more : List Join) (forest : Trees) (ranks next : Ranking) → more ≡ joins ++ join_of a b (Some low) first greatest ∷ []
    → AreRight count (reverse joins) forest → AreRanked count (reverse joins) forest ranks → AreApart (graph_of count (reverse joins)) forest a b low top
    → first ≡ first_at ranks top → greatest ≡ ranks.greatest → next.firsts ≡ firsts_united ranks.firsts low top → IsChosen (hung forest low top) next ranks.greatest top
    → AreRanked count (reverse more) (hung forest low top) next
ranks_hung count a b low top first greatest joins more forest ranks next e s r h ef eg firsts chosen =
    let P : List Join → Type 0 = λ js. AreRanked count js (hung forest low top) next in
    let net : Graph = graph_of count (reverse joins) in
    let f = right_forest count (reverse joins) forest s in
    let g = ranks_of count (reverse joins) forest ranks r in
    let Q : Trees → Ranking → Type 0 = λ t k. AreRanked count (reverse joins) t k in
    let back : ranks_before next (hung forest low top) (Some low) first greatest ≡ ranks =
    ap (λ z. ranks_before next (hung forest low top) (Some low) z greatest) ef ∙ ap (ranks_before next (hung forest low top) (Some low) (first_at ranks top)) eg
    ∙ ranks_back net a b low top forest f h ranks next g firsts chosen in
    subst P (sym (reversed joins more (join_of a b (Some low) first greatest) e)) (
      ranked_hung net a b low top forest f h ranks next g firsts chosen,
      subst (λ t. Q t (ranks_before next (hung forest low top) (Some low) first greatest)) (sym (hung_back net a b low top forest f h))
          (subst (λ k. Q forest k) (sym back) r),
    )

pub ranks_before_newest : (count : ℕ) (joins less : List Join) (join : Join) (forest : Trees) (ranks : Ranking) → joins ≡ less ++ join ∷ [] → AreRanked count (reverse joins) forest ranks
    → AreRanked count (reverse less) (before_join forest join.hung) (ranks_before ranks forest join.hung join.first join.greatest)
ranks_before_newest count joins less join forest ranks e r =
    let P : List Join → Type 0 = λ js. AreRanked count js forest ranks in
    (subst P (reversed less joins join e) r).1

-- ---- the greatest class

module _ (net : Graph) (forest : Trees) (s : IsForest net forest) where
  -- each node has a root
  climb : (steps x : ℕ) → x < net.nodes → net.nodes < size_at forest x + steps → (root : ℕ) × (root < net.nodes) × (parent_of forest root ≡ root) × (least_joined net root ≡ least_joined net x)
  climb zero x lt short = absurd (omega (arith, short, s.few x lt))
  climb (suc steps) x lt short = elim (cases_eq (parent_of forest x) x) [
    | inl e ↦ (x, lt, e, refl)
    | inr ne ↦ (let r = climb steps (parent_of forest x) (s.up x lt) (omega (arith, short, s.rise x lt ne)) in (r.0, r.1, r.2, r.3 ∙ s.near x lt))
  ]

  pub is_greatest_class : (ranks : Ranking) → IsRanked net forest ranks → 0 < net.nodes → IsGreatest net (first_at ranks ranks.greatest)
  is_greatest_class ranks r some_node =
      let fit = pairs_below net.nodes net.pairs s.ends in
      let root : ℕ = ranks.greatest in
      let here = r.greatest some_node in
      let number : first_at ranks root ≡ least_joined net root = r.firsts root here.0 here.1 in
      let g : ℕ = least_joined net root in
      let reached = (least_is_least net root fit here.0).reached in
      let size : size_at forest root ≡ count_joined net g = s.sizes root here.0 here.1 ∙ count_same net root g fit here.0 reached in
      let P : ℕ → Type 0 = λ z. IsGreatest net z in
      subst P (sym number) (record {
        below = least_below net root fit here.0;
        least = leads_itself net root g fit here.0 refl;
        most = λ x lt. (let up = climb (net.nodes + 1) x lt (omega arith) in
            let there : size_at forest up.0 ≡ count_joined net x = s.sizes up.0 up.1 up.2 ∙ count_same net up.0 x fit up.1 (joined_from_least net up.0 x fit up.1 lt up.3) in
            let least : first_at ranks up.0 ≡ least_joined net x = r.firsts up.0 up.1 up.2 ∙ up.3 in
            elim (r.most up.0 up.1 up.2) [
              | inl k ↦ inl (omega (arith, k, size, there))
              | inr k ↦ inr (omega (arith, k.0, size, there), omega (arith, k.1, number, least))
            ]);
      })
