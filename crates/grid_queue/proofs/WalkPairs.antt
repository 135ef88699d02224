-- Two walks that take nodes in turn, from the ends of a pair that has gone.
use Rattle.std.proofs.Common.{◌≡◌, refl, sym, ap, ◌∙◌, subst, ℕ, ◌+◌, ◌<◌, ◌≤◌, true, false, ◌||◌, Some, None, List, [], ◌∷◌, ◌++◌, length, take, inl, inr, ◌⊎◌, arith, length-append}
use Rattle.std.specs.Prelude.{slice_get, count_by, eqb, filter}
use Rattle.std.specs.List.{IsDistinct, AllByRecursion}
use Rattle.std.proofs.lemmas.Bool.{false≢true, both_ways, cases_Bool}
use Rattle.std.proofs.lemmas.List.Sums.{length-filter}
use Rattle.std.proofs.lemmas.Map.Keys.{IsDistinct-cons, IsDistinct-head, IsDistinct-tail}
use Rattle.std.proofs.lemmas.Map.Made.{length-le_from_is_member}
use Rattle.grid_graph.specs.Components.{places}
use Rattle.grid_graph.specs.Graph.{Graph, joined_in, least_joined}
use Rattle.grid_graph.proofs.Reach.{In_left, In_right, In_parts, In_here, empty_distinct, eqb_laws}
use Rattle.grid_graph.proofs.Places.{AreBelow, In_places}
use Rattle.grid_graph.proofs.Least.{In_filter, least_is, n_refl, n_symm, n_below}
use Rattle.grid_graph.proofs.Counts.{counts_le}
use Rattle.grid_queue.specs.Work.{Queue, is_in, has, after_put, cleared, AreNodes}
use Rattle.grid_queue.specs.Walks.{IsWalked, IsAdvanced, HasMet, IsLeastOf, count_joined_either}
use Rattle.grid_queue.proofs.OneMore.{n_trans}
use Rattle.grid_queue.proofs.QueueAdditions.{one_In}
use Rattle.grid_queue.proofs.WalkProgress.{IsWalking, walk_begun, walk_done, walk_more, front, front_none}
use Rattle.grid_lemmas.proofs.Bools.{or_left, or_right}

-- ---- two walks in turn

pub front_below : (queue : Queue) (node : ℕ) → AreNodes queue.room (queue.taken ++ queue.waiting) → slice_get queue.waiting 0 ≡ Some node → node < queue.room
front_below queue node differ first =
    let f = front queue.waiting node first in
    let P : List ℕ → Type 0 = λ ws. is_in (queue.taken ++ ws) node ≡ true in
    differ.below node (subst P (sym f.1) (In_right node queue.taken (node ∷ f.0) (In_here node f.0)))

-- neither took a node that the other took, nor the node from which the other began
pub record AreWalking (net : Graph) (a b : ℕ) (near far : Queue) : Type 0 where
  pub one : IsWalking net a near
  pub other : IsWalking net b far
  pub apart : (x : ℕ) → is_in near.taken x ≡ true → is_in far.taken x ≡ false
  pub no_goal : is_in near.taken b ≡ false
  pub no_start : is_in far.taken a ≡ false

pub walking_begun : (net : Graph) (a b : ℕ) (near far : Queue) → AreBelow net.nodes net.pairs → near.room ≡ net.nodes → far.room ≡ net.nodes
    → AreWalking net a b (after_put (cleared near) a) (after_put (cleared far) b)
walking_begun net a b near far fit room others = record {
  one = walk_begun net a near fit room;
  other = walk_begun net b far fit others;
  apart = λ x i. absurd (false≢true i);
  no_goal = refl;
  no_start = refl;
}

pub walking_turned : (net : Graph) (a b : ℕ) (near far : Queue) → AreWalking net a b near far → AreWalking net b a far near
walking_turned net a b near far s = record {
  one = s.other;
  other = s.one;
  apart = λ x i. elim (cases_Bool (is_in near.taken x)) [ inl e ↦ absurd (both_ways _ (s.apart x e) i) | inr e ↦ e ];
  no_goal = s.no_start;
  no_start = s.no_goal;
}

-- one node more was taken
taken_one : (net : Graph) (queue other new : Queue) (s : IsAdvanced net queue other new) → new.taken ≡ queue.taken ++ s.node ∷ []
taken_one net queue other new s =
    let f = front queue.waiting s.node s.first in
    s.put.taken ∙ ap (λ ws. queue.taken ++ take 1 ws) f.1

pub longer_one : (net : Graph) (queue other new : Queue) → IsAdvanced net queue other new → length new.taken ≡ length queue.taken + 1
longer_one net queue other new s = ap length (taken_one net queue other new s) ∙ length-append queue.taken (s.node ∷ [])

pub walking_on : (net : Graph) (a b : ℕ) (near far new : Queue) → AreBelow net.nodes net.pairs → a < net.nodes → AreWalking net a b near far → IsAdvanced net near far new → AreWalking net a b new far
walking_on net a b near far new fit lt s p = record {
  one = walk_more net a p.node near new fit lt s.one p.first p.put;
  other = s.other;
  apart = λ x i. elim (parts x i) [
    | inl h ↦ s.apart x h
    | inr e ↦ (let P : ℕ → Type 0 = λ z. is_in far.taken z ≡ false in subst P (sym e) (not_taken p.node p.fresh))
  ];
  no_goal = elim (cases_Bool (is_in new.taken b)) [
    | inl i ↦ elim (parts b i) [
      | inl h ↦ absurd (both_ways _ s.no_goal h)
      | inr e ↦ (let P : ℕ → Type 0 = λ z. has far z ≡ false in absurd (both_ways _ (subst P (sym e) p.fresh) s.other.started))
    ]
    | inr i ↦ i
  ];
  no_start = s.no_start;
}
  where
    parts : (x : ℕ) → is_in new.taken x ≡ true → (is_in near.taken x ≡ true) ⊎ (x ≡ p.node)
    parts x i =
        let P : List ℕ → Type 0 = λ ns. is_in ns x ≡ true in
        elim (In_parts x near.taken (p.node ∷ []) (subst P (taken_one net near far new p) i)) [ inl h ↦ inl h | inr h ↦ inr (one_In x p.node h) ]

    not_taken : (x : ℕ) → has far x ≡ false → is_in far.taken x ≡ false
    not_taken x h = elim (cases_Bool (is_in far.taken x)) [ inl i ↦ absurd (both_ways _ h (In_left x far.taken far.waiting i)) | inr i ↦ i ]

-- then it is the other's turn
pub walking_after : (net : Graph) (a b : ℕ) (near far new : Queue) → AreBelow net.nodes net.pairs → a < net.nodes → AreWalking net a b near far → IsAdvanced net near far new → AreWalking net b a far new
walking_after net a b near far new fit lt s p = walking_turned net a b new far (walking_on net a b near far new fit lt s p)

-- where they meet, what they began from is joined
pub walking_met : (net : Graph) (a b : ℕ) (near far : Queue) → AreBelow net.nodes net.pairs → a < net.nodes → b < net.nodes → AreWalking net a b near far → HasMet near far → joined_in net a b ≡ true
walking_met net a b near far fit lt less s p =
    let f = front near.waiting p.node p.first in
    let P : List ℕ → Type 0 = λ ws. is_in (near.taken ++ ws) p.node ≡ true in
    let here : joined_in net a p.node ≡ true = s.one.sound p.node (subst P (sym f.1) (In_right p.node near.taken (p.node ∷ f.0) (In_here p.node f.0))) in
    n_trans net a p.node b fit lt here (n_symm net b p.node fit (n_below net a p.node fit lt here) (s.other.sound p.node p.here))

-- where one has nothing left to take, they are apart, and that one is done
pub walking_apart : (net : Graph) (a b : ℕ) (near far : Queue) → AreBelow net.nodes net.pairs → a < net.nodes → AreWalking net a b near far → slice_get near.waiting 0 ≡ None → joined_in net a b ≡ false
walking_apart net a b near far fit lt s first = sym ((walk_done net a near fit lt s.one (front_none near.waiting first)).each b) ∙ s.no_goal

pub apart_turned : (net : Graph) (a b : ℕ) → AreBelow net.nodes net.pairs → a < net.nodes → joined_in net a b ≡ false → joined_in net b a ≡ false
apart_turned net a b fit lt apart = elim (cases_Bool (joined_in net b a)) [ inl h ↦ absurd (both_ways _ apart (n_symm net b a fit lt h)) | inr h ↦ h ]

-- ---- what two walks cost

differ_left : (xs ys : List ℕ) → IsDistinct eqb (xs ++ ys) → IsDistinct eqb xs
differ_left [] ys d = empty_distinct
differ_left (x ∷ xs) ys d =
    IsDistinct-cons eqb x xs (all_left xs (IsDistinct-head eqb x (xs ++ ys) d)) (differ_left xs ys (IsDistinct-tail eqb x (xs ++ ys) d))
  where
    all_left : (zs : List ℕ) → AllByRecursion (λ y. eqb x y ≡ false) (zs ++ ys) → AllByRecursion (λ y. eqb x y ≡ false) zs
    all_left [] h = tt
    all_left (z ∷ zs) h = (h.0, all_left zs h.1)

some_few : (net : Graph) (nodes : List ℕ) → IsDistinct eqb nodes → ((x : ℕ) → is_in nodes x ≡ true → x < net.nodes) → length nodes ≤ count_by (is_in nodes) (places net.nodes)
some_few net nodes distinct below =
    rw (← length-filter (is_in nodes) (places net.nodes))
    (length-le_from_is_member eqb_laws nodes (filter (is_in nodes) (places net.nodes)) distinct
    (λ x i. In_filter (is_in nodes) x (places net.nodes) (In_places x net.nodes (below x i)) i))

pub both_few : (net : Graph) (a b : ℕ) (near far : Queue) → AreBelow net.nodes net.pairs → a < net.nodes → b < net.nodes → AreWalking net a b near far
    → AreNodes near.room (near.taken ++ near.waiting) → AreNodes far.room (far.taken ++ far.waiting) → length near.taken + length far.taken ≤ count_joined_either net a b
unfolding count_joined_either
both_few net a b near far fit lt less s nodes others =
    let first : (x : ℕ) → is_in near.taken x ≡ true → joined_in net a x ≡ true = λ x i. s.one.sound x (In_left x near.taken near.waiting i) in
    let second : (x : ℕ) → is_in far.taken x ≡ true → joined_in net b x ≡ true = λ x i. s.other.sound x (In_left x far.taken far.waiting i) in
    let one = some_few net near.taken (differ_left near.taken near.waiting nodes.distinct) (λ x i. n_below net a x fit lt (first x i)) in
    let two = some_few net far.taken (differ_left far.taken far.waiting others.distinct) (λ x i. n_below net b x fit less (second x i)) in
    let all = counts_le net.nodes (is_in near.taken) (is_in far.taken) (λ x. joined_in net a x || joined_in net b x)
    (λ x l i. or_left (joined_in net a x) (joined_in net b x) (first x i))
    (λ x l i. or_right (joined_in net a x) (joined_in net b x) (second x i))
    (λ x l i. s.apart x i) in
    omega (arith, one, two, all)

-- ---- the least of a walk

-- the least of what a walk took is the least that is joined to its start
pub walked_least : (net : Graph) (a : ℕ) (walked : Queue) (least : ℕ) → AreBelow net.nodes net.pairs → a < net.nodes → IsWalked net a walked → IsLeastOf a walked.taken least → least ≡ least_joined net a
walked_least net a walked least fit lt w s = sym (least_is net a least fit lt (record {
  reached = elim s.among [
    | inl e ↦ (let P : ℕ → Type 0 = λ z. joined_in net a z ≡ true in subst P (sym e) (n_refl net a fit))
    | inr i ↦ sym (w.each least) ∙ i
  ];
  least = λ x h. s.each x (w.each x ∙ h);
}))
