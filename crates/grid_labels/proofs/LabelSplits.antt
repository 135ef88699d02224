-- The labels after an opening, where a part of what had one label gets another.
use Rattle.std.proofs.Common.{◌≡◌, refl, sym, ap, ◌∙◌, subst, ℕ, ◌<◌, min, true, false, ◌||◌, List, ◌++◌, get_or, inl, inr, ◌⊎◌, arith}
use Rattle.std.proofs.lemmas.Bool.{both_ways, cases_Bool}
use Rattle.std.proofs.lemmas.List.{append-nil}
use Rattle.grid_graph.specs.Graph.{Graph, joined_in, least_joined, labels_of}
use Rattle.grid_graph.proofs.Places.{AreBelow}
use Rattle.grid_graph.proofs.Least.{least_is_least, least_below, least_same, joined_from_least, n_refl, n_symm}
use Rattle.grid_graph.proofs.Counts.{by_places}
use Rattle.grid_queue.specs.Work.{Queue, is_in, has}
use Rattle.grid_queue.specs.Walks.{IsWalked}
use Rattle.grid_queue.proofs.OneMore.{IsOneMore, n_trans}
use Rattle.grid_queue.proofs.WalkPairs.{apart_turned}
use Rattle.grid_labels.specs.Classes.{IsLeaving, AreParted}
use Rattle.grid_labels.proofs.LabelUnions.{AreUnited, united, united_turned, united_same}
use Rattle.grid_lemmas.proofs.Bools.{or_left, or_right}

-- just the nodes that are joined to c leave, of those that are joined to c or d
record AreLeaving (net : Graph) (c d : ℕ) (walked : Queue) (label : ℕ) (old : List ℕ) : Type 0 where
  pub leaves : (x : ℕ) → x < net.nodes → joined_in net c x ≡ true → IsLeaving walked label old x
  pub led : (x : ℕ) → x < net.nodes → IsLeaving walked label old x → joined_in net c x ≡ true
  pub stays : joined_in net c label ≡ false

left_labels : (net : Graph) (c d : ℕ) (walked : Queue) (label : ℕ) (old new : List ℕ) → AreBelow net.nodes net.pairs → c < net.nodes → d < net.nodes → AreUnited net c d old
    → label ≡ min (least_joined net c) (least_joined net d) → AreLeaving net c d walked label old → AreParted walked label old new → new ≡ labels_of net
unfolding labels_of
left_labels net c d walked label old new fit lt less u is s p = by_places net.nodes (least_joined net) new (p.long ∙ u.long) (λ x below. each x below (cases_Bool (joined_in net c x)) (cases_Bool (joined_in net d x)))
  where
    lowest : least_joined net c ≡ label → ⊥
    lowest e = let P : ℕ → Type 0 = λ y. joined_in net c y ≡ true in both_ways _ s.stays (subst P e (least_is_least net c fit lt).reached)

    each : (x : ℕ) → x < net.nodes → (joined_in net c x ≡ true) ⊎ (joined_in net c x ≡ false) → (joined_in net d x ≡ true) ⊎ (joined_in net d x ≡ false) → get_or new x 0 ≡ least_joined net x
    each x below (inl j) h =
        let f = least_is_least net c fit lt in
        let q = s.leaves x below j in
        let n = u.long in
        let inside = p.inside x q in
        let inner : get_or new x 0 < net.nodes = (let l = inside.below in omega (arith, l, n)) in
        let low = f.least (get_or new x 0) (s.led (get_or new x 0) inner inside) in
        let there : least_joined net c < net.nodes = least_below net c fit lt in
        let high = p.least x (least_joined net c) q (s.leaves (least_joined net c) there f.reached) in
        let same = least_same net c x fit lt j in
        omega (arith, low, high, same)
    each x below (inr j) (inl k) =
        let same = least_same net d x fit less k in
        p.outside x (λ q. absurd (both_ways _ j (s.led x below q))) ∙ u.inside x below (or_right (joined_in net c x) (joined_in net d x) k) ∙ omega (arith, same, is, lowest)
    each x below (inr j) (inr k) =
        let none : (joined_in net c x || joined_in net d x) ≡ false = rw (j, k) refl in
        p.outside x (λ q. absurd (both_ways _ j (s.led x below q))) ∙ u.outside x below none

module _ (net : Graph) (a b : ℕ) (walked : Queue) (label : ℕ) (old : List ℕ) (fit : AreBelow net.nodes net.pairs) (lt : a < net.nodes) (less : b < net.nodes)
    (w : IsWalked net a walked) (apart : joined_in net a b ≡ false) (u : AreUnited net a b old) (is : label ≡ min (least_joined net a) (least_joined net b)) where
  queue_is : (x : ℕ) → has walked x ≡ joined_in net a x
  queue_is x = let P : List ℕ → Type 0 = λ ns. is_in ns x ≡ joined_in net a x in subst P (sym (ap (λ z. walked.taken ++ z) w.done ∙ append-nil walked.taken)) (w.each x)

  not_both : (x : ℕ) → x < net.nodes → joined_in net b x ≡ true → joined_in net a x ≡ false
  not_both x below h = elim (cases_Bool (joined_in net a x)) [
    | inl j ↦ absurd (both_ways _ apart (n_trans net a x b fit lt j (n_symm net b x fit below h)))
    | inr j ↦ j
  ]

  united_label : (x : ℕ) → x < net.nodes → (joined_in net a x || joined_in net b x) ≡ true → get_or old x 0 ≡ label
  united_label x below h = u.inside x below h ∙ sym is

  -- what was walked over leaves, where the label's node is not of it
  walked_leaves : joined_in net a label ≡ false → AreLeaving net a b walked label old
  walked_leaves none = record {
    leaves = λ x below j. record {
      below = (let e = u.long in omega (arith, e, below));
      labelled = united_label x below (or_left (joined_in net a x) (joined_in net b x) j);
      parted = λ e. both_ways (joined_in net a label) none (sym (queue_is label) ∙ sym e ∙ queue_is x ∙ j);
    };
    led = λ x below q. elim (cases_Bool (joined_in net a x)) [
      | inl j ↦ j
      | inr j ↦ absurd (q.parted (queue_is x ∙ j ∙ sym none ∙ sym (queue_is label)))
    ];
    stays = none;
  }

  -- the rest leaves, where it is
  rest_leaves : label < net.nodes → joined_in net a label ≡ true → AreLeaving net b a walked label old
  rest_leaves inside there = record {
    leaves = λ x below j. record {
      below = (let e = u.long in omega (arith, e, below));
      labelled = united_label x below (or_right (joined_in net a x) (joined_in net b x) j);
      parted = λ e. both_ways (joined_in net a x) (not_both x below j) (sym (queue_is x) ∙ e ∙ queue_is label ∙ there);
    };
    led = λ x below q. led x below q (cases_Bool (joined_in net a x)) (cases_Bool (joined_in net b x));
    stays = elim (cases_Bool (joined_in net b label)) [
      | inl j ↦ absurd (both_ways _ (not_both label inside j) there)
      | inr j ↦ j
    ];
  }
    where
      led : (x : ℕ) → x < net.nodes → IsLeaving walked label old x → (joined_in net a x ≡ true) ⊎ (joined_in net a x ≡ false) → (joined_in net b x ≡ true) ⊎ (joined_in net b x ≡ false) → joined_in net b x ≡ true
      led x below q (inl j) h = absurd (q.parted (queue_is x ∙ j ∙ sym there ∙ sym (queue_is label)))
      led x below q (inr j) (inl k) = k
      led x below q (inr j) (inr k) =
          let none : (joined_in net a x || joined_in net b x) ≡ false = rw (j, k) refl in
          let low = (least_is_least net a fit lt).least label there in
          let own : least_joined net a ≡ label = omega (arith, low, is) in
          absurd (both_ways _ j (joined_from_least net a x fit lt below (own ∙ sym q.labelled ∙ u.outside x below none)))

  pub parted_labels : (new : List ℕ) → label < net.nodes → AreParted walked label old new → new ≡ labels_of net
  parted_labels new inside p = elim (cases_Bool (joined_in net a label)) [
    | inl j ↦ left_labels net b a walked label old new fit less lt (united_turned net a b old u) (omega (arith, is)) (rest_leaves inside j) p
    | inr j ↦ left_labels net a b walked label old new fit lt less u is (walked_leaves j) p
  ]

-- ---- by the labels before the opening

module _ (net before : Graph) (a b : ℕ) (labels : List ℕ) (label : ℕ) (s : IsOneMore net before a b) (was : labels ≡ labels_of before) (here : label ≡ get_or labels a 0) where
  one : AreUnited net a b labels
  one = united net before a b labels s was

  label_is : label ≡ min (least_joined net a) (least_joined net b)
  label_is = here ∙ one.inside a s.first (or_left (joined_in net a a) (joined_in net b a) (n_refl net a s.fit))

  label_below : label < net.nodes
  label_below = let l = label_is in let low = least_below net a s.fit s.first in omega (arith, l, low)

  pub near_labels : (walked : Queue) (new : List ℕ) → IsWalked net a walked → joined_in net a b ≡ false → AreParted walked label labels new → new ≡ labels_of net
  near_labels walked new w apart p = parted_labels net a b walked label labels s.fit s.first s.second w apart one label_is new label_below p

  pub far_labels : (walked : Queue) (new : List ℕ) → IsWalked net b walked → joined_in net a b ≡ false → AreParted walked label labels new → new ≡ labels_of net
  far_labels walked new w apart p =
      parted_labels net b a walked label labels s.fit s.second s.first w (apart_turned net a b s.fit s.first apart) (united_turned net a b labels one) (let l = label_is in omega (arith, l)) new label_below p

  pub met_labels : joined_in net a b ≡ true → labels ≡ labels_of net
  met_labels met = united_same net a b labels s.fit s.first s.second one met
