-- Sums over classes, before and after one pair more.
use Rattle.std.proofs.Common.{◌≡◌, ◌≢◌, refl, sym, ap, ◌∙◌, subst, ℕ, zero, suc, ◌+◌, ◌<◌, ◌≤◌, ℤ, pos, ◌+ℤ◌, Bool, true, false, cond, List, [], ◌∷◌, ◌++◌, length, get_or, set, reverse, inl, inr, min, arith, get_or-set_same, get_or-set_other, length-set}
use Rattle.std.specs.Prelude.{eqb, fold, zip}
use Rattle.std.specs.List.{range_with_len}
use Rattle.std.proofs.lemmas.Int.{ints}
use Rattle.std.proofs.lemmas.Bool.{false≢true, cases_eq, eqb-true, eqb-false, eq-eqb, ne_eqb}
use Rattle.std.proofs.lemmas.List.{set-set, set-get_or, reverse-append, get_or_default}
use Rattle.std.proofs.lemmas.List.FromFn.{get_or-range_with_len, length-range_with_len}
use Rattle.grid_lemmas.proofs.Bools.{same_test}
use Rattle.grid_graph.specs.Components.{places}
use Rattle.grid_graph.specs.Graph.{Graph, graph, EndsBelow, joined_in, least_joined}
use Rattle.grid_graph.proofs.Places.{AreBelow}
use Rattle.grid_graph.proofs.Below.{pairs_below}
use Rattle.grid_graph.proofs.Least.{least_same, least_below, joined_from_least, leads_itself}
use Rattle.grid_queue.proofs.OneMore.{IsOneMore, near_joined}
use Rattle.grid_queue.proofs.Parents.{none_joined}
use Rattle.grid_components.proofs.Tallies.{Parts}
use Rattle.grid_unions.specs.declared.summed.Sums.{Sums}
use Rattle.grid_unions.specs.declared.summed.Replaced.{Replaced}
use Rattle.grid_unions.specs.Summed.{weighted, no_sums, add_joined, class_sum, AreSumsOf, sum_of_both, IsSummed, sums_before, AreSummed}
use Rattle.grid_unions.specs.Unions.{with_newest}
use Rattle.grid_unions.proofs.UnionCounts.{newest_ends, newest_pair, IsAmong, among, least_in_either, least_in_neither, kept_least, parts_least, anyway}

-- ---- sums over the numbers that a test picks

unfoldable tally : (Sums → ℤ) → (ℕ → Bool) → List (ℕ × Sums) → ℤ
tally watts p [] = pos 0
tally watts p (at ∷ ats) = cond (p at.0) (watts at.1) (pos 0) +ℤ tally watts p ats

fold_tally : (watts : Sums → ℤ) (net : Graph) (a : ℕ) (total : ℤ) (ats : List (ℕ × Sums)) → fold (add_joined watts net a) total ats ≡ total +ℤ tally watts (joined_in net a) ats
unfolding tally
fold_tally watts net a total [] = omega (arith, ints)
fold_tally watts net a total (at ∷ ats) = by (joined_in net a at.0) (λ t. fold_tally watts net a t ats)
  where
    rest : ℤ
    rest = tally watts (joined_in net a) ats

    by : (t : Bool) → ((total : ℤ) → fold (add_joined watts net a) total ats ≡ total +ℤ rest)
        → fold (add_joined watts net a) (cond t (total +ℤ watts at.1) total) ats ≡ total +ℤ (cond t (watts at.1) (pos 0) +ℤ rest)
    by true again = omega (arith, ints, again (total +ℤ watts at.1))
    by false again = omega (arith, ints, again total)

-- tests on the numbers from low on
module _ (watts : Sums → ℤ) where
  abbrev over : (ℕ → Bool) → ℕ → ℕ → List Sums → ℤ
  over p low n ws = tally watts p (zip (range_with_len low n) ws)

  tally_same : (p q : ℕ → Bool) (low n : ℕ) (ws : List Sums) → ((y : ℕ) → low ≤ y → y < low + n → p y ≡ q y) → over p low n ws ≡ over q low n ws
  unfolding tally
  tally_same p q low zero ws h = refl
  tally_same p q low (suc n) [] h = refl
  tally_same p q low (suc n) (w ∷ ws) h =
      ap (λ t. cond t (watts w) (pos 0) +ℤ over p (low + 1) n ws) (h low (omega arith) (omega arith))
      ∙ ap (λ z. cond (q low) (watts w) (pos 0) +ℤ z) (tally_same p q (low + 1) n ws (λ y le lt. h y (omega (arith, le)) (omega (arith, lt))))

  one_sum : (s t u : Bool) (x a b c : ℤ) → Parts s t u → a +ℤ b ≡ c → (cond s x (pos 0) +ℤ a) +ℤ (cond t x (pos 0) +ℤ b) ≡ cond u x (pos 0) +ℤ c
  one_sum true true u x a b c h e = absurd (false≢true (sym (h.both refl)))
  one_sum true false true x a b c h e = omega (arith, ints, e)
  one_sum true false false x a b c h e = absurd (false≢true (h.first refl))
  one_sum false true true x a b c h e = omega (arith, ints, e)
  one_sum false true false x a b c h e = absurd (false≢true (h.second refl))
  one_sum false false true x a b c h e = absurd (false≢true (sym (h.none refl refl)))
  one_sum false false false x a b c h e = omega (arith, ints, e)

  tally_part : (p q r : ℕ → Bool) (low n : ℕ) (ws : List Sums) → ((y : ℕ) → low ≤ y → y < low + n → Parts (p y) (q y) (r y)) → over p low n ws +ℤ over q low n ws ≡ over r low n ws
  unfolding tally
  tally_part p q r low zero ws h = refl
  tally_part p q r low (suc n) [] h = refl
  tally_part p q r low (suc n) (w ∷ ws) h =
      one_sum (p low) (q low) (r low) (watts w) (over p (low + 1) n ws) (over q (low + 1) n ws) (over r (low + 1) n ws) (h low (omega arith) (omega arith))
      (tally_part p q r (low + 1) n ws (λ y le lt. h y (omega (arith, le)) (omega (arith, lt))))

  tally_none : (x low n : ℕ) (ws : List Sums) → x < low → over (eqb x) low n ws ≡ pos 0
  unfolding tally
  tally_none x low zero ws lt = refl
  tally_none x low (suc n) [] lt = refl
  tally_none x low (suc n) (w ∷ ws) lt =
      ap (λ t. cond t (watts w) (pos 0) +ℤ over (eqb x) (low + 1) n ws) (ne_eqb x low (λ e. omega (arith, e, lt)))
      ∙ ap (λ z. pos 0 +ℤ z) (tally_none x (low + 1) n ws (omega (arith, lt)))

  tally_one : (x k low n : ℕ) (ws : List Sums) → x ≡ low + k → k < n → length ws ≡ n → over (eqb x) low n ws ≡ watts (get_or ws k no_sums)
  unfolding tally
  tally_one x k low zero ws e lt long = absurd (omega arith)
  tally_one x k low (suc n) [] e lt long = absurd (omega arith)
  tally_one x zero low (suc n) (w ∷ ws) e lt long =
      let none = tally_none x (low + 1) n ws (omega (arith, e)) in
      ap (λ t. cond t (watts w) (pos 0) +ℤ over (eqb x) (low + 1) n ws) (eq-eqb x low (omega (arith, e))) ∙ omega (arith, ints, none)
  tally_one x (suc k) low (suc n) (w ∷ ws) e lt long =
      let rest = tally_one x k (low + 1) n ws (omega (arith, e)) (omega (arith, lt)) (omega (arith, long)) in
      ap (λ t. cond t (watts w) (pos 0) +ℤ over (eqb x) (low + 1) n ws) (ne_eqb x low (λ f. omega (arith, e, f))) ∙ omega (arith, ints, rest)

  -- ---- classes

  -- the sum over those that have the same least number
  class_alike : (net : Graph) (ws : List Sums) (x : ℕ) → AreBelow net.nodes net.pairs → x < net.nodes
      → class_sum watts net ws x ≡ over (λ y. eqb (least_joined net y) (least_joined net x)) 0 net.nodes ws
  unfolding class_sum places
  class_alike net ws x fit lt =
      let all = fold_tally watts net x (pos 0) (zip (range_with_len 0 net.nodes) ws) in
      let same = tally_same (joined_in net x) (λ y. eqb (least_joined net y) (least_joined net x)) 0 net.nodes ws (λ y le less. (let here : y < net.nodes = omega (arith, less) in same_test _ _
      (λ j. eq-eqb (least_joined net y) (least_joined net x) (sym (least_same net x y fit lt j)))
      (λ h. joined_from_least net x y fit lt here (sym (eqb-true (least_joined net y) (least_joined net x) h))))) in
      omega (arith, ints, all, same)

  pub class_same : (net : Graph) (ws : List Sums) (x y : ℕ) → AreBelow net.nodes net.pairs → x < net.nodes → y < net.nodes → least_joined net x ≡ least_joined net y
      → class_sum watts net ws x ≡ class_sum watts net ws y
  class_same net ws x y fit lt less e =
      class_alike net ws x fit lt ∙ ap (λ l. over (λ z. eqb (least_joined net z) l) 0 net.nodes ws) e ∙ sym (class_alike net ws y fit less)

  class_alone : (count : ℕ) (ws : List Sums) (x : ℕ) → AreBelow count [] → ((y : ℕ) → y < count → least_joined (graph count []) y ≡ y) → length ws ≡ count → x < count
      → class_sum watts (graph count []) ws x ≡ watts (get_or ws x no_sums)
  class_alone count ws x fit own long lt =
      class_alike (graph count []) ws x fit lt
      ∙ tally_same (λ y. eqb (least_joined (graph count []) y) (least_joined (graph count []) x)) (eqb x) 0 count ws (λ y le less. (let here : y < count = omega (arith, less) in same_test _ _
      (λ h. eq-eqb x y (sym (own x lt) ∙ sym (eqb-true (least_joined (graph count []) y) (least_joined (graph count []) x) h) ∙ own y here))
      (λ h. eq-eqb (least_joined (graph count []) y) (least_joined (graph count []) x) (ap (least_joined (graph count [])) (sym (eqb-true x y h))))))
      ∙ tally_one x x 0 count ws (omega arith) lt long

  -- one pair more
  module _ (net : Graph) (ws : List Sums) (a b : ℕ) (ends : EndsBelow net.pairs net.nodes) (lt : a < net.nodes) (less : b < net.nodes) where
    abbrev more : Graph
    more = with_newest net a b

    s : IsOneMore net (with_newest net a b) a b
    s = newest_pair net a b ends lt less

    met : least_joined more a ≡ least_joined more b
    met = least_same more a b s.more_fit lt (near_joined net more a b s)

    class_united : least_joined net a ≢ least_joined net b → class_sum watts net ws a +ℤ class_sum watts net ws b ≡ class_sum watts more ws a
    class_united apart =
        let first = class_alike net ws a s.fit lt in
        let second = class_alike net ws b s.fit less in
        let both = class_alike more ws a s.more_fit lt in
        let parts = tally_part (λ y. eqb (least_joined net y) (least_joined net a)) (λ y. eqb (least_joined net y) (least_joined net b)) (λ y. eqb (least_joined more y) (least_joined more a)) 0 net.nodes ws
        (λ y le under. (let here : y < net.nodes = omega (arith, under) in record {
          both = λ h. ne_eqb (least_joined net y) (least_joined net b) (λ e. apart (sym (eqb-true (least_joined net y) (least_joined net a) h) ∙ e));
          first = λ h. eq-eqb (least_joined more y) (least_joined more a) (kept_least net more a b s y a here lt (eqb-true (least_joined net y) (least_joined net a) h));
          second = λ h. eq-eqb (least_joined more y) (least_joined more a) (kept_least net more a b s y b here less (eqb-true (least_joined net y) (least_joined net b) h) ∙ sym met);
          none = λ f g. ne_eqb (least_joined more y) (least_joined more a) (λ e. elim (parts_least net more a b s y a here lt e) [
            | inl h ↦ eqb-false (least_joined net y) (least_joined net a) f h
            | inr h ↦ elim h.0 [ inl k ↦ eqb-false (least_joined net y) (least_joined net a) f k | inr k ↦ eqb-false (least_joined net y) (least_joined net b) g k ]
          ]);
        })) in
        omega (arith, ints, first, second, both, parts)

    class_stays : (x : ℕ) → x < net.nodes → (IsAmong net a b x → ⊥) → class_sum watts net ws x ≡ class_sum watts more ws x
    class_stays x below other =
        class_alike net ws x s.fit below
        ∙ tally_same (λ y. eqb (least_joined net y) (least_joined net x)) (λ y. eqb (least_joined more y) (least_joined more x)) 0 net.nodes ws
        (λ y le under. (let here : y < net.nodes = omega (arith, under) in same_test _ _
        (λ h. eq-eqb (least_joined more y) (least_joined more x) (kept_least net more a b s y x here below (eqb-true (least_joined net y) (least_joined net x) h)))
        (λ h. elim (parts_least net more a b s y x here below (eqb-true (least_joined more y) (least_joined more x) h)) [
          | inl e ↦ eq-eqb (least_joined net y) (least_joined net x) e
          | inr e ↦ absurd (other e.1)
        ])))
        ∙ sym (class_alike more ws x s.more_fit below)

    class_anyway : (x : ℕ) → x < net.nodes → least_joined net a ≡ least_joined net b → class_sum watts net ws x ≡ class_sum watts more ws x
    class_anyway x below e =
        class_alike net ws x s.fit below
        ∙ tally_same (λ y. eqb (least_joined net y) (least_joined net x)) (λ y. eqb (least_joined more y) (least_joined more x)) 0 net.nodes ws
        (λ y le under. (let here : y < net.nodes = omega (arith, under) in
        ap (λ z. eqb z (least_joined net x)) (sym (anyway net more a b y s here e)) ∙ ap (eqb (least_joined more y)) (sym (anyway net more a b x s below e))))
        ∙ sym (class_alike more ws x s.more_fit below)

    -- ---- the sums by least numbers

    abbrev first : ℕ
    first = least_joined net a

    abbrev second : ℕ
    second = least_joined net b

    module _ (sums : List Sums) (both : Sums) (long : length sums ≡ net.nodes) (each : AreSumsOf watts net ws sums) (is : watts both ≡ sum_of_both watts sums first second) where
      first_below : first < net.nodes
      first_below = least_below net a s.fit lt

      second_below : second < net.nodes
      second_below = least_below net b s.fit less

      of_first : watts (get_or sums first no_sums) ≡ class_sum watts net ws a
      of_first =
          let own = leads_itself net a first s.fit lt refl in
          each first first_below own ∙ class_same net ws first a s.fit first_below lt own

      of_second : watts (get_or sums second no_sums) ≡ class_sum watts net ws b
      of_second =
          let own = leads_itself net b second s.fit less refl in
          each second second_below own ∙ class_same net ws second b s.fit second_below less own

      of_both : watts both ≡ class_sum watts more ws a
      of_both = elim (cases_eq first second) [
        | inl e ↦ is ∙ ap (λ t. cond t (watts (get_or sums first no_sums)) (watts (get_or sums first no_sums) +ℤ watts (get_or sums second no_sums))) (eq-eqb first second e)
            ∙ of_first ∙ class_anyway a lt e
        | inr ne ↦ is ∙ ap (λ t. cond t (watts (get_or sums first no_sums)) (watts (get_or sums first no_sums) +ℤ watts (get_or sums second no_sums))) (ne_eqb first second ne)
            ∙ ap (λ z. z +ℤ watts (get_or sums second no_sums)) of_first ∙ ap (λ z. class_sum watts net ws a +ℤ z) of_second ∙ class_united ne
      ]

      sums_more : AreSumsOf watts more ws (set sums (min first second) both)
      sums_more x below leads = elim (among net more a b s x) [
        | inl m ↦ (let at : x ≡ min first second = sym leads ∙ least_in_either net more a b s x below m in
            let there : least_joined more a ≡ least_joined more x = least_in_either net more a b s a lt (inl refl) ∙ sym (least_in_either net more a b s x below m) in
            ap (λ z. watts (get_or (set sums (min first second) both) z no_sums)) at
            ∙ ap watts (get_or-set_same sums (min first second) both no_sums (omega (arith, long, first_below, second_below)))
            ∙ of_both ∙ class_same more ws a x s.more_fit lt below there)
        | inr m ↦ (let own : least_joined net x ≡ x = sym (least_in_neither net more a b s x below m.0 m.1) ∙ leads in
            let other : x ≢ min first second = λ e. elim (cases_eq x first) [
              | inl f ↦ m.0 (own ∙ f)
              | inr ne ↦ m.1 (own ∙ omega (arith, e, ne))
            ] in
            ap watts (get_or-set_other sums (min first second) x both no_sums other)
            ∙ each x below own ∙ class_stays x below (λ i. elim i [ inl e ↦ m.0 e | inr e ↦ m.1 e ]))
      ]

-- ---- the sums of a graph

pub summed_alone : (count : ℕ) (ws : List Sums) → length ws ≡ count → IsSummed (graph count []) ws ws
summed_alone count ws long =
    let at : (x : ℕ) → x < count → get_or (range_with_len 0 count) x 0 ≡ x = λ x lt. omega (arith, get_or-range_with_len 0 count x 0 lt) in
    let all = none_joined count (range_with_len 0 count) (length-range_with_len 0 count) at in
    let own : (x : ℕ) → x < count → least_joined (graph count []) x ≡ x = λ x lt. all.roots x lt (at x lt) in
    let fit = pairs_below count [] all.ends in
    record {
      ends = all.ends;
      long = long;
      load = λ x lt e. sym (class_alone (λ s. s.load) count ws x fit own long lt);
      generation = λ x lt e. sym (class_alone (λ s. s.generation) count ws x fit own long lt);
    }

-- with the sums of both classes at their least number
pub record IsOfBoth (sums : List Sums) (first second : ℕ) (both : Sums) : Type 0 where
  pub load : both.load ≡ sum_of_both (λ s. s.load) sums first second
  pub generation : both.generation ≡ sum_of_both (λ s. s.generation) sums first second

summed_more : (net : Graph) (ws sums : List Sums) (a b : ℕ) (both : Sums) → IsSummed net ws sums → a < net.nodes → b < net.nodes
    → IsOfBoth sums (least_joined net a) (least_joined net b) both → IsSummed (with_newest net a b) ws (set sums (min (least_joined net a) (least_joined net b)) both)
summed_more net ws sums a b both s lt less is = record {
  ends = newest_ends net a b s.ends lt less;
  long = length-set sums (min (least_joined net a) (least_joined net b)) both ∙ s.long;
  load = sums_more (λ s. s.load) net ws a b s.ends lt less sums both s.long s.load is.load;
  generation = sums_more (λ s. s.generation) net ws a b s.ends lt less sums both s.long s.generation is.generation;
}

-- ---- the sums of graphs one after the other

pub summed_now : (count : ℕ) (pairs : List (ℕ × ℕ)) (ws : List Sums) (replaced : List Replaced) (sums : List Sums) → AreSummed count pairs ws replaced sums → IsSummed (graph count pairs) ws sums
summed_now count [] ws [] sums s = s
summed_now count [] ws (r ∷ older) sums s = absurd s
summed_now count (p ∷ ps) ws [] sums s = absurd s
summed_now count (p ∷ ps) ws (r ∷ older) sums s = s.0

pub least_in : (net : Graph) (ws sums : List Sums) (a : ℕ) → IsSummed net ws sums → a < net.nodes → least_joined net a < length sums
least_in net ws sums a s lt = omega (arith, s.long, least_below net a (pairs_below net.nodes net.pairs s.ends) lt)

pub weights_long : (sums : List Sums) (replaced : List Replaced) → length (sums_before sums replaced) ≡ length sums
weights_long sums [] = refl
weights_long sums (r ∷ older) = weights_long (set sums r.place r.sums) older ∙ length-set sums r.place r.sums

-- ---- the newest pair

abbrev pub replaced_of : ℕ → Sums → Replaced
replaced_of place sums = record { place = place; sums = sums }

abbrev pub replaced_at : List Sums → ℕ → Replaced
replaced_at sums place = replaced_of place (get_or sums place no_sums)

module _ (sums : List Sums) (place : ℕ) (both : Sums) (replaced more : List Replaced) (e : more ≡ replaced ++ replaced_at sums place ∷ []) where
  turned : reverse more ≡ replaced_at sums place ∷ reverse replaced
  turned = ap reverse e ∙ reverse-append replaced (replaced_at sums place ∷ [])

  put_back : set (set sums place both) place (get_or sums place no_sums) ≡ sums
  put_back = set-set sums place both (get_or sums place no_sums) ∙ set-get_or sums place no_sums

  pub weights_kept : sums_before (set sums place both) (reverse more) ≡ sums_before sums (reverse replaced)
  weights_kept = ap (sums_before (set sums place both)) turned ∙ ap (λ z. sums_before z (reverse replaced)) put_back

pub summed_joined : (net : Graph) (ws sums : List Sums) (a b : ℕ) (both : Sums) (replaced more : List Replaced)
    → more ≡ replaced ++ replaced_at sums (min (least_joined net a) (least_joined net b)) ∷ [] → AreSummed net.nodes net.pairs ws (reverse replaced) sums
    → a < net.nodes → b < net.nodes → IsOfBoth sums (least_joined net a) (least_joined net b) both
    → AreSummed net.nodes ((a, b) ∷ net.pairs) ws (reverse more) (set sums (min (least_joined net a) (least_joined net b)) both)
summed_joined net ws sums a b both replaced more e s lt less is =
    let place : ℕ = min (least_joined net a) (least_joined net b) in
    let P : List Replaced → Type 0 = λ rs. AreSummed net.nodes ((a, b) ∷ net.pairs) ws rs (set sums place both) in
    let Q : List Sums → Type 0 = AreSummed net.nodes net.pairs ws (reverse replaced) in
    let fit = pairs_below net.nodes net.pairs (summed_now net.nodes net.pairs ws (reverse replaced) sums s).ends in
    let below : place < net.nodes = omega (arith, least_below net a fit lt, least_below net b fit less) in
    subst P (sym (turned sums place both replaced more e)) (
      summed_more net ws sums a b both (summed_now net.nodes net.pairs ws (reverse replaced) sums s) lt less is,
      (below, subst Q (sym (put_back sums place both replaced more e)) s),
    )

-- what a join makes of a graph, of the sums and of those that were replaced
pub record IsJoined (net next : Graph) (a b : ℕ) (sums sums_next : List Sums) (replaced more : List Replaced) : Type 0 where
  pub graphs : next ≡ with_newest net a b
  pub first : ℕ
  pub second : ℕ
  pub is_first : first ≡ least_joined net a
  pub is_second : second ≡ least_joined net b
  pub both : Sums
  pub of_both : IsOfBoth sums first second both
  pub place : ℕ
  pub is_place : place ≡ min first second
  pub old : Sums
  pub is_old : old ≡ get_or sums place old
  pub put : sums_next ≡ set sums place both
  pub pushed : more ≡ replaced ++ replaced_of place old ∷ []

module _ (net next : Graph) (a b : ℕ) (sums sums_next : List Sums) (replaced more : List Replaced)
    (s : AreSummed net.nodes net.pairs (sums_before sums (reverse replaced)) (reverse replaced) sums) (lt : a < net.nodes) (less : b < net.nodes)
    (h : IsJoined net next a b sums sums_next replaced more) where
  abbrev least : ℕ
  least = min (least_joined net a) (least_joined net b)

  at_least : h.place ≡ least
  at_least = omega (arith, h.is_place, h.is_first, h.is_second)

  inside : h.place < length sums
  inside = omega (arith, at_least, least_in net (sums_before sums (reverse replaced)) sums a (summed_now net.nodes net.pairs (sums_before sums (reverse replaced)) (reverse replaced) sums s) lt)

  put_there : sums_next ≡ set sums least h.both
  put_there = h.put ∙ ap (λ z. set sums z h.both) at_least

  pushed_it : more ≡ replaced ++ replaced_at sums least ∷ []
  pushed_it =
      h.pushed ∙ ap (λ z. replaced ++ replaced_of h.place z ∷ []) (h.is_old ∙ get_or_default sums h.place h.old no_sums inside)
      ∙ ap (λ z. replaced ++ replaced_at sums z ∷ []) at_least

  both_there : IsOfBoth sums (least_joined net a) (least_joined net b) h.both
  both_there =
      let P : ℕ → Type 0 = λ z. IsOfBoth sums z (least_joined net b) h.both in
      let Q : ℕ → Type 0 = λ z. IsOfBoth sums h.first z h.both in
      subst P h.is_first (subst Q h.is_second h.of_both)

  pub joined_sums : AreSummed next.nodes next.pairs (sums_before sums_next (reverse more)) (reverse more) sums_next
  joined_sums =
      let P : Graph → Type 0 = λ g. AreSummed g.nodes g.pairs (sums_before sums_next (reverse more)) (reverse more) sums_next in
      let Q : List Sums → Type 0 = λ z. AreSummed net.nodes ((a, b) ∷ net.pairs) (sums_before z (reverse more)) (reverse more) z in
      let R : List Sums → Type 0 = λ ws. AreSummed net.nodes ((a, b) ∷ net.pairs) ws (reverse more) (set sums least h.both) in
      subst P (sym h.graphs) (subst Q (sym put_there) (subst R (sym (weights_kept sums least h.both replaced more pushed_it))
      (summed_joined net (sums_before sums (reverse replaced)) sums a b h.both replaced more pushed_it s lt less both_there)))

  pub joined_weights : weighted next (sums_before sums_next (reverse more)) ≡ weighted (with_newest net a b) (sums_before sums (reverse replaced))
  joined_weights =
      ap (λ g. weighted g (sums_before sums_next (reverse more))) h.graphs
      ∙ ap (λ z. weighted (with_newest net a b) (sums_before z (reverse more))) put_there
      ∙ ap (weighted (with_newest net a b)) (weights_kept sums least h.both replaced more pushed_it)

-- what the newest pair replaced
pub before_newest : (count : ℕ) (pairs : List (ℕ × ℕ)) (ws : List Sums) (replaced less : List Replaced) (r : Replaced) (sums : List Sums) → replaced ≡ less ++ r ∷ []
    → AreSummed count pairs ws (reverse replaced) sums → r.place < length sums
before_newest count pairs ws replaced less r sums e s = by pairs (subst (λ rs. AreSummed count pairs ws rs sums) (ap reverse e ∙ reverse-append less (r ∷ [])) s)
  where
    by : (ps : List (ℕ × ℕ)) → AreSummed count ps ws (r ∷ reverse less) sums → r.place < length sums
    by [] t = absurd t
    by (p ∷ ps) t = omega (arith, t.0.long, t.1.0)

-- the sums of a class, at its least number
pub sum_at_least : (watts : Sums → ℤ) (net : Graph) (ws sums : List Sums) (a least : ℕ) (kept : Sums) → EndsBelow net.pairs net.nodes → AreSumsOf watts net ws sums → length sums ≡ net.nodes
    → a < net.nodes → least ≡ least_joined net a → kept ≡ get_or sums least kept → watts kept ≡ class_sum watts net ws a
sum_at_least watts net ws sums a least kept ends each long lt is at =
    let fit = pairs_below net.nodes net.pairs ends in
    let below : least < net.nodes = omega (arith, is, least_below net a fit lt) in
    let own : least_joined net least ≡ least = leads_itself net a least fit lt (sym is) in
    ap watts (at ∙ get_or_default sums least kept no_sums (omega (arith, long, below)))
    ∙ each least below own ∙ class_same watts net ws least a fit below lt (own ∙ is)
