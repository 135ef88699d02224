-- Places that pairs join, with further nodes behind them that each hang at one place, or at none.
use Rattle.std.proofs.Common.{◌≡◌, refl, sym, ap, ◌∙◌, subst, ℕ, ◌<◌, ◌≤◌, Bool, true, false, cond, ◌&&◌, ◌||◌, List, ◌++◌, inl, inr, ◌⊎◌, arith}
use Rattle.std.specs.Prelude.{eqb, nat_lt}
use Rattle.std.specs.List.{flat_map}
use Rattle.std.proofs.lemmas.Bool.{both_ways, and_parts, and_from, or_cases, or_left, or_right, lt-ltb, le-ltb, eqb-true, eq-eqb}
use Rattle.std.proofs.lemmas.List.Concat.{flat_map-append}
use Rattle.grid_lemmas.proofs.Bools.{same_test}
use Rattle.grid_graph.specs.Joined.{end_across, neighbours, joined}
use Rattle.grid_graph.specs.Components.{places}
use Rattle.grid_graph.specs.Graph.{EndsBelow}
use Rattle.grid_graph.proofs.Reach.{In, In_parts, In_right, neighbours_back}
use Rattle.grid_graph.proofs.Places.{AreBelow, j_refl, j_near, j_step, j_along}
use Rattle.grid_graph.proofs.Below.{pairs_below}
use Rattle.grid_graph.proofs.Neighbours.{near_first}

-- ---- neighbours by two lists of pairs

pub near_parts : (first second : List (ℕ × ℕ)) (a c : ℕ) → In c (neighbours (first ++ second) a) → In c (neighbours first a) ⊎ In c (neighbours second a)
unfolding neighbours
near_parts first second a c i =
    let P : List ℕ → Type 0 = λ z. In c z in
    In_parts c (flat_map (end_across a) first) (flat_map (end_across a) second) (subst P (flat_map-append (end_across a) first second) i)

pub near_second : (first second : List (ℕ × ℕ)) (a c : ℕ) → In c (neighbours second a) → In c (neighbours (first ++ second) a)
unfolding neighbours
near_second first second a c i =
    let P : List ℕ → Type 0 = λ z. In c z in
    subst P (sym (flat_map-append (end_across a) first second)) (In_right c (flat_map (end_across a) first) (flat_map (end_across a) second) i)

-- ---- nodes that hang

-- node c hangs at a place
pub record HangsAt (count all : ℕ) (at : ℕ → ℕ) (on : ℕ → Bool) (place c : ℕ) : Type 0 where
  pub behind : count ≤ c
  pub below : c < all
  pub hangs : on c ≡ true
  pub here : place ≡ at c

-- the pairs hang those nodes behind the places for which the test holds, each at one place
pub record AreSpokes (count all : ℕ) (at : ℕ → ℕ) (on : ℕ → Bool) (spokes : List (ℕ × ℕ)) : Type 0 where
  pub across : (a c : ℕ) → In c (neighbours spokes a) → HangsAt count all at on a c ⊎ HangsAt count all at on c a
  pub there : (c : ℕ) → count ≤ c → c < all → on c ≡ true → In c (neighbours spokes (at c))
  pub inside : (c : ℕ) → count ≤ c → c < all → on c ≡ true → at c < count

module _ (count all : ℕ) (at : ℕ → ℕ) (on : ℕ → Bool) (closed spokes : List (ℕ × ℕ)) (le : count ≤ all) (ends : EndsBelow closed count) (hang : AreSpokes count all at on spokes) where
  within_places : AreBelow count closed
  within_places = pairs_below count closed ends

  -- both are places
  near_places : (a c : ℕ) → In c (neighbours closed a) → (a < count) × (c < count)
  near_places a c i = (within_places.across c a (neighbours_back closed a c i), within_places.across a c i)

  near_spoke : (a c : ℕ) → HangsAt count all at on a c ⊎ HangsAt count all at on c a → c < all
  near_spoke a c (inl h) = h.below
  near_spoke a c (inr h) =
      let inside : at a < count = hang.inside a h.behind h.below h.hangs in
      let same : c ≡ at a = h.here in
      omega (arith, inside, same, le)

  pub within_all : AreBelow all (closed ++ spokes)
  within_all = record {
    across = λ a c i. elim (near_parts closed spokes a c i) [
      | inl h ↦ (let p = near_places a c h in let q : c < count = p.1 in omega (arith, q, le))
      | inr h ↦ near_spoke a c (hang.across a c h)
    ];
  }

  -- the place that stands for a node: itself, or the one at which it hangs
  home : ℕ → ℕ
  home n = cond (nat_lt n count) n (at n)

  home_place : (n : ℕ) → n < count → home n ≡ n
  unfolding home
  home_place n lt = ap (λ t. cond t n (at n)) (lt-ltb n count lt)

  home_behind : (n : ℕ) → count ≤ n → home n ≡ at n
  unfolding home
  home_behind n b = ap (λ t. cond t n (at n)) (le-ltb n count b)

  -- the node stands for a place that is joined to another
  reached : ℕ → ℕ → Bool
  reached a n = (nat_lt n count || on n) && joined (places count) closed a (home n)

  reached_place : (a n : ℕ) → n < count → joined (places count) closed a n ≡ true → reached a n ≡ true
  unfolding reached
  reached_place a n lt j = and_from (nat_lt n count || on n) _ (or_left (nat_lt n count) (on n) (lt-ltb n count lt)) (ap (joined (places count) closed a) (home_place n lt) ∙ j)

  reached_behind : (a n : ℕ) → count ≤ n → on n ≡ true → joined (places count) closed a (at n) ≡ true → reached a n ≡ true
  unfolding reached
  reached_behind a n b h j = and_from (nat_lt n count || on n) _ (or_right (nat_lt n count) (on n) h) (ap (joined (places count) closed a) (home_behind n b) ∙ j)

  place_reached : (a n : ℕ) → n < count → reached a n ≡ true → joined (places count) closed a n ≡ true
  unfolding reached
  place_reached a n lt r = sym (ap (joined (places count) closed a) (home_place n lt)) ∙ (and_parts (nat_lt n count || on n) _ r).1

  behind_reached : (a n : ℕ) → count ≤ n → reached a n ≡ true → (on n ≡ true) × (joined (places count) closed a (at n) ≡ true)
  unfolding reached
  behind_reached a n b r =
      let parts = and_parts (nat_lt n count || on n) (joined (places count) closed a (home n)) r in (
        elim (or_cases (nat_lt n count) (on n) parts.0) [
          | inl h ↦ absurd (both_ways (nat_lt n count) (le-ltb n count b) h)
          | inr h ↦ h
        ],
        sym (ap (joined (places count) closed a) (home_behind n b)) ∙ parts.1,
      )

  over_spoke : (a x c : ℕ) → reached a x ≡ true → HangsAt count all at on x c ⊎ HangsAt count all at on c x → reached a c ≡ true
  over_spoke a x c r (inl h) =
      let inside : at c < count = hang.inside c h.behind h.below h.hangs in
      let lt : x < count = (let e : x ≡ at c = h.here in omega (arith, e, inside)) in
      reached_behind a c h.behind h.hangs (ap (joined (places count) closed a) (sym h.here) ∙ place_reached a x lt r)
  over_spoke a x c r (inr h) =
      let inside : at x < count = hang.inside x h.behind h.below h.hangs in
      let lt : c < count = (let e : c ≡ at x = h.here in omega (arith, e, inside)) in
      reached_place a c lt (ap (joined (places count) closed a) h.here ∙ (behind_reached a x h.behind r).1)

  over : (a : ℕ) → a < count → (x c : ℕ) → reached a x ≡ true → In c (neighbours (closed ++ spokes) x) → reached a c ≡ true
  over a lt x c r i = elim (near_parts closed spokes x c i) [
    | inl h ↦ (let p = near_places x c h in reached_place a c p.1 (j_step count closed within_places a x c lt p.0 (place_reached a x p.0 r) h))
    | inr h ↦ over_spoke a x c r (hang.across x c h)
  ]

  all_reached : (a b : ℕ) → a < count → joined (places all) (closed ++ spokes) a b ≡ true → reached a b ≡ true
  all_reached a b lt j = j_along all (closed ++ spokes) within_all (reached a) (over a lt) a b (reached_place a a lt (j_refl count closed within_places a)) j

  more_joined : (a b : ℕ) → a < count → joined (places count) closed a b ≡ true → joined (places all) (closed ++ spokes) a b ≡ true
  more_joined a b lt j =
      j_along count closed within_places (joined (places all) (closed ++ spokes) a)
      (λ x c r i. let p = near_places x c i in let q : x < count = p.0 in
      j_step all (closed ++ spokes) within_all a x c (omega (arith, lt, le)) (omega (arith, q, le)) r (near_first closed spokes x c i))
      a b (j_refl all (closed ++ spokes) within_all a) j

  -- two places are joined as without the nodes that hang
  pub places_joined : (a b : ℕ) → a < count → b < count → joined (places all) (closed ++ spokes) a b ≡ joined (places count) closed a b
  places_joined a b lt less = same_test _ _ (λ j. place_reached a b less (all_reached a b lt j)) (λ j. more_joined a b lt j)

  -- a node behind them is joined to a place where it hangs at one that is joined to it
  pub behind_joined : (a y : ℕ) → a < count → count ≤ y → y < all → joined (places all) (closed ++ spokes) a y ≡ (on y && joined (places count) closed a (at y))
  behind_joined a y lt b less = same_test _ _
      (λ j. let r = behind_reached a y b (all_reached a y lt j) in and_from (on y) _ r.0 r.1)
      (λ j. let r = and_parts (on y) (joined (places count) closed a (at y)) j in
      let inside : at y < count = hang.inside y b less r.0 in
      j_step all (closed ++ spokes) within_all a (at y) y (omega (arith, lt, le)) (omega (arith, inside, le)) (more_joined a (at y) lt r.1)
      (near_second closed spokes (at y) y (hang.there y b less r.0)))

  -- a node that hangs is joined to its place
  pub hangs_joined : (y : ℕ) → count ≤ y → y < all → on y ≡ true → joined (places all) (closed ++ spokes) y (at y) ≡ true
  hangs_joined y b less h = j_near all (closed ++ spokes) within_all y (at y) less (near_second closed spokes y (at y) (neighbours_back spokes (at y) y (hang.there y b less h)))

  alone_spoke : (y c : ℕ) → count ≤ y → on y ≡ false → HangsAt count all at on y c ⊎ HangsAt count all at on c y → ⊥
  alone_spoke y c b off (inl h) =
      let inside : at c < count = hang.inside c h.behind h.below h.hangs in
      let e : y ≡ at c = h.here in
      absurd (omega (arith, e, inside, b))
  alone_spoke y c b off (inr h) = both_ways (on y) off h.hangs

  alone_near : (y c : ℕ) → count ≤ y → on y ≡ false → In c (neighbours (closed ++ spokes) y) → ⊥
  alone_near y c b off i = elim (near_parts closed spokes y c i) [
    | inl h ↦ (let p = near_places y c h in let q : y < count = p.0 in absurd (omega (arith, q, b)))
    | inr h ↦ alone_spoke y c b off (hang.across y c h)
  ]

  -- one that hangs at no place is joined to itself alone
  pub alone_joined : (y b : ℕ) → count ≤ y → on y ≡ false → joined (places all) (closed ++ spokes) y b ≡ eqb y b
  alone_joined y b behind off = same_test _ _
      (λ j. j_along all (closed ++ spokes) within_all (eqb y)
      (λ x c e i. let same : y ≡ x = eqb-true y x e in
      let P : ℕ → Type 0 = λ z. In c (neighbours (closed ++ spokes) z) in
      absurd (alone_near y c behind off (subst P (sym same) i)))
      y b (eq-eqb y y refl) j)
      (λ e. let same : y ≡ b = eqb-true y b e in
      let P : ℕ → Type 0 = λ z. joined (places all) (closed ++ spokes) y z ≡ true in
      subst P same (j_refl all (closed ++ spokes) within_all y))
