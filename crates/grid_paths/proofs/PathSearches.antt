-- What the search keeps as it goes on.
use Rattle.std.proofs.Common.{◌≡◌, ◌≢◌, refl, sym, ap, ◌∙◌, subst, ℕ, zero, suc, ◌+◌, ◌<◌, ◌≤◌, Bool, true, false, List, [], ◌∷◌, length, inl, inr, arith, ◌⊎◌, get_or, set, length-set, get_or-set_same, get_or-set_other}
use Rattle.std.specs.Prelude.{slice_get, slice_set, sum, Option, Some}
use Rattle.std.specs.List.Sorted.{IsPermutation}
use Rattle.std.proofs.lemmas.List.Sorted.{Contains-permutation, IsPermutation-sym, length_permutation}
use Rattle.std.proofs.lemmas.List.Sums.{sum_by-set}
use Rattle.std.proofs.lemmas.Grind.{get_or_default_zero}
use Rattle.std.specs.List.{Contains}
use Rattle.std.proofs.lemmas.Bool.{cases_eq, cases_Bool, both_ways}
use Rattle.grid_queue.specs.declared.net.Next.{Next}
use Rattle.grid_queue.specs.Net.{next_to}
use Rattle.grid_paths.specs.Routes.{PathEdge, all_ends, is_goal}
use Rattle.grid_paths.specs.Search.{far, Leads, cost_at, IsReached, IsSettled, AreLeastCosts, IsSearched, AreInside, IsStarted, potential, Takes, Spreads, Visits, IsNext, AreNexts, step_weight}
use Rattle.grid_paths.proofs.RouteCosts.{Leads_back, Leads_weight, weight_positive}
use Rattle.grid_paths.proofs.Least.{some_same}
use Rattle.grid_paths.proofs.Nexts.{some_within, Leads_step, Leads_next, next_leads}

-- ---- a cost that is lowered

module _ (found : List ℕ) (v cost : ℕ) (below : v < length found) (less : cost < cost_at found v) where
  now_here : cost_at (set found v cost) v ≡ cost
  now_here = get_or-set_same found v cost 0 below

  now_other : (u : ℕ) → u ≢ v → cost_at (set found v cost) u ≡ cost_at found u
  now_other u ne = get_or-set_other found v u cost 0 ne

  now_less : (u : ℕ) → cost_at (set found v cost) u ≤ cost_at found u
  now_less u = elim (cases_eq u v) [
    | inl e ↦ (let P : ℕ → Type 0 = λ z. cost_at (set found v cost) z ≤ cost_at found z in subst P (sym e) (omega (arith, now_here, less)))
    | inr ne ↦ (let e = now_other u ne in omega (arith, e))
  ]

-- a settled node stays so while its own cost stays
settled_still : (edges : List PathEdge) (found found' : List ℕ) (u : ℕ) → cost_at found' u ≡ cost_at found u → ((v : ℕ) → cost_at found' v ≤ cost_at found v) → IsSettled edges found u → IsSettled edges found' u
settled_still edges found found' u e less h place v weight l = let a = h place v weight l in let b = less v in omega (arith, a, b, e)

reached_still : (edges : List PathEdge) (found found' : List ℕ) (u : ℕ) → cost_at found' u ≡ cost_at found u → ((v : ℕ) → cost_at found' v ≤ cost_at found v) → IsReached edges found u → IsReached edges found' u
reached_still edges found found' u e less h =
    let b = less h.node in
    let c = h.costs in
    record { place = h.place; node = h.node; weight = h.weight; step = h.step; costs = omega (arith, b, c, e) }

pub lowered : (edges : List PathEdge) (goals : List Bool) (from : ℕ) (found : List ℕ) (front front' : List (ℕ × ℕ)) (x place v weight : ℕ)
    → x < length goals → v < length goals → Leads edges x place v weight → weight + cost_at found x < cost_at found v
    → ((e : ℕ × ℕ) → Contains front e → Contains front' e) → Contains front' (weight + cost_at found x, v)
    → IsSearched edges goals from found front x → IsSearched edges goals from (set found v (weight + cost_at found x)) front' x
lowered edges goals from found front front' x place v weight xlt vlt l less kept new s = record {
  long = length-set found v cost ∙ s.long;
  goal = goal;
  ground = ground;
  reached = reached;
  faced = faced;
}
  where
    cost : ℕ
    cost = weight + cost_at found x

    below : v < length found
    below = let e = s.long in omega (arith, e, vlt)

    here : cost_at (set found v cost) v ≡ cost
    here = now_here found v cost below less

    other : (u : ℕ) → u ≢ v → cost_at (set found v cost) u ≡ cost_at found u
    other = now_other found v cost below less

    smaller : (u : ℕ) → cost_at (set found v cost) u ≤ cost_at found u
    smaller = now_less found v cost below less

    apart : x ≢ v
    apart e = let P : ℕ → Type 0 = λ z. weight + cost_at found x < cost_at found z in let h = subst P (sym e) less in absurd (omega (arith, h))

    goal : (u : ℕ) → u < length goals → is_goal goals u ≡ true → cost_at (set found v cost) u ≡ 0
    goal u lt g = let z = s.goal u lt g in let le = smaller u in omega (arith, z, le)

    ground : (u : ℕ) → u < length goals → cost_at (set found v cost) u ≡ 0 → is_goal goals u ≡ true
    ground u lt z = elim (cases_eq u v) [
      | inl e ↦ (
          let P : ℕ → Type 0 = λ y. cost_at (set found v cost) y ≡ 0 in
          let z' = subst P e z in
          let w = Leads_weight edges x place v weight l in
          let p = weight_positive edges place in
          absurd (omega (arith, here, z', w, p))
          )
      | inr ne ↦ s.ground u lt (sym (other u ne) ∙ z)
    ]

    reached : (u : ℕ) → u < length goals → cost_at (set found v cost) u < far → cost_at (set found v cost) u ≢ 0 → IsReached edges (set found v cost) u
    reached u lt small nonzero = elim (cases_eq u v) [
      | inl e ↦ (
          let P : ℕ → Type 0 = λ y. IsReached edges (set found v cost) y in
          let same = other x apart in
          subst P (sym e) (record { place = place; node = x; weight = weight; step = Leads_back edges x place v weight l; costs = omega (arith, same, here) })
          )
      | inr ne ↦ (
          let same = other u ne in
          reached_still edges found (set found v cost) u same smaller (s.reached u lt (omega (arith, same, small)) (λ z. nonzero (same ∙ z)))
          )
    ]

    faced : (u : ℕ) → u < length goals → cost_at (set found v cost) u < far → cost_at (set found v cost) u < cost_at (set found v cost) from → u ≢ x → Contains front' (cost_at (set found v cost) u, u) ⊎ IsSettled edges (set found v cost) u
    faced u lt small low but = elim (cases_eq u v) [
      | inl e ↦ inl (
          let P : ℕ → Type 0 = λ y. Contains front' (cost_at (set found v cost) y, y) in
          let Q : ℕ → Type 0 = λ y. Contains front' (y, v) in
          subst P (sym e) (subst Q (sym here) new)
          )
      | inr ne ↦ (
          let same = other u ne in
          let less = smaller from in
          elim (s.faced u lt (omega (arith, same, small)) (omega (arith, same, low, less)) but) [
            | inl h ↦ inl (let Q : ℕ → Type 0 = λ y. Contains front' (y, u) in subst Q (sym same) (kept (cost_at found u, u) h))
            | inr h ↦ inr (settled_still edges found (set found v cost) u same smaller h)
          ]
          )
    ]

-- ---- a node's edges are gone through

-- the first steps cost no less than what was found at their ends
abbrev pub SettlesTo : List PathEdge → List Next → ℕ → List ℕ → ℕ → Type 0
SettlesTo edges nexts k found cost = (i : ℕ) (next : Next) (weight : ℕ) → i < k → slice_get nexts i ≡ Some next → step_weight edges next.edge ≡ Some weight → cost_at found next.node ≤ weight + cost

settles_none : (edges : List PathEdge) (nexts : List Next) (found : List ℕ) (cost : ℕ) → SettlesTo edges nexts 0 found cost
settles_none edges nexts found cost i next weight lt at e = absurd (omega (arith, lt))

settles_more : (edges : List PathEdge) (nexts : List Next) (k : ℕ) (next : Next) (found : List ℕ) (cost : ℕ) → slice_get nexts k ≡ Some next
    → ((weight : ℕ) → step_weight edges next.edge ≡ Some weight → cost_at found next.node ≤ weight + cost) → SettlesTo edges nexts k found cost → SettlesTo edges nexts (k + 1) found cost
settles_more edges nexts k next found cost at low h i other weight lt at' e = elim (cases_eq i k) [
  | inl same ↦ (
      let n : next ≡ other = some_same next other (sym at ∙ ap (slice_get nexts) (sym same) ∙ at') in
      let P : Next → Type 0 = λ z. step_weight edges z.edge ≡ Some weight → cost_at found z.node ≤ weight + cost in
      subst P n (low weight) e
      )
  | inr ne ↦ h i other weight (omega (arith, ne, lt)) at' e
]

settles_still : (edges : List PathEdge) (nexts : List Next) (k : ℕ) (found found' : List ℕ) (cost : ℕ) → ((v : ℕ) → cost_at found' v ≤ cost_at found v) → SettlesTo edges nexts k found cost → SettlesTo edges nexts k found' cost
settles_still edges nexts k found found' cost less h i next weight lt at e = let a = h i next weight lt at e in let b = less next.node in omega (arith, a, b)

-- what was found after the first steps from x
pub record IsSpread (edges : List PathEdge) (goals : List Bool) (from : ℕ) (x cost : ℕ) (nexts : List Next) (k : ℕ) (found : List ℕ) (front : List (ℕ × ℕ)) : Type 0 where
  pub searched : IsSearched edges goals from found front x
  pub same : cost_at found x ≡ cost
  pub done : SettlesTo edges nexts k found cost

spread_kept : (edges : List PathEdge) (goals : List Bool) (from : ℕ) (x cost : ℕ) (nexts : List Next) (k : ℕ) (next : Next) (found : List ℕ) (front : List (ℕ × ℕ)) → slice_get nexts k ≡ Some next
    → ((weight : ℕ) → step_weight edges next.edge ≡ Some weight → cost_at found next.node ≤ weight + cost) → IsSpread edges goals from x cost nexts k found front → IsSpread edges goals from x cost nexts (k + 1) found front
spread_kept edges goals from x cost nexts k next found front at low h = record { searched = h.searched; same = h.same; done = settles_more edges nexts k next found cost at low h.done }

spread_lowered : (edges : List PathEdge) (goals : List Bool) (from : ℕ) (x cost : ℕ) (nexts : List Next) (k : ℕ) (next : Next) (weight : ℕ) (found : List ℕ) (front front' : List (ℕ × ℕ))
    → x < length goals → next.node < length goals → slice_get nexts k ≡ Some next → IsNext (all_ends edges) x next → step_weight edges next.edge ≡ Some weight → weight + cost < cost_at found next.node
    → ((e : ℕ × ℕ) → Contains front e → Contains front' e) → Contains front' (weight + cost, next.node)
    → IsSpread edges goals from x cost nexts k found front → IsSpread edges goals from x cost nexts (k + 1) (set found next.node (weight + cost)) front'
spread_lowered edges goals from x cost nexts k next weight found front front' xlt vlt at on weighs less kept new h =
    let P : ℕ → Type 0 = λ c. IsSearched edges goals from (set found next.node (weight + c)) front' x in
    let Q : ℕ → Type 0 = λ c. weight + c < cost_at found next.node in
    let R : ℕ → Type 0 = λ c. Contains front' (weight + c, next.node) in
    let e = now_here found next.node (weight + cost) below less in
    record {
      searched = subst P h.same (lowered edges goals from found front front' x next.edge next.node weight xlt vlt (next_leads edges x weight next on weighs) (subst Q (sym h.same) less) kept (subst R (sym h.same) new) h.searched);
      same = now_other found next.node (weight + cost) below less x apart ∙ h.same;
      done = settles_more edges nexts k next (set found next.node (weight + cost)) cost at (λ w g. (let same = some_same weight w (sym weighs ∙ g) in omega (arith, e, same)))
          (settles_still edges nexts k found _ cost (now_less found next.node (weight + cost) below less) h.done);
    }
  where
    below : next.node < length found
    below = let e = h.searched.long in omega (arith, e, vlt)

    apart : x ≢ next.node
    apart e =
        let S : ℕ → Type 0 = λ z. cost_at found z ≡ cost in
        let k = subst S e h.same in
        absurd (omega (arith, k, less))

-- when all are done, the node is settled
spread_all : (edges : List PathEdge) (goals : List Bool) (from : ℕ) (x cost : ℕ) (nexts : List Next) (k : ℕ) (found : List ℕ) (front : List (ℕ × ℕ)) → AreNexts (all_ends edges) x nexts → length nexts ≤ k
    → IsSpread edges goals from x cost nexts k found front → IsSearched edges goals from found front (length goals)
spread_all edges goals from x cost nexts k found front are long h = record {
  long = h.searched.long;
  goal = h.searched.goal;
  ground = h.searched.ground;
  reached = h.searched.reached;
  faced = λ u lt small low but. elim (cases_eq u x) [
    | inl e ↦ inr (λ place v weight l.
        let P : ℕ → Type 0 = λ z. Leads edges z place v weight in
        let on = subst P e l in
        let (i, at) = are.all place v (Leads_next edges x place v weight on) in
        let below = some_within nexts i (next_to place v) at in
        let d = h.done i (next_to place v) weight (omega (arith, below, long)) at (Leads_step edges x place v weight on) in
        let S : ℕ → Type 0 = λ z. cost_at found z ≡ cost in
        let same = subst S (sym e) h.same in
        omega (arith, d, same))
    | inr ne ↦ h.searched.faced u lt small low ne
  ];
}

-- ---- a node leaves the front

same_entry : (c d u x : ℕ) → ◌≡◌ {A = ℕ × ℕ} (c, u) (d, x) → (c ≡ d) × (u ≡ x)
same_entry c d u x e = (ap (λ (z : ℕ × ℕ). z.0) e, ap (λ (z : ℕ × ℕ). z.1) e)

-- at the cost that was found: its row is to be gone through
pub popped : (edges : List PathEdge) (goals : List Bool) (from : ℕ) (found : List ℕ) (front front' : List (ℕ × ℕ)) (cost x : ℕ)
    → ((e : ℕ × ℕ) → Contains front e → (e ≡ (cost, x)) ⊎ Contains front' e)
    → IsSearched edges goals from found front (length goals) → IsSearched edges goals from found front' x
popped edges goals from found front front' cost x rest s = record {
  long = s.long;
  goal = s.goal;
  ground = s.ground;
  reached = s.reached;
  faced = λ u lt small low but. elim (s.faced u lt small low (λ e. absurd (omega (arith, e, lt)))) [
    | inl h ↦ elim (rest (cost_at found u, u) h) [
      | inl e ↦ absurd (but (same_entry (cost_at found u) cost u x e).1)
      | inr g ↦ inl g
    ]
    | inr h ↦ inr h
  ];
}

-- none waits
pub searched_all : (edges : List PathEdge) (goals : List Bool) (from : ℕ) (found : List ℕ) (front : List (ℕ × ℕ)) → front ≡ []
    → IsSearched edges goals from found front (length goals) → AreLeastCosts edges goals found (cost_at found from)
searched_all edges goals from found front none s = record {
  long = s.long;
  goal = s.goal;
  ground = s.ground;
  reached = s.reached;
  settled = λ u lt small low. elim (s.faced u lt small low (λ e. absurd (omega (arith, e, lt)))) [
    | inl (k, within, _) ↦ (let e = ap length none in absurd (omega (arith, within, e)))
    | inr h ↦ h
  ];
}

-- ---- the start

pub started : (edges : List PathEdge) (goals : List Bool) (from : ℕ) (found : List ℕ) (front : List (ℕ × ℕ)) → IsStarted goals (length goals) found front → IsSearched edges goals from found front (length goals)
started edges goals from found front s = record {
  long = s.long;
  goal = λ u lt g. (s.goal u lt g).0;
  ground = λ u lt z. elim (cases_Bool (is_goal goals u)) [ inl e ↦ e | inr e ↦ (let f = s.other u lt (inl e) in absurd (omega (arith, z, f))) ];
  reached = λ u lt small nonzero. elim (cases_Bool (is_goal goals u)) [ inl e ↦ absurd (nonzero (s.goal u lt e).0) | inr e ↦ (let f = s.other u lt (inl e) in absurd (omega (arith, small, f))) ];
  faced = λ u lt small low but. elim (cases_Bool (is_goal goals u)) [
    | inl e ↦ inl (let g = s.goal u lt e in let P : ℕ → Type 0 = λ z. Contains front (z, u) in subst P (sym g.0) g.1)
    | inr e ↦ (let f = s.other u lt (inl e) in absurd (omega (arith, small, f)))
  ];
}

Contains_there : {X : Type 0} (x y : X) (xs : List X) → Contains xs y → Contains (x ∷ xs) y
Contains_there x y xs (k, lt, e) = (suc k, omega (arith, lt), e)

Contains_here : {X : Type 0} (x : X) (xs : List X) → Contains (x ∷ xs) x
Contains_here x xs = (0, omega arith, refl)

Contains_parts : {X : Type 0} (x y : X) (xs : List X) → Contains (x ∷ xs) y → (y ≡ x) ⊎ Contains xs y
Contains_parts x y xs (zero, lt, e) = inl (sym e)
Contains_parts x y xs (suc k, lt, e) = inr (k, omega (arith, lt), e)

pub moved_has : {X : Type 0} (x y : X) (xs ys : List X) → IsPermutation (x ∷ xs) ys → Contains xs y → Contains ys y
moved_has x y xs ys p c = Contains-permutation (x ∷ xs) ys y p (Contains_there x y xs c)

pub moved_new : {X : Type 0} (x : X) (xs ys : List X) → IsPermutation (x ∷ xs) ys → Contains ys x
moved_new x xs ys p = Contains-permutation (x ∷ xs) ys x p (Contains_here x xs)

pub moved_from : {X : Type 0} (x y : X) (xs ys : List X) → IsPermutation (x ∷ xs) ys → Contains ys y → (y ≡ x) ⊎ Contains xs y
moved_from x y xs ys p c = Contains_parts x y xs (Contains-permutation ys (x ∷ xs) y (IsPermutation-sym (x ∷ xs) ys p) c)

pub moved_in : {X : Type 0} (x y : X) (xs ys : List X) → IsPermutation xs (x ∷ ys) → Contains ys y → Contains xs y
moved_in x y xs ys p c = Contains-permutation (x ∷ ys) xs y (IsPermutation-sym xs (x ∷ ys) p) (Contains_there x y ys c)

pub moved_out_new : {X : Type 0} (x : X) (xs ys : List X) → IsPermutation xs (x ∷ ys) → Contains xs x
moved_out_new x xs ys p = Contains-permutation (x ∷ ys) xs x (IsPermutation-sym xs (x ∷ ys) p) (Contains_here x ys)

-- ---- the start, node by node

pub begin_goal : (goals : List Bool) (k : ℕ) (found : List ℕ) (front front' : List (ℕ × ℕ)) → k < length found → is_goal goals k ≡ true → IsPermutation ((0, k) ∷ front) front'
    → IsStarted goals k found front → IsStarted goals (k + 1) (set found k 0) front'
begin_goal goals k found front front' below g p s = record {
  long = length-set found k 0 ∙ s.long;
  inside = λ e c. elim (moved_from (0, k) e front front' p c) [
    | inl h ↦ (let P : ℕ × ℕ → Type 0 = λ z. z.1 < k + 1 in subst P (sym h) (omega arith))
    | inr h ↦ (let i = s.inside e h in omega (arith, i))
  ];
  goal = λ u lt h. elim (cases_eq u k) [
    | inl e ↦ (
        let P : ℕ → Type 0 = λ z. (cost_at (set found k 0) z ≡ 0) × Contains front' (0, z) in
        subst P (sym e) (get_or-set_same found k 0 0 below, moved_new (0, k) front front' p)
        )
    | inr ne ↦ (
        let old = s.goal u (omega (arith, ne, lt)) h in
        (get_or-set_other found k u 0 0 ne ∙ old.0, moved_has (0, k) (0, u) front front' p old.1)
        )
  ];
  other = λ u lt h. elim (cases_eq u k) [
    | inl e ↦ elim h [
      | inl other ↦ (let P : ℕ → Type 0 = λ z. is_goal goals z ≡ false in absurd (both_ways _ (subst P e other) g))
      | inr beyond ↦ absurd (omega (arith, e, beyond))
    ]
    | inr ne ↦ get_or-set_other found k u 0 0 ne ∙ s.other u lt (elim h [ inl other ↦ inl other | inr beyond ↦ inr (omega (arith, beyond)) ])
  ];
}

pub begin_other : (goals : List Bool) (k : ℕ) (found : List ℕ) (front : List (ℕ × ℕ)) → is_goal goals k ≡ false
    → IsStarted goals k found front → IsStarted goals (k + 1) found front
begin_other goals k found front g s = record {
  long = s.long;
  inside = λ e c. (let i = s.inside e c in omega (arith, i));
  goal = λ u lt h. elim (cases_eq u k) [
    | inl e ↦ (let P : ℕ → Type 0 = λ z. is_goal goals z ≡ true in absurd (both_ways _ g (subst P e h)))
    | inr ne ↦ s.goal u (omega (arith, ne, lt)) h
  ];
  other = λ u lt h. s.other u lt (elim h [ inl other ↦ inl other | inr beyond ↦ inr (omega (arith, beyond)) ]);
}

-- ---- a node's edges, one by one

pub found_here : (found : List ℕ) (u r : ℕ) → u < length found → r ≡ get_or found u r → cost_at found u ≡ r
found_here found u r lt e = sym (get_or_default_zero found u r lt) ∙ sym e

pub takes_lowered : (w to cost : ℕ) (found : List ℕ) (front front' : List (ℕ × ℕ)) → to < length found → w + cost < cost_at found to → IsPermutation ((w + cost, to) ∷ front) front'
    → Takes (Some w) to cost found front (slice_set found to (w + cost)) front'
takes_lowered w to cost found front front' lt less p =
    let longer = length_permutation ((w + cost, to) ∷ front) front' p in
    let total : sum (set found to (w + cost)) + cost_at found to ≡ sum found + (w + cost) = sum_by-set (λ n. n) found to (w + cost) 0 lt in
    record { cases = inr (w, refl, less, refl, p); falls = omega (arith, longer, total, less) }

pub takes_none : (weight : Option ℕ) (to cost seen : ℕ) (found : List ℕ) (front : List (ℕ × ℕ)) → to < length found → seen ≡ get_or found to seen → ((w : ℕ) → weight ≡ Some w → seen ≤ w + cost)
    → Takes weight to cost found front found front
takes_none weight to cost seen found front lt at low =
    let here = found_here found to seen lt at in
    record { cases = inl (λ w e. (let l = low w e in omega (arith, here, l)), refl, refl); falls = omega arith }

pub record SpreadsTo (edges : List PathEdge) (x cost : ℕ) (nexts : List Next) (k : ℕ) (found : List ℕ) (front : List (ℕ × ℕ)) (found' : List ℕ) (front' : List (ℕ × ℕ)) : Type 0 where
  pub long : length found' ≡ length found
  pub inside : AreInside front (length found) → AreInside front' (length found)
  pub falls : potential found' front' ≤ potential found front
  pub spread : (goals : List Bool) (from : ℕ) → x < length goals → cost_at found x ≡ cost → IsSearched edges goals from found front x → IsSpread edges goals from x cost nexts k found' front'

pub spreads_none : (edges : List PathEdge) (x cost : ℕ) (nexts : List Next) (found : List ℕ) (front : List (ℕ × ℕ)) → SpreadsTo edges x cost nexts 0 found front found front
spreads_none edges x cost nexts found front = record {
  long = refl;
  inside = λ i. i;
  falls = omega arith;
  spread = λ goals from lt e s. record { searched = s; same = e; done = settles_none edges nexts found cost };
}

pub spreads_more : (edges : List PathEdge) (x cost : ℕ) (nexts : List Next) (k : ℕ) (next : Next) (found : List ℕ) (front : List (ℕ × ℕ)) (found' : List ℕ) (front' : List (ℕ × ℕ))
    (found'' : List ℕ) (front'' : List (ℕ × ℕ)) → slice_get nexts k ≡ Some next → IsNext (all_ends edges) x next → next.node < length found' → Takes (step_weight edges next.edge) next.node cost found' front' found'' front''
    → SpreadsTo edges x cost nexts k found front found' front' → SpreadsTo edges x cost nexts (k + 1) found front found'' front''
spreads_more edges x cost nexts k next found front found' front' found'' front'' at on below t h = record {
  long = long t.cases ∙ h.long;
  inside = λ i. inside t.cases (h.inside i);
  falls = (let a = t.falls in let b = h.falls in omega (arith, a, b));
  spread = λ goals from lt e s. spread t.cases goals from lt (h.spread goals from lt e s);
}
  where
    Cases : Type 0
    Cases = (((w : ℕ) → step_weight edges next.edge ≡ Some w → cost_at found' next.node ≤ w + cost) × (found'' ≡ found') × (front'' ≡ front'))
        ⊎ ((w : ℕ) × (step_weight edges next.edge ≡ Some w) × (w + cost < cost_at found' next.node) × (found'' ≡ slice_set found' next.node (w + cost)) × IsPermutation ((w + cost, next.node) ∷ front') front'')

    long : Cases → length found'' ≡ length found'
    long (inl c) = ap length c.1
    long (inr (w, weighs, less, e, p)) = ap length e ∙ length-set found' next.node (w + cost)

    inside : Cases → AreInside front' (length found) → AreInside front'' (length found)
    inside (inl c) i = subst (λ z. AreInside z (length found)) (sym c.2) i
    inside (inr (w, weighs, less, e, p)) i = λ y c. elim (moved_from (w + cost, next.node) y front' front'' p c) [
      | inl g ↦ (let P : ℕ × ℕ → Type 0 = λ z. z.1 < length found in let l = h.long in subst P (sym g) (omega (arith, l, below)))
      | inr g ↦ i y g
    ]

    spread : Cases → (goals : List Bool) (from : ℕ) → x < length goals → IsSpread edges goals from x cost nexts k found' front' → IsSpread edges goals from x cost nexts (k + 1) found'' front''
    spread (inl c) goals from lt s =
        let P : List ℕ → Type 0 = λ z. IsSpread edges goals from x cost nexts (k + 1) z front'' in
        let Q : List (ℕ × ℕ) → Type 0 = λ z. IsSpread edges goals from x cost nexts (k + 1) found' z in
        subst P (sym c.1) (subst Q (sym c.2) (spread_kept edges goals from x cost nexts k next found' front' at c.0 s))
    spread (inr (w, weighs, less, e, p)) goals from lt s =
        let P : List ℕ → Type 0 = λ z. IsSpread edges goals from x cost nexts (k + 1) z front'' in
        let l = s.searched.long in
        subst P (sym e) (spread_lowered edges goals from x cost nexts k next w found' front' front'' lt (omega (arith, l, below)) at on weighs less
        (λ y g. moved_has (w + cost, next.node) y front' front'' p g) (moved_new (w + cost, next.node) front' front'' p) s)

pub spreads_all : (edges : List PathEdge) (x cost : ℕ) (nexts : List Next) (k : ℕ) (found : List ℕ) (front : List (ℕ × ℕ)) (found' : List ℕ) (front' : List (ℕ × ℕ)) → AreNexts (all_ends edges) x nexts
    → length nexts ≤ k → SpreadsTo edges x cost nexts k found front found' front' → Spreads edges x cost found front found' front'
spreads_all edges x cost nexts k found front found' front' are long h = record {
  long = h.long;
  inside = h.inside;
  falls = h.falls;
  settles = λ goals from lt same s. spread_all edges goals from x cost nexts k found' front' are long (h.spread goals from lt same s);
}

-- ---- a node is visited

pub visits_edges : (edges : List PathEdge) (from cost x : ℕ) (found : List ℕ) (front : List (ℕ × ℕ)) (found' : List ℕ) (front' : List (ℕ × ℕ))
    → x < length found → cost_at found x ≡ cost → Spreads edges x cost found front found' front' → Visits edges from cost x found front found' front'
visits_edges edges from cost x found front found' front' lt same h = record {
  long = h.long;
  inside = h.inside;
  falls = h.falls;
  keeps = λ goals s. (
      let l = s.long in
      h.settles goals from (omega (arith, lt, l)) same (popped edges goals from found ((cost, x) ∷ front) front cost x (λ e c. Contains_parts (cost, x) e front c) s)
      );
}

-- the front in another order
pub reordered : (edges : List PathEdge) (goals : List Bool) (from : ℕ) (found : List ℕ) (front front' : List (ℕ × ℕ)) (but : ℕ) → IsPermutation front front'
    → IsSearched edges goals from found front but → IsSearched edges goals from found front' but
reordered edges goals from found front front' but p s = record {
  long = s.long;
  goal = s.goal;
  ground = s.ground;
  reached = s.reached;
  faced = λ u lt small low ne. elim (s.faced u lt small low ne) [
    | inl h ↦ inl (Contains-permutation front front' (cost_at found u, u) p h)
    | inr h ↦ inr h
  ];
}
