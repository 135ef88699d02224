-- Routes as recursive facts, their costs, and their lengths.
use Rattle.std.proofs.Common.{◌≡◌, refl, sym, ap, ◌∙◌, subst, ℕ, zero, suc, ◌+◌, ◌*◌, ◌<◌, ◌≤◌, Bool, true, false, cond, ◌&&◌, List, [], ◌∷◌, length, inl, inr, arith, ◌⊎◌}
use Rattle.std.specs.Prelude.{Option, Some, None, eqb, slice_get, map, count_by, unwrap_or}
use Rattle.std.specs.List.{list_any, list_all, range_with_len}
use Rattle.std.specs.Option.{option_map}
use Rattle.std.specs.declared.cmp.Ordering.{Ordering}
use Rattle.std.specs.declared.cmp.Ordering.TheVariants.{Equal, Greater}
use Rattle.std.specs.Ordering.{nat_cmp, is_lt, ordering_then}
use Rattle.std.specs.Cmp.Lexicographic.{slice_cmp}
use Rattle.std.specs.Set.{is_member}
use Rattle.std.proofs.lemmas.Bool.{false≢true, cases_eq, cases_order, and_parts, eqb-true, eq-eqb, ne_eqb, or_cases, le-ltb}
use Rattle.std.proofs.lemmas.List.Sums.{sum_by-cons}
use Rattle.std.proofs.lemmas.List.FromFn.{length-range_with_len}
use Rattle.std.proofs.lemmas.Map.Made.{length-le_from_is_member}
use Rattle.std.proofs.lemmas.Option.{slice_get-map}
use Rattle.grid_graph.proofs.Reach.{eqb_laws}
use Rattle.grid_paths.specs.declared.Way.{Way}
use Rattle.grid_paths.specs.declared.Way.TheVariants.{Free, Closable, Barred}
use Rattle.grid_paths.specs.Paths.{all_differ, across, visited, differ_if_some, is_path, last_in, last_node, measure_cmp, is_better}
use Rattle.grid_paths.specs.Routes.{PathEdge, ends_of, all_ends, is_closable, is_open_way, costs_on, costs, passes_on, passes, is_goal, is_route, EndsBelow}
use Rattle.grid_paths.specs.Search.{weight_of_lem, Leads}
use Rattle.grid_paths.proofs.Least.{Member, first_edge, begins, some_same, some_none, visited_ends, any_has, distinct, length_visited, IsEnd}

-- ---- steps

across_by : (a v x y : ℕ) (s t : Bool) → eqb x a ≡ s → eqb y a ≡ t → cond s (Some y) (cond t (Some x) None) ≡ Some v → ((x ≡ a) × (y ≡ v)) ⊎ ((y ≡ a) × (x ≡ v))
across_by a v x y true t e f g = inl (eqb-true x a e, some_same y v g)
across_by a v x y false true e f g = inr (eqb-true y a f, some_same x v g)
across_by a v x y false false e f g = absurd (some_none v g)

pub across_ends : (a v : ℕ) (pair : ℕ × ℕ) → across a pair ≡ Some v → ((pair.0 ≡ a) × (pair.1 ≡ v)) ⊎ ((pair.1 ≡ a) × (pair.0 ≡ v))
unfolding across
across_ends a v pair e = across_by a v pair.0 pair.1 _ _ refl refl e

pub across_first : (a v : ℕ) (pair : ℕ × ℕ) → pair.0 ≡ a → pair.1 ≡ v → across a pair ≡ Some v
unfolding across
across_first a v pair e f = rw (eq-eqb pair.0 a e) (ap Some f)

across_second_by : (a v x y : ℕ) (s : Bool) → eqb x a ≡ s → y ≡ a → x ≡ v → cond s (Some y) (Some x) ≡ Some v
across_second_by a v x y true e f g = let h : x ≡ a = eqb-true x a e in ap Some (f ∙ sym h ∙ g)
across_second_by a v x y false e f g = ap Some g

pub across_second : (a v : ℕ) (pair : ℕ × ℕ) → pair.1 ≡ a → pair.0 ≡ v → across a pair ≡ Some v
unfolding across
across_second a v pair e f = rw (eq-eqb pair.1 a e) (across_second_by a v pair.0 pair.1 _ refl e f)

pub across_back : (a v : ℕ) (pair : ℕ × ℕ) → across a pair ≡ Some v → across v pair ≡ Some a
across_back a v pair e = elim (across_ends a v pair e) [ inl h ↦ across_second v a pair h.1 h.0 | inr h ↦ across_first v a pair h.1 h.0 ]

pub Leads_back : (edges : List PathEdge) (u place v weight : ℕ) → Leads edges u place v weight → Leads edges v place u weight
Leads_back edges u place v weight l = record { edge = l.edge; at = l.at; over = across_back u v (ends_of l.edge) l.over; weighs = l.weighs }

pub Leads_same : (edges : List PathEdge) (u place v v' weight weight' : ℕ) → Leads edges u place v weight → Leads edges u place v' weight' → v ≡ v'
Leads_same edges u place v v' weight weight' l k =
    let e : l.edge ≡ k.edge = some_same l.edge k.edge (sym l.at ∙ k.at) in
    some_same v v' (sym l.over ∙ ap (λ z. across u (ends_of z)) e ∙ k.over)

-- ---- weights

pub weight_at : List PathEdge → ℕ → ℕ
weight_at edges place = cond (costs edges place) 4294967297 1

way_weight : (way : Way) (w : ℕ) → weight_of_lem way ≡ Some w → w ≡ cond (is_closable way) 4294967297 1
way_weight Free w e = sym (some_same 1 w e)
way_weight Closable w e = sym (some_same 4294967297 w e)
way_weight Barred w e = absurd (some_none w e)

weight_open : (way : Way) → is_open_way way ≡ true → weight_of_lem way ≡ Some (cond (is_closable way) 4294967297 1)
weight_open Free e = refl
weight_open Closable e = refl
weight_open Barred e = absurd (false≢true e)

open_weight : (way : Way) (w : ℕ) → weight_of_lem way ≡ Some w → is_open_way way ≡ true
open_weight Free w e = refl
open_weight Closable w e = refl
open_weight Barred w e = absurd (some_none w e)

costs_here : (edges : List PathEdge) (place : ℕ) (edge : PathEdge) → slice_get edges place ≡ Some edge → costs edges place ≡ is_closable edge.way
unfolding costs costs_on
costs_here edges place edge e = ap costs_on e

passes_here : (edges : List PathEdge) (place : ℕ) (edge : PathEdge) → slice_get edges place ≡ Some edge → passes edges place ≡ is_open_way edge.way
unfolding passes passes_on
passes_here edges place edge e = ap passes_on e

pub Leads_weight : (edges : List PathEdge) (u place v weight : ℕ) → Leads edges u place v weight → weight ≡ weight_at edges place
unfolding weight_at
Leads_weight edges u place v weight l = way_weight l.edge.way weight l.weighs ∙ ap (λ t. cond t 4294967297 1) (sym (costs_here edges place l.edge l.at))

pub Leads_passes : (edges : List PathEdge) (u place v weight : ℕ) → Leads edges u place v weight → passes edges place ≡ true
Leads_passes edges u place v weight l = passes_here edges place l.edge l.at ∙ open_weight l.edge.way weight l.weighs

positive : (t : Bool) → 1 ≤ cond t 4294967297 1
positive true = omega arith
positive false = omega arith

pub weight_positive : (edges : List PathEdge) (place : ℕ) → 1 ≤ weight_at edges place
unfolding weight_at
weight_positive edges place = positive (costs edges place)

most : (t : Bool) → cond t 4294967297 1 ≤ 4294967297
most true = omega arith
most false = omega arith

pub weight_most : (edges : List PathEdge) (place : ℕ) → weight_at edges place ≤ 4294967297
unfolding weight_at
weight_most edges place = most (costs edges place)

unfoldable pub cost : List PathEdge → List ℕ → ℕ
cost edges [] = 0
cost edges (place ∷ rest) = weight_at edges place + cost edges rest

split_by : (t : Bool) (c n : ℕ) → cond t 4294967297 1 + (4294967296 * c + n) ≡ 4294967296 * (cond t 1 0 + c) + suc n
split_by true c n = omega arith
split_by false c n = omega arith

-- the cost is the count of closings and the count of edges in one
pub cost_split : (edges : List PathEdge) (path : List ℕ) → cost edges path ≡ 4294967296 * count_by (costs edges) path + length path
unfolding cost weight_at
cost_split edges [] = refl
cost_split edges (place ∷ rest) =
    ap (λ n. weight_at edges place + n) (cost_split edges rest)
    ∙ split_by (costs edges place) (count_by (costs edges) rest) (length rest)
    ∙ ap (λ n. 4294967296 * n + suc (length rest)) (sym (sum_by-cons (λ p. cond (costs edges p) 1 0) place rest))

pub cost_most : (edges : List PathEdge) (path : List ℕ) → cost edges path ≤ 4294967297 * length path
unfolding cost
cost_most edges [] = omega arith
cost_most edges (place ∷ rest) = omega (arith, weight_most edges place, cost_most edges rest)

-- ---- the measure by the cost

pub greater : (x y : ℕ) → y < x → nat_cmp x y ≡ Greater
greater x y h = rw (le-ltb x y (omega arith), ne_eqb x y (λ e. absurd (omega arith))) refl

pub tied : (x y : ℕ) → x ≡ y → nat_cmp x y ≡ Equal
tied x y h = rw (le-ltb x y (omega arith), eq-eqb x y h) refl

after : (a b c d : ℕ) (o : Ordering) → (a < c) ⊎ ((a ≡ c) × ((b < d) ⊎ ((b ≡ d) × (is_lt o ≡ false)))) → is_lt (ordering_then (nat_cmp c a) (ordering_then (nat_cmp d b) o)) ≡ false
after a b c d o (inl h) = rw (greater c a h) refl
after a b c d o (inr (e, inl h)) = rw (tied c a (sym e), greater d b h) refl
after a b c d o (inr (e, inr (f, g))) = rw (tied c a (sym e), tied d b (sym f)) g

by_parts : (a b c d : ℕ) (o : Ordering) → b < 4294967296 → d < 4294967296 → 4294967296 * a + b ≤ 4294967296 * c + d
    → (4294967296 * a + b ≡ 4294967296 * c + d → is_lt o ≡ false) → (a < c) ⊎ ((a ≡ c) × ((b < d) ⊎ ((b ≡ d) × (is_lt o ≡ false))))
by_parts a b c d o k l le tie = elim (cases_order a c) [
  | inl e ↦ elim (cases_order b d) [
    | inl f ↦ inr (e, inr (f, tie (omega arith)))
    | inr (inl f) ↦ inr (e, inl f)
    | inr (inr f) ↦ absurd (omega arith)
  ]
  | inr (inl e) ↦ inl e
  | inr (inr e) ↦ absurd (omega arith)
]

pub not_better : (edges : List PathEdge) (path other : List ℕ) → length path < 4294967296 → length other < 4294967296 → cost edges path ≤ cost edges other
    → (cost edges path ≡ cost edges other → is_lt (slice_cmp nat_cmp other path) ≡ false) → is_better (costs edges) other path ≡ false
unfolding is_better measure_cmp
not_better edges path other k l le tie =
    let e = cost_split edges path in
    let f = cost_split edges other in
    after (count_by (costs edges) path) (length path) (count_by (costs edges) other) (length other) (slice_cmp nat_cmp other path)
    (by_parts (count_by (costs edges) path) (length path) (count_by (costs edges) other) (length other) (slice_cmp nat_cmp other path) k l (omega (arith, e, f, le)) (λ g. tie (e ∙ g ∙ sym f)))

-- ---- runs from a node to a goal

unfoldable pub Runs : List PathEdge → List Bool → ℕ → List ℕ → Type 0
Runs edges goals u [] = is_goal goals u ≡ true
Runs edges goals u (place ∷ rest) = (v : ℕ) × (weight : ℕ) × Leads edges u place v weight × Runs edges goals v rest

mapped : (o : Option PathEdge) (pair : ℕ × ℕ) → option_map ends_of o ≡ Some pair → (edge : PathEdge) × (o ≡ Some edge) × (ends_of edge ≡ pair)
mapped None pair e = absurd (some_none pair e)
mapped (Some edge) pair e = (edge, refl, some_same (ends_of edge) pair e)

pub edge_at : (edges : List PathEdge) (place : ℕ) (pair : ℕ × ℕ) → slice_get (all_ends edges) place ≡ Some pair → (edge : PathEdge) × (slice_get edges place ≡ Some edge) × (ends_of edge ≡ pair)
unfolding all_ends
edge_at edges place pair e = mapped (slice_get edges place) pair (sym (slice_get-map ends_of edges place) ∙ e)

run_of : (edges : List PathEdge) (goals : List Bool) (path : List ℕ) (u : ℕ) (nodes : List ℕ) → visited (all_ends edges) u path ≡ Some (u ∷ nodes)
    → is_goal goals (last_in u nodes) ≡ true → list_all (passes edges) path ≡ true → Runs edges goals u path
unfolding Runs visited last_in
run_of edges goals [] u nodes e g p =
    let same : u ∷ [] ≡ u ∷ nodes = some_same (u ∷ []) (u ∷ nodes) e in
    let tail : [] ≡ nodes = cc in
    let P : List ℕ → Type 0 = λ z. is_goal goals (last_in u z) ≡ true in subst P (sym tail) g
run_of edges goals (place ∷ rest) u nodes e g p =
    let f = first_edge (all_ends edges) u place rest (u ∷ nodes) e in
    let b = begins (all_ends edges) f.next rest f.onward f.goes in
    let whole : u ∷ nodes ≡ u ∷ f.next ∷ b.0 = f.all ∙ ap (λ z. u ∷ z) b.1 in
    let tail : nodes ≡ f.next ∷ b.0 = cc in
    let P : List ℕ → Type 0 = λ z. is_goal goals (last_in u z) ≡ true in
    let parts = and_parts (passes edges place) (list_all (passes edges) rest) p in
    let d = edge_at edges place f.pair f.at in (
      f.next,
      cond (is_closable d.0.way) 4294967297 1,
      record {
        edge = d.0;
        at = d.1;
        over = ap (across u) d.2 ∙ f.over;
        weighs = weight_open d.0.way (sym (passes_here edges place d.0 d.1) ∙ parts.0);
      },
      run_of edges goals rest f.next b.0 (f.goes ∙ ap Some b.1) (subst P tail g) parts.1,
    )

-- what is known of a route
pub record Routed (edges : List PathEdge) (goals : List Bool) (from : ℕ) (path : List ℕ) : Type 0 where
  pub run : Runs edges goals from path
  pub short : length path < length goals

-- ---- a route is shorter than the count of nodes

In_range : (q low count : ℕ) → low ≤ q → q < low + count → list_any (eqb q) (range_with_len low count) ≡ true
In_range q low zero h k = absurd (omega arith)
In_range q low (suc n) h k = elim (cases_eq q low) [
  | inl e ↦ rw (eq-eqb q low e) refl
  | inr ne ↦ rw (ne_eqb q low ne) (In_range q (low + 1) n (omega (arith, ne)) (omega arith))
]

Member_below : (edges : List PathEdge) (count : ℕ) (pair : ℕ × ℕ) → EndsBelow edges count → Member pair (map ends_of edges) → (pair.0 < count) × (pair.1 < count)
Member_below [] count pair ends m = absurd m
Member_below (edge ∷ edges) count pair ends (inl e) =
    let P : ℕ × ℕ → Type 0 = λ z. (z.0 < count) × (z.1 < count) in subst P e (ends 0 edge (omega arith))
Member_below (edge ∷ edges) count pair ends (inr m) = Member_below edges count pair (λ k d lt. ends (suc k) d (omega arith)) m

end_below : (edges : List PathEdge) (count c : ℕ) → EndsBelow edges count → IsEnd (all_ends edges) c → c < count
unfolding all_ends
end_below edges count c ends (pair, m, inl e) = let h = Member_below edges count pair ends m in rw e h.0
end_below edges count c ends (pair, m, inr e) = let h = Member_below edges count pair ends m in rw e h.1

edge_below : (edges : List PathEdge) (place : ℕ) (edge : PathEdge) (count : ℕ) → EndsBelow edges count → slice_get edges place ≡ Some edge → (edge.a < count) × (edge.b < count)
edge_below [] place edge count ends e = absurd (some_none edge e)
edge_below (d ∷ ds) zero edge count ends e =
    let P : PathEdge → Type 0 = λ z. (z.a < count) × (z.b < count) in subst P (some_same d edge e) (ends 0 d (omega arith))
edge_below (d ∷ ds) (suc p) edge count ends e = edge_below ds p edge count (λ k x lt. ends (suc k) x (omega arith)) e

pub across_below : (edges : List PathEdge) (count u place v : ℕ) (edge : PathEdge) → EndsBelow edges count → slice_get edges place ≡ Some edge → across u (ends_of edge) ≡ Some v → v < count
across_below edges count u place v edge ends at over = elim (across_ends u v (ends_of edge) over) [
  | inl h ↦ rw (← h.1) (edge_below edges place edge count ends at).1
  | inr h ↦ rw (← h.1) (edge_below edges place edge count ends at).0
]

pub Leads_below : (edges : List PathEdge) (count u place v weight : ℕ) → EndsBelow edges count → Leads edges u place v weight → v < count
Leads_below edges count u place v weight ends l = across_below edges count u place v l.edge ends l.at l.over

few : (edges : List PathEdge) (count from : ℕ) (path nodes : List ℕ) → EndsBelow edges count → from < count
    → visited (all_ends edges) from path ≡ Some (from ∷ nodes) → all_differ (from ∷ nodes) ≡ true → length path < count
few edges count from path nodes ends lt e d =
    let le : length (from ∷ nodes) ≤ length (range_with_len 0 count) = length-le_from_is_member eqb_laws (from ∷ nodes) (range_with_len 0 count) (distinct (from ∷ nodes) d) inside in
    let long : length (range_with_len 0 count) ≡ count = length-range_with_len 0 count in
    let same : length nodes ≡ length path = length_visited (all_ends edges) path from nodes e in
    omega (arith, le, long, same)
  where
    below : (q : ℕ) → list_any (eqb q) (from ∷ nodes) ≡ true → q < count
    below q h = elim (or_cases (eqb q from) (list_any (eqb q) nodes) h) [
      | inl g ↦ (let s = eqb-true q from g in omega (arith, s, lt))
      | inr g ↦ end_below edges count q ends (visited_ends (all_ends edges) path from nodes e q (any_has nodes q g))
    ]

    inside : (q : ℕ) → is_member eqb (from ∷ nodes) q ≡ true → is_member eqb (range_with_len 0 count) q ≡ true
    inside q h = let b = below q h in In_range q 0 count (omega arith) (omega (arith, b))

route_parts : (edges : List PathEdge) (goals : List Bool) (from : ℕ) (path : List ℕ) (o : Option (List ℕ)) → visited (all_ends edges) from path ≡ o
    → differ_if_some o ≡ true → is_goal goals (last_in from (unwrap_or o [])) ≡ true → list_all (passes edges) path ≡ true
    → EndsBelow edges (length goals) → from < length goals → Routed edges goals from path
unfolding differ_if_some last_in
route_parts edges goals from path None e d g p ends lt = absurd (false≢true d)
route_parts edges goals from path (Some seen) e d g p ends lt =
    let b = begins (all_ends edges) from path seen e in
    let P : List ℕ → Type 0 = λ z. all_differ z ≡ true in
    let Q : List ℕ → Type 0 = λ z. is_goal goals (last_in from z) ≡ true in
    let whole : visited (all_ends edges) from path ≡ Some (from ∷ b.0) = e ∙ ap Some b.1 in
    record {
      run = run_of edges goals path from b.0 whole (subst Q b.1 g) p;
      short = few edges (length goals) from path b.0 ends lt whole (subst P b.1 d);
    }

-- a route is a run that is shorter than the count of nodes
pub routed : (edges : List PathEdge) (goals : List Bool) (from : ℕ) (path : List ℕ) → EndsBelow edges (length goals) → from < length goals
    → is_route edges goals from path ≡ true → Routed edges goals from path
unfolding is_route is_path last_node
routed edges goals from path ends lt h =
    let first = is_path (all_ends edges) from path in
    let second = is_goal goals (last_node (all_ends edges) from path) in
    let outer = and_parts (first && second) (list_all (passes edges) path) h in
    let inner = and_parts first second outer.0 in
    route_parts edges goals from path (visited (all_ends edges) from path) refl inner.0 inner.1 outer.1 ends lt

pub edge_ends : (edges : List PathEdge) (place : ℕ) (edge : PathEdge) → slice_get edges place ≡ Some edge → slice_get (all_ends edges) place ≡ Some (ends_of edge)
unfolding all_ends
edge_ends edges place edge e = slice_get-map ends_of edges place ∙ ap (option_map ends_of) e
