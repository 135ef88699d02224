-- The edges at a node, as they are gone through.
use Rattle.std.proofs.Common.{◌≡◌, refl, sym, ap, ◌∙◌, subst, ℕ, zero, suc, ◌+◌, ◌<◌, ◌≤◌, true, false, List, [], ◌∷◌, length, inl, inr, arith, get_or}
use Rattle.std.specs.Prelude.{Option, Some, None, slice_get}
use Rattle.std.proofs.lemmas.Bool.{cases_eq, cases_lt}
use Rattle.std.proofs.lemmas.Option.{slice_get-get_or}
use Rattle.grid_queue.specs.declared.net.Next.{Next}
use Rattle.grid_queue.specs.Net.{next_to}
use Rattle.grid_paths.specs.declared.Way.{Way}
use Rattle.grid_paths.specs.declared.Way.TheVariants.{Free, Closable, Barred}
use Rattle.grid_paths.specs.Paths.{across}
use Rattle.grid_paths.specs.Routes.{PathEdge, ends_of, all_ends, EndsBelow}
use Rattle.grid_paths.specs.Search.{weight_of_lem, Leads, IsNext, AreNexts, weight_of_edge, step_weight, cost_at, IsTight, IsBest}
use Rattle.grid_paths.proofs.Least.{some_same, some_none}
use Rattle.grid_paths.proofs.RouteCosts.{across_below, edge_at, edge_ends}

pub some_within : {X : Type 0} (xs : List X) (i : ℕ) (x : X) → slice_get xs i ≡ Some x → i < length xs
some_within [] i x e = absurd (some_none x e)
some_within (y ∷ ys) zero x e = omega arith
some_within (y ∷ ys) (suc i) x e = let h = some_within ys i x e in omega (arith, h)

-- ---- an edge at a node is a step

pub Leads_step : (edges : List PathEdge) (u place v weight : ℕ) → Leads edges u place v weight → step_weight edges place ≡ Some weight
unfolding step_weight weight_of_edge
Leads_step edges u place v weight l = ap weight_of_edge l.at ∙ l.weighs

pub Leads_next : (edges : List PathEdge) (u place v weight : ℕ) → Leads edges u place v weight → IsNext (all_ends edges) u (next_to place v)
Leads_next edges u place v weight l = record { pair = ends_of l.edge; at = edge_ends edges place l.edge l.at; over = l.over }

weighed_by : (o : Option PathEdge) (weight : ℕ) → weight_of_edge o ≡ Some weight → (edge : PathEdge) × (o ≡ Some edge) × (weight_of_lem edge.way ≡ Some weight)
unfolding weight_of_edge
weighed_by None weight e = absurd (some_none weight e)
weighed_by (Some edge) weight e = (edge, refl, e)

weighed : (edges : List PathEdge) (place weight : ℕ) → step_weight edges place ≡ Some weight → (edge : PathEdge) × (slice_get edges place ≡ Some edge) × (weight_of_lem edge.way ≡ Some weight)
unfolding step_weight
weighed edges place weight e = weighed_by (slice_get edges place) weight e

pub next_leads : (edges : List PathEdge) (u weight : ℕ) (next : Next) → IsNext (all_ends edges) u next → step_weight edges next.edge ≡ Some weight → Leads edges u next.edge next.node weight
next_leads edges u weight next n e =
    let (edge, at, weighs) = weighed edges next.edge weight e in
    let same : n.pair ≡ ends_of edge = some_same n.pair (ends_of edge) (sym n.at ∙ edge_ends edges next.edge edge at) in
    record { edge = edge; at = at; over = ap (across u) (sym same) ∙ n.over; weighs = weighs }

pub next_within : (edges : List PathEdge) (u : ℕ) (next : Next) → IsNext (all_ends edges) u next → next.edge < length edges
next_within edges u next n = let (edge, at, same) = edge_at edges next.edge n.pair n.at in some_within edges next.edge edge at

pub next_below : (edges : List PathEdge) (count u : ℕ) (next : Next) → EndsBelow edges count → IsNext (all_ends edges) u next → next.node < count
next_below edges count u next ends n =
    let (edge, at, same) = edge_at edges next.edge n.pair n.at in
    across_below edges count u next.edge next.node edge ends at (ap (across u) same ∙ n.over)

way_positive : (way : Way) (w : ℕ) → weight_of_lem way ≡ Some w → 1 ≤ w
way_positive Free w e = let h = some_same 1 w e in omega (arith, h)
way_positive Closable w e = let h = some_same 4294967297 w e in omega (arith, h)
way_positive Barred w e = absurd (some_none w e)

-- a step weighs one at least
pub step_positive : (edges : List PathEdge) (place weight : ℕ) → step_weight edges place ≡ Some weight → 1 ≤ weight
step_positive edges place weight e = let (edge, at, weighs) = weighed edges place weight e in way_positive edge.way weight weighs

-- ---- the item at a place of the list

abbrev pub next_in : List Next → ℕ → Next
next_in nexts k = get_or nexts k (next_to 0 0)

pub next_at : (nexts : List Next) (k : ℕ) → k < length nexts → slice_get nexts k ≡ Some (next_in nexts k)
next_at nexts k lt = slice_get-get_or nexts k (next_to 0 0) lt

pub next_on : (edges : List PathEdge) (u : ℕ) (nexts : List Next) (k : ℕ) → AreNexts (all_ends edges) u nexts → k < length nexts → IsNext (all_ends edges) u (next_in nexts k)
next_on edges u nexts k are lt = are.each k (next_in nexts k) (next_at nexts k lt)

-- ---- the best step

-- none of the first steps costs just this much
abbrev pub NoneTight : List PathEdge → List Next → ℕ → List ℕ → ℕ → Type 0
NoneTight edges nexts k found here = (i : ℕ) (next : Next) → i < k → slice_get nexts i ≡ Some next → IsTight edges found here next → ⊥

pub loose_more : (edges : List PathEdge) (nexts : List Next) (k : ℕ) (next : Next) (found : List ℕ) (here : ℕ) → slice_get nexts k ≡ Some next → (IsTight edges found here next → ⊥)
    → NoneTight edges nexts k found here → NoneTight edges nexts (k + 1) found here
loose_more edges nexts k next found here at loose h i other lt at' = elim (cases_eq i k) [
  | inl same ↦ (
      let n : next ≡ other = some_same next other (sym at ∙ ap (slice_get nexts) (sym same) ∙ at') in
      let P : Next → Type 0 = λ z. IsTight edges found here z → ⊥ in
      subst P n loose
      )
  | inr ne ↦ h i other (omega (arith, ne, lt)) at'
]

pub best_none : (edges : List PathEdge) (nexts : List Next) (k u : ℕ) (found : List ℕ) → AreNexts (all_ends edges) u nexts → length nexts ≤ k
    → NoneTight edges nexts k found (cost_at found u) → IsBest edges found u None
best_none edges nexts k u found are long none place v weight l tight =
    let (i, at) = are.all place v (Leads_next edges u place v weight l) in
    let below = some_within nexts i (next_to place v) at in
    none i (next_to place v) (omega (arith, below, long)) at (weight, Leads_step edges u place v weight l, tight)

pub best_here : (edges : List PathEdge) (nexts : List Next) (k u : ℕ) (next : Next) (found : List ℕ) → AreNexts (all_ends edges) u nexts → slice_get nexts k ≡ Some next
    → NoneTight edges nexts k found (cost_at found u) → IsTight edges found (cost_at found u) next → IsBest edges found u (Some next)
best_here edges nexts k u next found are at none (weight, weighs, tight) = (
  weight,
  next_leads edges u weight next (are.each k next at) weighs,
  tight,
  λ place v w l same. (
      let (i, at') = are.all place v (Leads_next edges u place v w l) in
      elim (cases_lt i k) [
        | inl lt ↦ absurd (none i (next_to place v) lt at' (w, Leads_step edges u place v w l, same))
        | inr le ↦ are.rising k i next (next_to place v) le at at'
      ]
      ),
)
