-- The walk down the least costs, step by step.
use Rattle.std.proofs.Common.{◌≡◌, refl, sym, ap, subst, ℕ, ◌<◌, ◌≤◌, Bool, List, [], ◌∷◌, ◌++◌, length, inl, inr, arith, append_assoc}
use Rattle.std.specs.Prelude.{Some, None}
use Rattle.std.proofs.lemmas.Bool.{cases_eq}
use Rattle.grid_queue.specs.declared.net.Next.{Next}
use Rattle.grid_paths.specs.Search.{far, cost_at, AreLeastCosts, IsBest, Walks}
use Rattle.grid_paths.specs.Routes.{PathEdge, EndsBelow}
use Rattle.grid_paths.proofs.RouteCosts.{Leads_back, Leads_below, Leads_weight, weight_positive}

-- from a node onward there is a walk, once there is one from the best step's end
walk_more : (edges : List PathEdge) (goals : List Bool) (found : List ℕ) (u : ℕ) (s : Next) → IsBest edges found u (Some s)
    → (rest : List ℕ) → Walks edges goals found s.node rest → Walks edges goals found u (s.edge ∷ rest)
unfolding Walks
walk_more edges goals found u s (weight, leads, tight, least) rest w = (s.node, weight, leads, tight, least, w)

-- where no step costs just what was found, there is a goal
pub walk_ends : (edges : List PathEdge) (goals : List Bool) (found : List ℕ) (limit u : ℕ) → u < length found → EndsBelow edges (length found)
    → AreLeastCosts edges goals found limit → cost_at found u < far → cost_at found u ≤ limit → IsBest edges found u None → Walks edges goals found u []
unfolding Walks
walk_ends edges goals found limit u lt ends least small low best = elim (cases_eq (cost_at found u) 0) [
  | inl z ↦ least.ground u ltg z
  | inr ne ↦ absurd (
      let h = least.reached u ltg small ne in
      let costs = h.costs in
      let fit = Leads_below edges (length found) u h.place h.node h.weight ends h.step in
      let w = Leads_weight edges u h.place h.node h.weight h.step in
      let pos = weight_positive edges h.place in
      let long = least.long in
      let back = least.settled h.node (omega (arith, fit, long)) (omega (arith, costs, small)) (omega (arith, costs, w, pos, low)) h.place u h.weight (Leads_back edges u h.place h.node h.weight h.step) in
      best h.place h.node h.weight h.step (omega (arith, costs, back))
      )
]
  where
    ltg : u < length goals
    ltg = let l = least.long in omega (arith, lt, l)

-- so far
abbrev pub IsWalked : List PathEdge → List Bool → List ℕ → ℕ → List ℕ → ℕ → Type 0
IsWalked edges goals found from path u = (cost_at found u ≤ cost_at found from) × ((rest : List ℕ) → Walks edges goals found u rest → Walks edges goals found from (path ++ rest))

pub walked_more : (edges : List PathEdge) (goals : List Bool) (found : List ℕ) (from u : ℕ) (path : List ℕ) (s : Next) → IsBest edges found u (Some s)
    → IsWalked edges goals found from path u → IsWalked edges goals found from (path ++ s.edge ∷ []) s.node
walked_more edges goals found from u path s best w = (
  (let (weight, leads, tight, least) = best in let low = w.0 in omega (arith, tight, low)),
  λ rest k.
      let P : List ℕ → Type 0 = λ z. Walks edges goals found from z in
      subst P (sym (append_assoc path (s.edge ∷ []) rest)) (w.1 (s.edge ∷ rest) (walk_more edges goals found u s best rest k)),
)

append_none : (xs : List ℕ) → xs ++ [] ≡ xs
append_none [] = refl
append_none (x ∷ xs) = ap (λ z. x ∷ z) (append_none xs)

pub walked_all : (edges : List PathEdge) (goals : List Bool) (found : List ℕ) (from u : ℕ) (path : List ℕ) → Walks edges goals found u [] → IsWalked edges goals found from path u → Walks edges goals found from path
walked_all edges goals found from u path k w = let P : List ℕ → Type 0 = λ z. Walks edges goals found from z in subst P (append_none path) (w.1 [] k)
