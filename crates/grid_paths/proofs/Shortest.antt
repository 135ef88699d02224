-- The walk down the least costs, by the least places, is the least of all routes.
use Rattle.std.proofs.Common.{◌≡◌, refl, sym, ◌∙◌, subst, ℕ, ◌<◌, ◌≤◌, Bool, true, false, not, List, [], ◌∷◌, length, inl, inr, arith, ◌⊎◌}
use Rattle.std.specs.Prelude.{Some, eqb, slice_get, IsTrue}
use Rattle.std.specs.List.{list_any, list_all}
use Rattle.std.specs.Ordering.{nat_cmp, is_lt}
use Rattle.std.specs.Cmp.Lexicographic.{slice_cmp}
use Rattle.std.proofs.lemmas.Bool.{false≢true, cases_lt, and_from, eqb-true, or_cases}
use Rattle.grid_lemmas.proofs.Bools.{not_if, not_true}
use Rattle.grid_paths.specs.Paths.{has_node, all_differ, across, visited, differ_if_some, is_path, last_in, last_node}
use Rattle.grid_paths.specs.Routes.{PathEdge, ends_of, all_ends, passes, is_goal, is_route, IsLeastRoute, EndsBelow}
use Rattle.grid_paths.specs.Search.{far, Leads, cost_at, AreLeastCosts, Walks}
use Rattle.grid_paths.proofs.RouteCosts.{Leads_back, Leads_same, Leads_weight, Leads_passes, Leads_below, weight_positive, cost, cost_most, not_better, greater, tied, Runs, routed, edge_ends}

-- ---- no run costs less, if it costs no more than the limit

run_costs : (edges : List PathEdge) (goals : List Bool) (found : List ℕ) (limit : ℕ) → AreLeastCosts edges goals found limit → EndsBelow edges (length goals)
    → (path : List ℕ) (u : ℕ) → u < length goals → Runs edges goals u path → cost edges path < far → cost edges path ≤ limit → cost_at found u ≤ cost edges path
unfolding Runs cost
run_costs edges goals found limit least ends [] u lt run small low = let z = least.goal u lt run in omega (arith, z)
run_costs edges goals found limit least ends (place ∷ rest) u lt (v, weight, leads, run) small low =
    let w = Leads_weight edges u place v weight leads in
    let pos = weight_positive edges place in
    let below = Leads_below edges (length goals) u place v weight ends leads in
    let onward = run_costs edges goals found limit least ends rest v below run (omega (arith, small)) (omega (arith, low)) in
    let step = least.settled v below (omega (arith, onward, small)) (omega (arith, onward, pos, low)) place u weight (Leads_back edges u place v weight leads) in
    omega (arith, w, onward, step)

-- the limit is what was found at the start: no run from there costs less
start_costs : (edges : List PathEdge) (goals : List Bool) (found : List ℕ) (from : ℕ) → AreLeastCosts edges goals found (cost_at found from) → EndsBelow edges (length goals)
    → from < length goals → (path : List ℕ) → Runs edges goals from path → cost edges path < far → cost_at found from ≤ cost edges path
start_costs edges goals found from least ends lt path run small = elim (cases_lt (cost_at found from) (cost edges path)) [
  | inl h ↦ omega (arith, h)
  | inr h ↦ run_costs edges goals found (cost_at found from) least ends path from lt run small h
]

-- ---- the walk costs what was found, and is a route

walk_costs : (edges : List PathEdge) (goals : List Bool) (found : List ℕ) (limit : ℕ) → AreLeastCosts edges goals found limit → EndsBelow edges (length goals)
    → (path : List ℕ) (u : ℕ) → u < length goals → Walks edges goals found u path → cost edges path ≡ cost_at found u
unfolding Walks cost
walk_costs edges goals found limit least ends [] u lt walk = sym (least.goal u lt walk)
walk_costs edges goals found limit least ends (place ∷ rest) u lt (v, weight, leads, same, first, walk) =
    let w = Leads_weight edges u place v weight leads in
    let below = Leads_below edges (length goals) u place v weight ends leads in
    let onward = walk_costs edges goals found limit least ends rest v below walk in
    omega (arith, w, onward, same)

-- where a walk goes
pub record Walked (edges : List PathEdge) (goals : List Bool) (found : List ℕ) (u : ℕ) (path : List ℕ) : Type 0 where
  pub nodes : List ℕ
  pub visits : visited (all_ends edges) u path ≡ Some (u ∷ nodes)
  pub goal : is_goal goals (last_in u nodes) ≡ true
  pub passing : list_all (passes edges) path ≡ true
  pub falls : (m : ℕ) → has_node nodes m ≡ true → cost_at found m < cost_at found u
  pub differ : all_differ (u ∷ nodes) ≡ true

not_has : (t : Bool) → (t ≡ true → ⊥) → not t ≡ true
not_has true h = absurd (h refl)
not_has false h = refl

alone : (u : ℕ) → all_differ (u ∷ []) ≡ true
unfolding all_differ has_node
alone u = refl

no_node : (m : ℕ) → has_node [] m ≡ true → ⊥
unfolding has_node
no_node m h = absurd (false≢true h)

pub visits_on : (ends : List (ℕ × ℕ)) (u place v : ℕ) (rest nodes : List ℕ) (pair : ℕ × ℕ) → slice_get ends place ≡ Some pair → across u pair ≡ Some v
    → visited ends v rest ≡ Some nodes → visited ends u (place ∷ rest) ≡ Some (u ∷ nodes)
unfolding visited
visits_on ends u place v rest nodes pair e f g = rw e (rw f (rw g refl))

falls_on : (found : List ℕ) (u v : ℕ) (nodes : List ℕ) → cost_at found v < cost_at found u → ((m : ℕ) → has_node nodes m ≡ true → cost_at found m < cost_at found v)
    → (m : ℕ) → has_node (v ∷ nodes) m ≡ true → cost_at found m < cost_at found u
unfolding has_node
falls_on found u v nodes lt falls m h = elim (or_cases (eqb m v) (list_any (eqb m) nodes) h) [
  | inl e ↦ (let same = eqb-true m v e in let P : ℕ → Type 0 = λ z. cost_at found z < cost_at found u in subst P (sym same) lt)
  | inr e ↦ (let f = falls m e in omega (arith, f, lt))
]

differ_on : (u : ℕ) (nodes : List ℕ) → (has_node nodes u ≡ true → ⊥) → all_differ nodes ≡ true → all_differ (u ∷ nodes) ≡ true
unfolding all_differ
differ_on u nodes h d = and_from (not (has_node nodes u)) (all_differ nodes) (not_has (has_node nodes u) h) d

walked : (edges : List PathEdge) (goals : List Bool) (found : List ℕ) (path : List ℕ) (u : ℕ) → Walks edges goals found u path → Walked edges goals found u path
unfolding Walks visited last_in
walked edges goals found [] u walk = record { nodes = []; visits = refl; goal = walk; passing = refl; falls = λ m h. absurd (no_node m h); differ = alone u }
walked edges goals found (place ∷ rest) u (v, weight, leads, same, first, walk) =
    let r = walked edges goals found rest v walk in
    let w = Leads_weight edges u place v weight leads in
    let p = weight_positive edges place in
    let lt : cost_at found v < cost_at found u = omega (arith, w, p, same) in
    let falls = falls_on found u v r.nodes lt r.falls in
    record {
      nodes = v ∷ r.nodes;
      visits = visits_on (all_ends edges) u place v rest (v ∷ r.nodes) (ends_of leads.edge) (edge_ends edges place leads.edge leads.at) leads.over r.visits;
      goal = r.goal;
      passing = and_from (passes edges place) (list_all (passes edges) rest) (Leads_passes edges u place v weight leads) r.passing;
      falls = falls;
      differ = differ_on u (v ∷ r.nodes) (λ h. let f = falls u h in absurd (omega (arith, f))) r.differ;
    }

walk_is_route : (edges : List PathEdge) (goals : List Bool) (found : List ℕ) (path : List ℕ) (u : ℕ) → Walks edges goals found u path → is_route edges goals u path ≡ true
unfolding is_route is_path last_node differ_if_some last_in
walk_is_route edges goals found path u walk =
    let w = walked edges goals found path u walk in
    rw (w.visits, w.differ, w.goal, w.passing) refl

-- ---- of the runs that cost as much, the walk has the least list

tie_on : (p q : ℕ) (ps qs : List ℕ) → (p < q) ⊎ ((p ≡ q) × (is_lt (slice_cmp nat_cmp qs ps) ≡ false)) → is_lt (slice_cmp nat_cmp (q ∷ qs) (p ∷ ps)) ≡ false
tie_on p q ps qs (inl h) = rw (greater q p h) refl
tie_on p q ps qs (inr (e, h)) = rw (tied q p (sym e)) h

walk_least : (edges : List PathEdge) (goals : List Bool) (found : List ℕ) (limit : ℕ) → AreLeastCosts edges goals found limit → EndsBelow edges (length goals)
    → (path other : List ℕ) (u : ℕ) → u < length goals → Walks edges goals found u path → Runs edges goals u other → cost edges other ≡ cost_at found u → cost edges other < far → cost edges other ≤ limit
    → is_lt (slice_cmp nat_cmp other path) ≡ false
unfolding Walks Runs cost
walk_least edges goals found limit least ends [] [] u lt walk run same small low = refl
walk_least edges goals found limit least ends [] (q ∷ qs) u lt walk run same small low = refl
walk_least edges goals found limit least ends (p ∷ ps) [] u lt (v, weight, leads, e, first, walk) run same small low =
    let w = Leads_weight edges u p v weight leads in
    let pos = weight_positive edges p in
    absurd (omega (arith, w, pos, e, same))
walk_least edges goals found limit least ends (p ∷ ps) (q ∷ qs) u lt (v, weight, leads, e, first, walk) (v', weight', leads', run) same small low =
    let w' = Leads_weight edges u q v' weight' leads' in
    let pos' = weight_positive edges q in
    let below' = Leads_below edges (length goals) u q v' weight' ends leads' in
    let onward = run_costs edges goals found limit least ends qs v' below' run (omega (arith, small)) (omega (arith, low)) in
    let step = least.settled v' below' (omega (arith, onward, small)) (omega (arith, onward, pos', low)) q u weight' (Leads_back edges u q v' weight' leads') in
    let tight : cost edges qs ≡ cost_at found v' = omega (arith, w', onward, step, same) in
    let le = first q v' weight' leads' (omega (arith, w', tight, same)) in
    tie_on p q ps qs (elim (cases_lt p q) [
      | inl h ↦ inl h
      | inr h ↦ (
          let g : p ≡ q = omega (arith, h, le) in
          let P : ℕ → Type 0 = λ z. Leads edges u z v' weight' in
          let one : v' ≡ v = sym (Leads_same edges u p v v' weight weight' leads (subst P (sym g) leads')) in
          let Q : ℕ → Type 0 = λ z. (z < length goals) × Runs edges goals z qs × (cost edges qs ≡ cost_at found z) in
          let all = subst Q one (below', run, tight) in
          inr (g, walk_least edges goals found limit least ends ps qs v all.0 walk all.1 all.2 (omega (arith, small)) (omega (arith, low)))
          )
    ])

-- ---- the theorem

pub walk_is_least : (edges : List PathEdge) (goals : List Bool) (found : List ℕ) (from : ℕ) → AreLeastCosts edges goals found (cost_at found from) → EndsBelow edges (length goals)
    → length goals < 4294967296 → from < length goals → (path : List ℕ) → Walks edges goals found from path → IsLeastRoute edges goals from path
walk_is_least edges goals found from least ends many lt path walk =
    let whole = walk_is_route edges goals found path from walk in
    let mine = routed edges goals from path ends lt whole in
    let same = walk_costs edges goals found (cost_at found from) least ends path from lt walk in
    record {
      route = whole;
      least = λ other h.
          let r = routed edges goals from other ends lt h in
          let short = r.short in
          let most = cost_most edges other in
          let small : cost edges other < far = omega (arith, short, most, many) in
          let le = start_costs edges goals found from least ends lt other r.run small in
          not_true _ (not_better edges path other (let s = mine.short in omega (arith, s, many)) (omega (arith, short, many)) (omega (arith, le, same))
          (λ e. walk_least edges goals found (cost_at found from) least ends path other from lt walk r.run (sym e ∙ same) small (omega (arith, e, same))));
    }

pub none_from_far : (edges : List PathEdge) (goals : List Bool) (found : List ℕ) (from : ℕ) → AreLeastCosts edges goals found (cost_at found from) → EndsBelow edges (length goals)
    → length goals < 4294967296 → from < length goals → far ≤ cost_at found from → (path : List ℕ) → IsTrue (not (is_route edges goals from path))
none_from_far edges goals found from least ends many lt high path = not_if _ (λ h.
    let r = routed edges goals from path ends lt h in
    let short = r.short in
    let most = cost_most edges path in
    let small : cost edges path < far = omega (arith, short, most, many) in
    let le = start_costs edges goals found from least ends lt path r.run small in
    absurd (omega (arith, le, small, high)))
