-- The least route is the least closable path, and gives the plan.
use Rattle.std.proofs.Common.{◌≡◌, refl, sym, ap, ◌∙◌, subst, ℕ, zero, suc, ◌+◌, ◌<◌, Bool, true, false, cond, not, ◌&&◌, ◌||◌, List, [], ◌∷◌, ◌++◌, inl, inr, ◌⊎◌, arith}
use Rattle.std.specs.Prelude.{Option, Some, None, slice_get, map, filter, IsTrue, count_by}
use Rattle.std.specs.List.{list_all}
use Rattle.std.proofs.lemmas.Bool.{false≢true, both_ways, and_parts, and_from, not-true, lt-ltb}
use Rattle.grid_lemmas.proofs.Counts.{count_cons}
use Rattle.grid_graph.proofs.Reach.{In}
use Rattle.grid_level.specs.declared.Switch.{Switch}
use Rattle.grid_level.specs.declared.Internal.{Internal}
use Rattle.grid_level.specs.VoltageLevel.{VoltageLevel}
use Rattle.grid_level.specs.Passing.{Edge, switch_edge, internal_edge, edges, ends, nodes, is_operable, is_connected, carries_busbar}
use Rattle.grid_paths.specs.declared.Way.TheVariants.{Free, Closable, Barred}
use Rattle.grid_paths.specs.Paths.{visited, is_path, last_node, measure_cmp, is_better, least_path}
use Rattle.grid_paths.specs.Routes.{PathEdge, ends_of, all_ends as route_ends, is_closable as is_closable_way, is_open_way, costs_on, costs, passes_on, passes, is_goal, is_route, IsLeastRoute}
use Rattle.grid_paths.proofs.Least.{Member, LeastOf, least_path_least, some_none, first_edge, begins, IsEnd}
use Rattle.grid_paths.proofs.PathTies.{same_path}
use Rattle.grid_paths.proofs.RenamedPaths.{path_renamed, end_renamed, end_among}
use Rattle.grid_graph.proofs.RenamedNodes.{renamed, EndsIn}
use Rattle.grid_groups.specs.Labels.{index_in}
use Rattle.grid_groups.proofs.Indices.{index_apart, In_among}
use Rattle.grid_connect.specs.Plans.{all_ends, opened_at, is_open, closable_at, may_be_closed, is_closable, closable_paths, plan_along, connect_plan_of}
use Rattle.grid_connect.specs.declared.ConnectPlan.{ConnectPlan}
use Rattle.grid_connect.specs.declared.ConnectPlan.TheVariants.{Close, AlreadyConnected, NoPath}
use Rattle.grid_connect.specs.Indexed.{path_edge, path_edges_of, AreBusbars}
use Rattle.grid_connect.proofs.ConnectPlans.{ends_are_nodes, closable-Member, Member-closable}
use Rattle.grid_connect.proofs.ClearPaths.{all_from, has_In, connected_clear, clear_connected, parts_of}

-- ---- the edges

edge_same : (ns : List ℕ) (e : Edge) → ends_of (path_edge ns e) ≡ (index_in ns (ends e).0, index_in ns (ends e).1)
unfolding path_edge ends
edge_same ns (switch_edge s) = refl
edge_same ns (internal_edge i) = refl

ends_by : (ns : List ℕ) (es : List Edge) → map ends_of (map (path_edge ns) es) ≡ renamed (index_in ns) (map ends es)
ends_by ns [] = refl
ends_by ns (e ∷ es) = ap (λ z. z ∷ map ends_of (map (path_edge ns) es)) (edge_same ns e) ∙ ap (λ z. (index_in ns (ends e).0, index_in ns (ends e).1) ∷ z) (ends_by ns es)

ends_same : (level : VoltageLevel) → route_ends (path_edges_of level) ≡ renamed (index_in (nodes level)) (all_ends level)
unfolding route_ends path_edges_of all_ends
ends_same level = ends_by (nodes level) (edges level)

ends_hold : (ns : List ℕ) (pairs : List (ℕ × ℕ)) → ((n : ℕ) → IsEnd pairs n → In n ns) → EndsIn ns pairs
ends_hold ns [] h = tt
ends_hold ns (p ∷ ps) h = (h p.0 (p, inl refl, inl refl), h p.1 (p, inl refl, inr refl), ends_hold ns ps (λ n e. h n (e.0, inr e.1, e.2)))

ends_in : (level : VoltageLevel) → EndsIn (nodes level) (all_ends level)
ends_in level = ends_hold (nodes level) (all_ends level) (λ n e. has_In (nodes level) n (ends_are_nodes level n e))

abbrev listed : List ℕ → List Switch → List Internal → List PathEdge
listed ns sw ins = map (path_edge ns) (map switch_edge sw ++ map internal_edge ins)

may_by : (o b : Bool) → is_open_way (cond o (cond b Closable Barred) Free) ≡ true → not o || b ≡ true
may_by true true h = refl
may_by true false h = absurd (false≢true h)
may_by false b h = refl

may_back : (o b : Bool) → not o || b ≡ true → is_open_way (cond o (cond b Closable Barred) Free) ≡ true
may_back true true h = refl
may_back true false h = absurd (false≢true h)
may_back false b h = refl

costs_by : (o b : Bool) → is_open_way (cond o (cond b Closable Barred) Free) ≡ true → is_closable_way (cond o (cond b Closable Barred) Free) ≡ o
costs_by true true h = refl
costs_by true false h = absurd (false≢true h)
costs_by false b h = refl

passes_may : (ns : List ℕ) (sw : List Switch) (ins : List Internal) (p : ℕ) → passes_on (slice_get (listed ns sw ins) p) ≡ true → closable_at (slice_get sw p) ≡ true
unfolding passes_on closable_at path_edge
passes_may ns [] ins p h = refl
passes_may ns (s ∷ sw) ins zero h = may_by s.opened (is_operable s) h
passes_may ns (s ∷ sw) ins (suc p) h = passes_may ns sw ins p h

internal_passes : (ns : List ℕ) (ins : List Internal) (p : ℕ) (pair : ℕ × ℕ) → slice_get (map ends (map internal_edge ins)) p ≡ Some pair → passes_on (slice_get (map (path_edge ns) (map internal_edge ins)) p) ≡ true
unfolding passes_on path_edge
internal_passes ns [] p pair e = absurd (some_none pair e)
internal_passes ns (i ∷ ins) zero pair e = refl
internal_passes ns (i ∷ ins) (suc p) pair e = internal_passes ns ins p pair e

may_passes : (ns : List ℕ) (sw : List Switch) (ins : List Internal) (p : ℕ) (pair : ℕ × ℕ) → slice_get (map ends (map switch_edge sw ++ map internal_edge ins)) p ≡ Some pair → closable_at (slice_get sw p) ≡ true → passes_on (slice_get (listed ns sw ins) p) ≡ true
unfolding passes_on closable_at path_edge
may_passes ns [] ins p pair e h = internal_passes ns ins p pair e
may_passes ns (s ∷ sw) ins zero pair e h = may_back s.opened (is_operable s) h
may_passes ns (s ∷ sw) ins (suc p) pair e h = may_passes ns sw ins p pair e h

internal_free : (ns : List ℕ) (ins : List Internal) (p : ℕ) → costs_on (slice_get (map (path_edge ns) (map internal_edge ins)) p) ≡ false
unfolding costs_on path_edge
internal_free ns [] p = refl
internal_free ns (i ∷ ins) zero = refl
internal_free ns (i ∷ ins) (suc p) = internal_free ns ins p

costs_open : (ns : List ℕ) (sw : List Switch) (ins : List Internal) (p : ℕ) → passes_on (slice_get (listed ns sw ins) p) ≡ true → costs_on (slice_get (listed ns sw ins) p) ≡ opened_at (slice_get sw p)
unfolding passes_on costs_on opened_at path_edge
costs_open ns [] ins p h = internal_free ns ins p
costs_open ns (s ∷ sw) ins zero h = costs_by s.opened (is_operable s) h
costs_open ns (s ∷ sw) ins (suc p) h = costs_open ns sw ins p h

-- ---- the paths

may_all : (level : VoltageLevel) (path : List ℕ) → list_all (passes (path_edges_of level)) path ≡ true → list_all (may_be_closed level) path ≡ true
unfolding passes may_be_closed path_edges_of edges
may_all level path h = all_from (passes (path_edges_of level)) (may_be_closed level) (λ p k. passes_may (nodes level) level.switches level.internals p k) path h

passes_all : (level : VoltageLevel) (path : List ℕ) (a : ℕ) (visits : List ℕ) → visited (all_ends level) a path ≡ Some (a ∷ visits) → list_all (may_be_closed level) path ≡ true → list_all (passes (path_edges_of level)) path ≡ true
unfolding passes may_be_closed path_edges_of edges all_ends
passes_all level [] a visits e h = refl
passes_all level (p ∷ rest) a visits e h =
    let f = first_edge (all_ends level) a p rest (a ∷ visits) e in
    let b = begins (all_ends level) f.next rest f.onward f.goes in
    let parts = and_parts (may_be_closed level p) (list_all (may_be_closed level) rest) h in
    and_from (passes (path_edges_of level) p) (list_all (passes (path_edges_of level)) rest) (may_passes (nodes level) level.switches level.internals p f.pair f.at parts.0)
    (passes_all level rest f.next b.0 (f.goes ∙ ap Some b.1) parts.1)

count_same : (level : VoltageLevel) (path : List ℕ) → list_all (passes (path_edges_of level)) path ≡ true → count_by (costs (path_edges_of level)) path ≡ count_by (is_open level) path
unfolding passes costs is_open path_edges_of edges
count_same level [] h = refl
count_same level (p ∷ rest) h =
    let parts = and_parts (passes (path_edges_of level) p) (list_all (passes (path_edges_of level)) rest) h in
    count_cons (costs (path_edges_of level)) p rest
    ∙ ap (λ t. cond t 1 0 + count_by (costs (path_edges_of level)) rest) (costs_open (nodes level) level.switches level.internals p parts.0)
    ∙ ap (λ n. cond (is_open level p) 1 0 + n) (count_same level rest parts.1)
    ∙ sym (count_cons (is_open level) p rest)

-- the path over indices is the path over nodes
index_path : (level : VoltageLevel) (a : ℕ) (path : List ℕ) → In a (nodes level) → is_path (route_ends (path_edges_of level)) (index_in (nodes level) a) path ≡ is_path (all_ends level) a path
index_path level a path i =
    let ns = nodes level in
    ap (λ z. is_path z (index_in ns a) path) (ends_same level) ∙ path_renamed (index_in ns) ns (index_apart ns) (all_ends level) (ends_in level) path a i

index_goal : (level : VoltageLevel) (goals : List Bool) (a : ℕ) (path : List ℕ) → In a (nodes level) → AreBusbars level goals
    → is_goal goals (last_node (route_ends (path_edges_of level)) (index_in (nodes level) a) path) ≡ carries_busbar level (last_node (all_ends level) a path)
index_goal level goals a path i bars =
    let ns = nodes level in
    let e : last_node (route_ends (path_edges_of level)) (index_in ns a) path ≡ index_in ns (last_node (all_ends level) a path) =
    ap (λ z. last_node z (index_in ns a) path) (ends_same level) ∙ end_renamed (index_in ns) ns (index_apart ns) (all_ends level) (ends_in level) path a i in
    ap (is_goal goals) e ∙ bars (last_node (all_ends level) a path) (In_among (last_node (all_ends level) a path) ns (end_among (index_in ns) ns (index_apart ns) (all_ends level) (ends_in level) path a i))

route_closable : (level : VoltageLevel) (goals : List Bool) (a : ℕ) (path : List ℕ) → In a (nodes level) → AreBusbars level goals → is_route (path_edges_of level) goals (index_in (nodes level) a) path ≡ true
    → (is_closable level a path ≡ true) × (list_all (passes (path_edges_of level)) path ≡ true)
unfolding is_route is_closable
route_closable level goals a path i bars h =
    let ends = route_ends (path_edges_of level) in
    let from = index_in (nodes level) a in
    let first = is_path ends from path in
    let second = is_goal goals (last_node ends from path) in
    let outer = and_parts (first && second) (list_all (passes (path_edges_of level)) path) h in
    let inner = and_parts first second outer.0 in
    let one = sym (index_path level a path i) ∙ inner.0 in
    let two = sym (index_goal level goals a path i bars) ∙ inner.1 in
    (rw (one, two, may_all level path outer.1) refl, outer.1)

closable_route : (level : VoltageLevel) (goals : List Bool) (a : ℕ) (path : List ℕ) → In a (nodes level) → AreBusbars level goals → is_closable level a path ≡ true
    → (is_route (path_edges_of level) goals (index_in (nodes level) a) path ≡ true) × (list_all (passes (path_edges_of level)) path ≡ true)
unfolding is_route is_closable
closable_route level goals a path i bars h =
    let ends = all_ends level in
    let first = is_path ends a path in
    let second = carries_busbar level (last_node ends a path) in
    let outer = and_parts (first && second) (list_all (may_be_closed level) path) h in
    let inner = and_parts first second outer.0 in
    let one = index_path level a path i ∙ inner.0 in
    let two = index_goal level goals a path i bars ∙ inner.1 in
    let p = parts_of level a path h in
    let three = passes_all level path a p.visits p.goes p.may in
    (rw (one, two, three) refl, three)

better_same : (level : VoltageLevel) (p q : List ℕ) → list_all (passes (path_edges_of level)) p ≡ true → list_all (passes (path_edges_of level)) q ≡ true
    → is_better (costs (path_edges_of level)) p q ≡ is_better (is_open level) p q
unfolding is_better measure_cmp
better_same level p q h k = rw (count_same level p h, count_same level q k) refl

pub record LeastClosable (level : VoltageLevel) (a : ℕ) (path : List ℕ) : Type 0 where
  pub closable : is_closable level a path ≡ true
  pub least : (other : List ℕ) → is_closable level a other ≡ true → is_better (is_open level) other path ≡ false

pub least_closable : (level : VoltageLevel) (goals : List Bool) (a : ℕ) (path : List ℕ) → In a (nodes level) → AreBusbars level goals
    → IsLeastRoute (path_edges_of level) goals (index_in (nodes level) a) path → LeastClosable level a path
least_closable level goals a path i bars l =
    let mine = route_closable level goals a path i bars l.route in
    record {
      closable = mine.0;
      least = λ other h.
          let o = closable_route level goals a other i bars h in
          sym (better_same level other path o.1 mine.1) ∙ not-true (is_better (costs (path_edges_of level)) other path) (l.least other o.0);
    }

-- ---- the plan

unfoldable pub plan_with : List ℕ → ConnectPlan
plan_with [] = AlreadyConnected
plan_with (p ∷ ps) = Close (p ∷ ps)

filter_none_by : (t : Bool) (x : ℕ) (kept : List ℕ) → cond t (x ∷ kept) kept ≡ [] → (t ≡ false) × (kept ≡ [])
filter_none_by true x kept h = absurd (let k : x ∷ kept ≡ [] = h in cc)
filter_none_by false x kept h = (refl, h)

filter_none : (c : ℕ → Bool) (xs : List ℕ) → filter c xs ≡ [] → count_by c xs ≡ 0
filter_none c [] h = refl
filter_none c (x ∷ xs) h =
    let parts = filter_none_by (c x) x (filter c xs) h in
    count_cons c x xs ∙ ap (λ t. cond t 1 0 + count_by c xs) parts.0 ∙ (let r = filter_none c xs parts.1 in omega (arith, r))

filter_some_by : (c : ℕ → Bool) (x : ℕ) (xs : List ℕ) (t : Bool) → (filter c xs ≡ [] → ⊥) ⊎ (t ≡ true) → ((filter c xs ≡ [] → ⊥) → 0 < count_by c xs) → 0 < cond t 1 0 + count_by c xs
filter_some_by c x xs true h f = omega arith
filter_some_by c x xs false (inl h) f = let k = f h in omega (arith, k)
filter_some_by c x xs false (inr e) f = absurd (false≢true e)

keeps_some : (t : Bool) (x : ℕ) (kept : List ℕ) → (cond t (x ∷ kept) kept ≡ [] → ⊥) → (kept ≡ [] → ⊥) ⊎ (t ≡ true)
keeps_some true x kept h = inr refl
keeps_some false x kept h = inl h

filter_some : (c : ℕ → Bool) (xs : List ℕ) → (filter c xs ≡ [] → ⊥) → 0 < count_by c xs
filter_some c [] h = absurd (h refl)
filter_some c (x ∷ xs) h = let k = filter_some_by c x xs (c x) (keeps_some (c x) x (filter c xs) h) (filter_some c xs) in let e = count_cons c x xs in omega (arith, k, e)

fewer_better : (c : ℕ → Bool) (p q : List ℕ) → count_by c p ≡ 0 → 0 < count_by c q → is_better c p q ≡ true
unfolding is_better measure_cmp
fewer_better c p q z lt = let h : count_by c p < count_by c q = omega (arith, z, lt) in rw (lt-ltb (count_by c p) (count_by c q) h) refl

found_by : (level : VoltageLevel) (a : ℕ) (path : List ℕ) (o : Option (List ℕ)) → LeastClosable level a path → LeastOf (is_open level) (closable_paths level a) o → o ≡ Some path
found_by level a path None l none = absurd (let m = closable-Member level a path l.closable in let P : List (List ℕ) → Type 0 = λ z. Member path z in subst P none m)
found_by level a path (Some q) l least =
    ap Some (same_path (is_open level) q path (l.least q (Member-closable level a q least.0)) (least.1 path (closable-Member level a path l.closable)))

plan_by : (level : VoltageLevel) (a : ℕ) (path opens : List ℕ) (t : Bool) → filter (is_open level) path ≡ opens → is_connected level a ≡ t → In a (nodes level) → LeastClosable level a path
    → cond t AlreadyConnected (plan_along (is_open level) (least_path (is_open level) (closable_paths level a))) ≡ plan_with opens
unfolding plan_along plan_with
plan_by level a path [] true e c i l = refl
plan_by level a path [] false e c i l =
    absurd (both_ways _ c (clear_connected level a i (record { path = path; closable = l.closable; none = filter_none (is_open level) path e })))
plan_by level a path (p ∷ ps) true e c i l =
    let clear = connected_clear level a c in
    let some = filter_some (is_open level) path (λ k. let g : p ∷ ps ≡ [] = sym e ∙ k in cc) in
    absurd (both_ways _ (l.least clear.path clear.closable) (fewer_better (is_open level) clear.path path clear.none some))
plan_by level a path (p ∷ ps) false e c i l =
    rw (found_by level a path _ l (least_path_least (is_open level) (closable_paths level a))) (ap Close e)

pub plan_least : (level : VoltageLevel) (a : ℕ) (path : List ℕ) → In a (nodes level) → LeastClosable level a path → connect_plan_of level a ≡ plan_with (filter (is_open level) path)
unfolding connect_plan_of
plan_least level a path i l = plan_by level a path (filter (is_open level) path) (is_connected level a) refl refl i l

none_by : (level : VoltageLevel) (a : ℕ) (t : Bool) (o : Option (List ℕ)) → is_connected level a ≡ t → ((path : List ℕ) → is_closable level a path ≡ true → ⊥) → LeastOf (is_open level) (closable_paths level a) o
    → cond t AlreadyConnected (plan_along (is_open level) o) ≡ NoPath
unfolding plan_along
none_by level a true o c none least = absurd (let clear = connected_clear level a c in none clear.path clear.closable)
none_by level a false None c none least = refl
none_by level a false (Some q) c none least = absurd (none q (Member-closable level a q least.0))

pub plan_none : (level : VoltageLevel) (goals : List Bool) (a : ℕ) → In a (nodes level) → AreBusbars level goals
    → ((path : List ℕ) → IsTrue (not (is_route (path_edges_of level) goals (index_in (nodes level) a) path))) → connect_plan_of level a ≡ NoPath
unfolding connect_plan_of
plan_none level goals a i bars none =
    none_by level a (is_connected level a) _ refl
    (λ path h. both_ways _ (not-true (is_route (path_edges_of level) goals (index_in (nodes level) a) path) (none path)) (closable_route level goals a path i bars h).0)
    (least_path_least (is_open level) (closable_paths level a))
