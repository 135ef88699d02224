-- A level that keeps its limits has room for its own parts, added one after the other.
use Rattle.std.proofs.Common.{◌≡◌, refl, ap, ◌∙◌, subst, ℕ, pos, ◌<◌, ◌≤◌, Bool, true, false, cond, ◌&&◌, ◌||◌, List, [], ◌∷◌, ◌++◌, length, arith, None, append_assoc}
use Rattle.std.specs.Prelude.{map, filter, find, nat_lt, nat_le, ◌==◌, Ok}
use Rattle.std.specs.List.{list_all}
use Rattle.std.proofs.lemmas.Bool.{and_parts, and_from, ltb-true, le-ltb, lt-leb, eq-eqb, ne_eqb, not-true}
use Rattle.std.proofs.lemmas.List.{append-nil, map-append, length-append}
use Rattle.std.proofs.lemmas.List.Elements.{filter-append}
use Rattle.grid_level.specs.declared.Placed.{Placed}
use Rattle.grid_level.specs.declared.Switch.{Switch}
use Rattle.grid_level.specs.declared.Internal.{Internal}
use Rattle.grid_level.specs.VoltageLevel.{VoltageLevel}
use Rattle.grid_level.specs.Passing.{Edge, switch_edge, internal_edge, edges, ends, named, nodes, with_node, rising, is_rising, placed_at, stands_at}
use Rattle.grid_level.specs.LevelEdits.{max_node, max_nodes, max_edges, node_of, edge_fits, refuse_taken, terminal_fits, with_placed, level_with_switch, level_with_internal, level_with_terminal}
use Rattle.grid_level.specs.Sound.{ends_differ}
use Rattle.grid_level.specs.Kept.{IsWithin}
use Rattle.grid_level.proofs.EditUses.{switch_nodes, internal_nodes, placed_nodes, named_is, length-edges, grown_nodes}
use Rattle.grid_level.proofs.LevelEdits.{all_parts, with_switch, with_internal, named_switch, named_internal, named_is_left, with_switches, with_internals, switch_cut_within, cut_within, fewer_placed_within}
use Rattle.grid_level.proofs.PlacedTerminals.{rising_placed}

-- ---- an edge

edge_done : (level : VoltageLevel) (a b : ℕ) → nat_le a max_node ≡ true → nat_le b max_node ≡ true → (a == b) ≡ false → length (edges level) < max_edges
    → length (with_node a (with_node b (nodes level))) ≤ max_nodes → edge_fits level (pos a) (pos b) ≡ Ok (a, b)
unfolding edge_fits node_of
edge_done level a b first second apart room few = rw (first, second, apart, lt-leb max_edges (length (edges level)) room, le-ltb max_nodes (length (with_node a (with_node b (nodes level)))) few) refl

-- the last of the ends that differ
last_differs : (es rest : List Edge) (e : Edge) → list_all ends_differ ((es ++ e ∷ []) ++ rest) ≡ true → ((ends e).0 == (ends e).1) ≡ false
unfolding ends_differ
last_differs es rest e h = not-true _ (and_parts _ _ (all_parts ends_differ es (e ∷ []) (all_parts ends_differ (es ++ e ∷ []) rest h).0).1).0

two_named : (front : List ℕ) (a b : ℕ) (back : List ℕ) → list_all (λ n. nat_le n max_node) (front ++ a ∷ b ∷ back) ≡ true → (nat_le a max_node ≡ true) × (nat_le b max_node ≡ true)
two_named front a b back h =
    let first = and_parts (nat_le a max_node) (nat_le b max_node && list_all (λ n. nat_le n max_node) back) (all_parts (λ n. nat_le n max_node) front (a ∷ b ∷ back) h).1 in
    (first.0, (and_parts (nat_le b max_node) (list_all (λ n. nat_le n max_node) back) first.1).0)

-- a level that keeps its limits with a switch takes the switch
pub switch_done : (level : VoltageLevel) (s : Switch) → IsWithin (with_switch level s)
    → level_with_switch level s.id s.kind (pos s.node1) (pos s.node2) s.opened s.retained s.fictitious ≡ Ok (with_switch level s)
unfolding level_with_switch nodes edges ends
switch_done level s k =
    let rest = internal_nodes level.internals ++ placed_nodes level.placed in
    let near = two_named (switch_nodes level.switches) s.node1 s.node2 rest (rw (named_switch level s) at k.in_range) in
    let differ : list_all ends_differ ((map switch_edge level.switches ++ switch_edge s ∷ []) ++ map internal_edge level.internals) ≡ true = rw (map-append switch_edge level.switches (s ∷ [])) at k.differ in
    let apart : (s.node1 == s.node2) ≡ false = last_differs (map switch_edge level.switches) (map internal_edge level.internals) (switch_edge s) differ in
    let room : length (edges level) < max_edges = omega (arith, k.few_edges, length-edges (with_switch level s), length-edges level, length-append level.switches (s ∷ [])) in
    let few : length (with_node s.node1 (with_node s.node2 (nodes level))) ≤ max_nodes = rw (named_is level) (rw (named_switch level s, grown_nodes (switch_nodes level.switches) s.node1 s.node2 rest) at k.few_nodes) in
    rw (edge_done level s.node1 s.node2 near.0 near.1 apart room few) refl

pub internal_done : (level : VoltageLevel) (i : Internal) → IsWithin (with_internal level i) → level_with_internal level (pos i.node1) (pos i.node2) ≡ Ok (with_internal level i)
unfolding level_with_internal nodes edges ends
internal_done level i k =
    let front = switch_nodes level.switches ++ internal_nodes level.internals in
    let back = placed_nodes level.placed in
    let near = two_named front i.node1 i.node2 back (rw (named_internal level i) at k.in_range) in
    let differ : list_all ends_differ (map switch_edge level.switches ++ (map internal_edge level.internals ++ internal_edge i ∷ [])) ≡ true = rw (map-append internal_edge level.internals (i ∷ [])) at k.differ in
    let split : (map switch_edge level.switches ++ map internal_edge level.internals ++ internal_edge i ∷ []) ++ [] ≡ map switch_edge level.switches ++ (map internal_edge level.internals ++ internal_edge i ∷ []) = append-nil _ ∙ append_assoc (map switch_edge level.switches) (map internal_edge level.internals) (internal_edge i ∷ []) in
    let apart : (i.node1 == i.node2) ≡ false = last_differs (map switch_edge level.switches ++ map internal_edge level.internals) [] (internal_edge i) (rw split differ) in
    let room : length (edges level) < max_edges = omega (arith, k.few_edges, length-edges (with_internal level i), length-edges level, length-append level.internals (i ∷ [])) in
    let few : length (with_node i.node1 (with_node i.node2 (nodes level))) ≤ max_nodes = rw (named_is_left level) (rw (named_internal level i, grown_nodes front i.node1 i.node2 back) at k.few_nodes) in
    rw (edge_done level i.node1 i.node2 near.0 near.1 apart room few) refl

-- ---- a terminal

abbrev pub below : ℕ → Placed → Bool
below n p = nat_lt p.node n

abbrev pub above : ℕ → Placed → Bool
above n p = nat_lt n p.node

-- between those below and those above, a terminal goes
pub put_between : (p : Placed) (xs ys : List Placed) → list_all (below p.node) xs ≡ true → list_all (above p.node) ys ≡ true → with_placed p (xs ++ ys) ≡ xs ++ p ∷ ys
unfolding with_placed
put_between p [] [] b a = refl
put_between p [] (y ∷ ys) b a =
    let less : p.node < y.node = ltb-true p.node y.node (and_parts (above p.node y) (list_all (above p.node) ys) a).0 in
    rw (le-ltb y.node p.node (omega arith)) refl
put_between p (x ∷ xs) ys b a = let parts = and_parts (below p.node x) (list_all (below p.node) xs) b in rw parts.0 (ap (λ z. x ∷ z) (put_between p xs ys parts.1 a))

-- and there its node is free
pub free_between : (p : Placed) (xs ys : List Placed) → list_all (below p.node) xs ≡ true → list_all (above p.node) ys ≡ true → find (stands_at p.node) (xs ++ ys) ≡ None
unfolding stands_at
free_between p [] [] b a = refl
free_between p [] (y ∷ ys) b a =
    let parts = and_parts (above p.node y) (list_all (above p.node) ys) a in
    let less : p.node < y.node = ltb-true p.node y.node parts.0 in
    rw (ne_eqb y.node p.node (λ e. omega arith)) (free_between p [] ys b parts.1)
free_between p (x ∷ xs) ys b a =
    let parts = and_parts (below p.node x) (list_all (below p.node) xs) b in
    let less : x.node < p.node = ltb-true x.node p.node parts.0 in
    rw (ne_eqb x.node p.node (λ e. omega arith)) (free_between p xs ys parts.1 a)

abbrev pub placing_in : VoltageLevel → List Placed → VoltageLevel
placing_in level ps = record level { placed = ps }

-- a level that keeps its limits with a terminal between the others takes the terminal
pub terminal_done : (level : VoltageLevel) (p : Placed) (xs ys : List Placed) → list_all (below p.node) xs ≡ true → list_all (above p.node) ys ≡ true → IsWithin (placing_in level (xs ++ p ∷ ys))
    → level_with_terminal (placing_in level (xs ++ ys)) (pos p.node) p.terminal p.stand ≡ Ok (placing_in level (xs ++ p ∷ ys))
unfolding level_with_terminal terminal_fits node_of placed_at refuse_taken nodes
terminal_done level p xs ys b a k =
    let old = placing_in level (xs ++ ys) in
    let new = placing_in level (xs ++ p ∷ ys) in
    let front = switch_nodes level.switches ++ internal_nodes level.internals in
    let range = all_parts (λ n. nat_le n max_node) front (placed_nodes (xs ++ p ∷ ys)) (rw (named_is_left new) at k.in_range) in
    let here = rw (map-append (λ (x : Placed). x.node) xs (p ∷ ys)) at range.1 in
    let near : nat_le p.node max_node ≡ true = (and_parts _ (list_all (λ n. nat_le n max_node) (placed_nodes ys)) (all_parts (λ n. nat_le n max_node) (placed_nodes xs) (p.node ∷ placed_nodes ys) here).1).0 in
    let few : length (rising (front ++ placed_nodes (xs ++ p ∷ ys))) ≤ max_nodes = rw (named_is_left new) at k.few_nodes in
    let room : length (with_node p.node (rising (named old))) ≤ max_nodes = rw (named_is_left old, ← rising_placed p front (xs ++ ys), put_between p xs ys b a) few in
    rw (near, free_between p xs ys b a, le-ltb max_nodes (length (with_node p.node (rising (named old)))) room, put_between p xs ys b a) refl

-- ---- parts of a level that keeps its limits

drop_switches : (level : VoltageLevel) (xs ys : List Switch) → IsWithin (with_switches level (xs ++ ys)) → IsWithin (with_switches level xs)
drop_switches level xs [] k = rw (append-nil xs) at k
drop_switches level xs (y ∷ ys) k = drop_switches level xs ys (switch_cut_within (with_switches level (xs ++ y ∷ ys)) xs ys y refl k)

drop_internals : (level : VoltageLevel) (xs ys : List Internal) → IsWithin (with_internals level (xs ++ ys)) → IsWithin (with_internals level xs)
drop_internals level xs [] k = rw (append-nil xs) at k
drop_internals level xs (y ∷ ys) k = drop_internals level xs ys (cut_within (with_internals level (xs ++ y ∷ ys)) xs ys y refl k)

-- the first of its switches and of its internal connections
pub first_within : (level : VoltageLevel) (xs ys : List Switch) (us vs : List Internal) → level.switches ≡ xs ++ ys → level.internals ≡ us ++ vs → IsWithin level
    → IsWithin (record level { switches = xs; internals = us })
first_within level xs ys us vs e f k =
    let all : IsWithin (with_switches level (xs ++ ys)) = subst (λ (z : List Switch). IsWithin (with_switches level z)) e k in
    let some : IsWithin (with_switches level xs) = drop_switches level xs ys all in
    let both : IsWithin (with_internals (with_switches level xs) (us ++ vs)) = subst (λ (z : List Internal). IsWithin (with_internals (with_switches level xs) z)) f some in
    drop_internals (with_switches level xs) us vs both

same_filter : (t q a : Placed → Bool) → ((p : Placed) → t p ≡ true → q p ≡ a p) → (ps : List Placed) → list_all t ps ≡ true → filter q ps ≡ filter a ps
same_filter t q a same [] h = refl
same_filter t q a same (p ∷ ps) h = let parts = and_parts (t p) (list_all t ps) h in rw (same p parts.0, same_filter t q a same ps parts.1) refl

all_nodes : (n : ℕ) (ps : List Placed) → list_all (nat_lt n) (placed_nodes ps) ≡ true → list_all (above n) ps ≡ true
all_nodes n [] h = refl
all_nodes n (p ∷ ps) h = let parts = and_parts (nat_lt n p.node) (list_all (nat_lt n) (placed_nodes ps)) h in and_from _ _ parts.0 (all_nodes n ps parts.1)

-- what stands before a terminal has lesser nodes, and what stands behind it greater ones
pub around : (xs : List Placed) (p : Placed) (ys : List Placed) → is_rising (placed_nodes (xs ++ p ∷ ys)) ≡ true → (list_all (below p.node) xs ≡ true) × (list_all (above p.node) ys ≡ true)
unfolding is_rising
around [] p ys h = (refl, all_nodes p.node ys (and_parts _ _ h).0)
around (x ∷ xs) p ys h =
    let parts = and_parts (list_all (nat_lt x.node) (placed_nodes (xs ++ p ∷ ys))) (is_rising (placed_nodes (xs ++ p ∷ ys))) h in
    let again = around xs p ys parts.1 in
    let here = all_parts (above x.node) xs (p ∷ ys) (all_nodes x.node (xs ++ p ∷ ys) parts.0) in
    (and_from _ _ (and_parts (above x.node p) (list_all (above x.node) ys) here.1).0 again.0, again.1)

-- some of those before a terminal, the terminal, and some of those behind it
pub around_within : (level : VoltageLevel) (a b : Placed → Bool) (xs : List Placed) (p : Placed) (ys : List Placed) → level.placed ≡ xs ++ p ∷ ys → IsWithin level
    → IsWithin (placing_in level (filter a xs ++ p ∷ filter b ys))
around_within level a b xs p ys e k =
    let sides = around xs p ys (rw e at k.rise) in
    let q : Placed → Bool = λ x. cond (nat_lt p.node x.node) (b x) (x.node == p.node || a x) in
    let before : filter q xs ≡ filter a xs = same_filter (below p.node) q a (λ x l. lesser x l) xs sides.0 in
    let behind : filter q ys ≡ filter b ys = same_filter (above p.node) q b (λ x l. rw l refl) ys sides.1 in
    let own : q p ≡ true = rw (le-ltb p.node p.node (omega arith), eq-eqb p.node p.node refl) refl in
    let is : filter q level.placed ≡ filter a xs ++ p ∷ filter b ys = ap (filter q) e ∙ filter-append q xs (p ∷ ys) ∙ rw (before, own, behind) refl in
    subst (λ (z : List Placed). IsWithin (placing_in level z)) is (fewer_placed_within q level k)
  where
    lesser : (x : Placed) → below p.node x ≡ true → cond (nat_lt p.node x.node) (b x) (x.node == p.node || a x) ≡ a x
    lesser x l = let less : x.node < p.node = ltb-true x.node p.node l in rw (le-ltb p.node x.node (omega arith), ne_eqb x.node p.node (λ e. omega arith)) refl
