-- From what a level keeps to what its code promises.
use Rattle.std.proofs.Common.{◌≡◌, refl, sym, ap, ◌∙◌, ℕ, ℤ, zero, suc, ◌+◌, ◌*◌, ◌<◌, ◌≤◌, Bool, true, false, cond, not, List, [], ◌∷◌, ◌++◌, length, arith, Option, Some, None, get_or, take, drop}
use Rattle.std.specs.Prelude.{nat_lt, Result, Ok, Err, remove, position, map}
use Rattle.std.specs.List.{list_all, position_or_len}
use Rattle.std.specs.Option.{option_map}
use Rattle.std.proofs.lemmas.Bool.{and_parts, ltb-true, ltb-false, lt-ltb, le-ltb, ne_eqb}
use Rattle.std.proofs.lemmas.List.{length-append, map-append}
use Rattle.grid_ids.specs.Refusing.{◌>>=◌, map_fault, found_or}
use Rattle.grid_level.specs.declared.uses.Use.{Use}
use Rattle.grid_level.specs.declared.Placed.{Placed}
use Rattle.grid_level.specs.declared.Switch.{Switch}
use Rattle.grid_level.specs.declared.Internal.{Internal}
use Rattle.grid_level.specs.declared.LevelFault.{LevelFault}
use Rattle.grid_level.specs.VoltageLevel.{VoltageLevel}
use Rattle.grid_level.specs.Uses.{key_here, with_use, without_use, tally, used_nodes, total}
use Rattle.grid_level.specs.Passing.{edges, switch_ends, named, nodes, with_node, rising, is_rising}
use Rattle.grid_level.specs.Kept.{IsKept, lists_of}
use Rattle.grid_level.specs.LevelEdits.{Unfit, level_fault_of, refusal_of, edge_fits, level_with_switch, level_with_internal, level_without_internal, without_first, joins, no_edge}
use Rattle.grid_level.specs.declared.LevelFault.TheVariants as faults
use Rattle.grid_kinds.specs.declared.SwitchKind.{SwitchKind}
use Rattle.grid_level.proofs.NodeCounts.{length-with_node, total-tally, tally_nodes, walk-used, walk-with_node, without-with}
use Rattle.grid_level.proofs.EditUses.{named_is, length-edges, switch_nodes, internal_nodes, placed_nodes, shrunk, grown}
use Rattle.grid_level.proofs.LevelEdits.{drop_some, named_is_left, fitting, node_of-le, with_switch, named_switch, switch_within, named_switch_cut, named_switch_left, switch_cut_within, with_internal, named_internal, internal_within, named_cut, named_left, cut_within}

pub map_ok : {A : Type 0} (r : Result A Unfit) (x : A) → Ok x ≡ map_fault level_fault_of r → r ≡ Ok x
map_ok (Ok y) x h = cc
map_ok (Err u) x h = cc

pub map_err : {A B : Type 0} (r : Result A Unfit) (f : LevelFault) → Err f ≡ map_fault level_fault_of r → (s : Result B Unfit) → ((u : Unfit) → r ≡ Err u → s ≡ Err u) → Err f ≡ map_fault level_fault_of s
map_err (Ok y) f h s k = cc
map_err (Err u) f h s k = rw (k u refl) (cc)

length_map : (us : List Use) → length (used_nodes us) ≡ length us
unfolding used_nodes
length_map [] = refl
length_map (u ∷ us) = ap suc (length_map us)

pub used_is : (level : VoltageLevel) (uses : List Use) {pairs : List (ℕ × ℕ)} → IsKept level uses pairs → used_nodes uses ≡ nodes level
unfolding nodes
used_is level uses k = ap used_nodes k.counted ∙ tally_nodes (named level)

pub nodes_counted : (level : VoltageLevel) (uses : List Use) {pairs : List (ℕ × ℕ)} → IsKept level uses pairs → length uses ≡ length (nodes level)
nodes_counted level uses k = sym (length_map uses) ∙ ap length (used_is level uses k)

pub nodes_with_two : (level : VoltageLevel) (uses : List Use) {pairs : List (ℕ × ℕ)} (a b : ℕ) → IsKept level uses pairs → (a ≡ b → ⊥)
    → length (with_node a (with_node b (nodes level))) ≡ length uses + cond (key_here (λ u. u.node) a uses) 0 1 + cond (key_here (λ u. u.node) b uses) 0 1
nodes_with_two level uses a b k differ =
    let same = used_is level uses k in
    let has_a : key_here (λ u. u.node) a uses ≡ key_here (λ m. m) a (nodes level) = walk-used a uses ∙ ap (key_here (λ m. m) a) same in
    let has_b : key_here (λ u. u.node) b uses ≡ key_here (λ m. m) b (nodes level) = walk-used b uses ∙ ap (key_here (λ m. m) b) same in
    let one : length (with_node a (with_node b (nodes level))) ≡ length (with_node b (nodes level)) + cond (key_here (λ u. u.node) a uses) 0 1 =
    length-with_node a (with_node b (nodes level)) ∙ ap (λ t. length (with_node b (nodes level)) + cond t 0 1) (walk-with_node a b (nodes level) differ ∙ sym has_a) in
    let two : length (with_node b (nodes level)) ≡ length (nodes level) + cond (key_here (λ u. u.node) b uses) 0 1 = length-with_node b (nodes level) ∙ ap (λ t. length (nodes level) + cond t 0 1) (sym has_b) in
    omega (arith, one, two, nodes_counted level uses k)

-- the uses are few: each edge names two nodes, and no node carries two terminals
length_switch_nodes : (ss : List Switch) → length (switch_nodes ss) ≡ 2 * length ss
length_switch_nodes [] = omega arith
length_switch_nodes (s ∷ ss) = omega (arith, length_switch_nodes ss)

length_internal_nodes : (is : List Internal) → length (internal_nodes is) ≡ 2 * length is
length_internal_nodes [] = omega arith
length_internal_nodes (s ∷ is) = omega (arith, length_internal_nodes is)

pub front_of : (n : ℕ) (ns : List ℕ) → list_all (nat_lt n) ns ≡ true → with_node n ns ≡ n ∷ ns
unfolding with_node
front_of n [] h = refl
front_of n (m ∷ ns) h =
    let less : n < m = ltb-true n m (and_parts (nat_lt n m) (list_all (nat_lt n) ns) h).0 in
    rw (le-ltb m n (omega arith), ne_eqb m n (λ e. omega arith)) refl

pub rising_self : (ns : List ℕ) → is_rising ns ≡ true → rising ns ≡ ns
unfolding rising is_rising
rising_self [] h = refl
rising_self (n ∷ ns) h = let parts = and_parts (list_all (nat_lt n) ns) (is_rising ns) h in ap (with_node n) (rising_self ns parts.1) ∙ front_of n ns parts.0

length_nodes_placed : (ps : List Placed) → length (placed_nodes ps) ≡ length ps
length_nodes_placed [] = refl
length_nodes_placed (p ∷ ps) = ap suc (length_nodes_placed ps)

pub few_placed : (level : VoltageLevel) (uses : List Use) {pairs : List (ℕ × ℕ)} → IsKept level uses pairs → length level.placed ≤ 1024
unfolding nodes
few_placed level uses k =
    let front = switch_nodes level.switches ++ internal_nodes level.internals in
    let self : length (rising (placed_nodes level.placed)) ≡ length level.placed = ap length (rising_self (placed_nodes level.placed) k.within.rise) ∙ length_nodes_placed level.placed in
    let all : length (rising (named level)) ≡ length (rising (front ++ placed_nodes level.placed)) = ap (λ z. length (rising z)) (named_is_left level) in
    omega (arith, self, all, drop_some [] front (placed_nodes level.placed), k.within.few_nodes)

pub room_is : (level : VoltageLevel) (uses : List Use) {pairs : List (ℕ × ℕ)} (n : ℕ) → IsKept level uses pairs → length (with_node n (nodes level)) ≡ length uses + cond (key_here (λ u. u.node) n uses) 0 1
room_is level uses n k =
    let has : key_here (λ u. u.node) n uses ≡ key_here (λ m. m) n (nodes level) = walk-used n uses ∙ ap (key_here (λ m. m) n) (used_is level uses k) in
    length-with_node n (nodes level) ∙ ap (λ t. length (nodes level) + cond t 0 1) (sym has) ∙ ap (λ z. z + cond (key_here (λ u. u.node) n uses) 0 1) (sym (nodes_counted level uses k))

pub few_uses : (level : VoltageLevel) (uses : List Use) {pairs : List (ℕ × ℕ)} → IsKept level uses pairs → total uses < 65535
few_uses level uses k =
    let count : total uses ≡ length (named level) = ap total k.counted ∙ total-tally (named level) in
    let long : length (named level) ≡ length (switch_nodes level.switches) + (length (internal_nodes level.internals) + length (placed_nodes level.placed)) =
    ap length (named_is level) ∙ length-append (switch_nodes level.switches) (internal_nodes level.internals ++ placed_nodes level.placed) ∙ ap (λ z. length (switch_nodes level.switches) + z) (length-append (internal_nodes level.internals) (placed_nodes level.placed)) in
    omega (arith, count, long, length_switch_nodes level.switches, length_internal_nodes level.internals, length_nodes_placed level.placed, few_placed level uses k, k.within.few_edges, length-edges level)

pub edges_bound : (level : VoltageLevel) (uses : List Use) {pairs : List (ℕ × ℕ)} → IsKept level uses pairs → length level.switches + length level.internals ≤ 4096
edges_bound level uses k = omega (arith, k.within.few_edges, length-edges level)

-- ---- a switch less

abbrev pub without_place : VoltageLevel → ℕ → VoltageLevel
without_place level place = record level { switches = remove level.switches place }

pub cut_at : {X : Type 0} (xs : List X) (i : ℕ) (x : X) → i < length xs → x ≡ get_or xs i x → xs ≡ take i xs ++ x ∷ drop (suc i) xs
cut_at [] i x l e = absurd (omega arith)
cut_at (y ∷ xs) zero x l e = ap (λ z. z ∷ xs) (sym e)
cut_at (y ∷ xs) (suc i) x l e = ap (λ z. y ∷ z) (cut_at xs i x (omega arith) e)

map_remove : {X Y : Type 0} (f : X → Y) (xs : List X) (i : ℕ) → remove (map f xs) i ≡ map f (remove xs i)
map_remove f [] zero = refl
map_remove f [] (suc i) = refl
map_remove f (x ∷ xs) zero = refl
map_remove f (x ∷ xs) (suc i) = ap (λ z. f x ∷ z) (map_remove f xs i)

pub kept_without : (level : VoltageLevel) (uses : List Use) {pairs : List (ℕ × ℕ)} (place : ℕ) (s : Switch) → IsKept level uses pairs → place < length level.switches → s ≡ get_or level.switches place s
    → IsKept (without_place level place) (without_use s.node2 (without_use s.node1 uses)) (remove pairs place)
kept_without level uses place s k l e =
    let rest = internal_nodes level.internals ++ placed_nodes level.placed in
    let front = take place level.switches in
    let back = drop (suc place) level.switches in
    let cut : level.switches ≡ front ++ s ∷ back = cut_at level.switches place s l e in
    record {
      counted = ap (λ z. without_use s.node2 (without_use s.node1 z)) (k.counted ∙ ap tally (named_switch_cut level front back s cut)) ∙ sym (shrunk (switch_nodes front) s.node1 s.node2 (switch_nodes back ++ rest)) ∙ ap tally (sym (named_switch_left level front back));
      listed = ap (λ z. remove z place) k.listed ∙ map_remove switch_ends level.switches place;
      within = switch_cut_within level front back s cut k.within;
    }

-- undone: the uses are as they were
pub undone : (a b : ℕ) (uses : List Use) → without_use b (without_use a (with_use a (with_use b uses))) ≡ uses
undone a b uses = ap (without_use b) (without-with a (with_use b uses)) ∙ without-with b uses

-- ---- what a call answers

pub refused_on : {A B : Type 0} (r : Result A Unfit) (f : A → Result B Unfit) (fault : LevelFault) → Err fault ≡ map_fault level_fault_of r → fault ≡ refusal_of (r >>= f)
unfolding refusal_of
refused_on (Ok x) f fault h = cc
refused_on (Err u) f fault h = cc

pub memory_on : {A B : Type 0} (r : Result A Unfit) (f : A → Result B Unfit) (x : A) (y : B) → Ok x ≡ map_fault level_fault_of r → f x ≡ Ok y → faults.Memory ≡ refusal_of (r >>= f)
unfolding refusal_of
memory_on (Ok z) f x y h k = let same : x ≡ z = cc in let is : f z ≡ Ok y = ap f (sym same) ∙ k in rw is refl
memory_on (Err u) f x y h k = cc

pub switch_refused : (level : VoltageLevel) (id : List ℕ) (kind : SwitchKind) (node1 node2 : ℤ) (opened retained fictitious : Bool) (fault : LevelFault)
    → Err fault ≡ map_fault level_fault_of (edge_fits level node1 node2) → fault ≡ refusal_of (level_with_switch level id kind node1 node2 opened retained fictitious)
unfolding level_with_switch
switch_refused level id kind node1 node2 opened retained fictitious fault h = refused_on (edge_fits level node1 node2) _ fault h

pub switch_memory : (level : VoltageLevel) (id : List ℕ) (kind : SwitchKind) (node1 node2 : ℤ) (opened retained fictitious : Bool) (pair : ℕ × ℕ)
    → Ok pair ≡ map_fault level_fault_of (edge_fits level node1 node2) → faults.Memory ≡ refusal_of (level_with_switch level id kind node1 node2 opened retained fictitious)
unfolding level_with_switch
switch_memory level id kind node1 node2 opened retained fictitious pair h = memory_on (edge_fits level node1 node2) _ pair _ h refl

pub switch_done : (level : VoltageLevel) (node1 node2 : ℤ) (s : Switch) → Ok (s.node1, s.node2) ≡ map_fault level_fault_of (edge_fits level node1 node2)
    → level_with_switch level s.id s.kind node1 node2 s.opened s.retained s.fictitious ≡ Ok (with_switch level s)
unfolding level_with_switch
switch_done level node1 node2 s h = rw (map_ok (edge_fits level node1 node2) (s.node1, s.node2) h) refl

abbrev pub switch_of : List ℕ → SwitchKind → ℕ → ℕ → Bool → Bool → Bool → Switch
switch_of id kind a b opened retained fictitious = record { id = id; kind = kind; node1 = a; node2 = b; opened = opened; retained = retained; fictitious = fictitious }

pub switch_kept : (level : VoltageLevel) (uses : List Use) {pairs : List (ℕ × ℕ)} (node1 node2 : ℤ) (s : Switch) → IsKept level uses pairs → Ok (s.node1, s.node2) ≡ map_fault level_fault_of (edge_fits level node1 node2)
    → IsKept (with_switch level s) (with_use s.node1 (with_use s.node2 uses)) (pairs ++ (s.node1, s.node2) ∷ [])
switch_kept level uses node1 node2 s k h =
    let a = s.node1 in
    let b = s.node2 in
    let f = fitting level node1 node2 (a, b) (map_ok (edge_fits level node1 node2) (a, b) h) in
    let rest = internal_nodes level.internals ++ placed_nodes level.placed in
    record {
      counted = ap (λ z. with_use a (with_use b z)) (k.counted ∙ ap tally (named_is level)) ∙ sym (grown (switch_nodes level.switches) a b rest) ∙ ap tally (sym (named_switch level s));
      listed = ap (λ z. z ++ (a, b) ∷ []) k.listed ∙ sym (map-append switch_ends level.switches (s ∷ []));
      within = switch_within level s k.within (node_of-le node1 a f.first) (node_of-le node2 b f.second) f.apart f.room f.few;
    }

pub empty_kept : (id : List ℕ) (nominal_v : ℤ) (low_v high_v : Option ℤ) → IsKept (lists_of id nominal_v low_v high_v [] [] []) [] []
unfolding tally named nodes edges rising is_rising
empty_kept id nominal_v low_v high_v = record { counted = refl; listed = refl; within = record { in_range = refl; few_nodes = omega arith; few_edges = omega arith; differ = refl; rise = refl } }

-- ---- internal connections

abbrev pub internal_of : ℕ → ℕ → Internal
internal_of a b = record { node1 = a; node2 = b }

pub internal_refused : (level : VoltageLevel) (node1 node2 : ℤ) (fault : LevelFault) → Err fault ≡ map_fault level_fault_of (edge_fits level node1 node2) → fault ≡ refusal_of (level_with_internal level node1 node2)
unfolding level_with_internal
internal_refused level node1 node2 fault h = refused_on (edge_fits level node1 node2) _ fault h

pub internal_memory : (level : VoltageLevel) (node1 node2 : ℤ) (pair : ℕ × ℕ) → Ok pair ≡ map_fault level_fault_of (edge_fits level node1 node2) → faults.Memory ≡ refusal_of (level_with_internal level node1 node2)
unfolding level_with_internal
internal_memory level node1 node2 pair h = memory_on (edge_fits level node1 node2) _ pair _ h refl

pub internal_done : (level : VoltageLevel) (node1 node2 : ℤ) (a b : ℕ) → Ok (a, b) ≡ map_fault level_fault_of (edge_fits level node1 node2) → level_with_internal level node1 node2 ≡ Ok (with_internal level (internal_of a b))
unfolding level_with_internal
internal_done level node1 node2 a b h = rw (map_ok (edge_fits level node1 node2) (a, b) h) refl

pub internal_kept : (level : VoltageLevel) (uses : List Use) {pairs : List (ℕ × ℕ)} (node1 node2 : ℤ) (a b : ℕ) → IsKept level uses pairs → Ok (a, b) ≡ map_fault level_fault_of (edge_fits level node1 node2)
    → IsKept (with_internal level (internal_of a b)) (with_use a (with_use b uses)) pairs
internal_kept level uses node1 node2 a b k h =
    let f = fitting level node1 node2 (a, b) (map_ok (edge_fits level node1 node2) (a, b) h) in
    let i = internal_of a b in
    let front = switch_nodes level.switches ++ internal_nodes level.internals in
    record {
      counted = ap (λ z. with_use a (with_use b z)) (k.counted ∙ ap tally (named_is_left level)) ∙ sym (grown front a b (placed_nodes level.placed)) ∙ ap tally (sym (named_internal level i));
      listed = k.listed;
      within = internal_within level i k.within (node_of-le node1 a f.first) (node_of-le node2 b f.second) f.apart f.room f.few;
    }

abbrev pub internal_cut : VoltageLevel → ℕ → VoltageLevel
internal_cut level place = record level { internals = remove level.internals place }

pub kept_cut : (level : VoltageLevel) (uses : List Use) {pairs : List (ℕ × ℕ)} (place : ℕ) (i : Internal) → IsKept level uses pairs → place < length level.internals → i ≡ get_or level.internals place i
    → IsKept (internal_cut level place) (without_use i.node2 (without_use i.node1 uses)) pairs
kept_cut level uses place i k l e =
    let front = take place level.internals in
    let back = drop (suc place) level.internals in
    let cut : level.internals ≡ front ++ i ∷ back = cut_at level.internals place i l e in
    let first = switch_nodes level.switches ++ internal_nodes front in
    let rest = internal_nodes back ++ placed_nodes level.placed in
    record {
      counted = ap (λ z. without_use i.node2 (without_use i.node1 z)) (k.counted ∙ ap tally (named_cut level front back i cut)) ∙ sym (shrunk first i.node1 i.node2 rest) ∙ ap tally (sym (named_left level front back));
      listed = k.listed;
      within = cut_within level front back i cut k.within;
    }

-- ---- the first that passes, by its place

first_removed : {X : Type 0} (p : X → Bool) (xs : List X) → without_first p xs ≡ cond (nat_lt (position_or_len p xs) (length xs)) (Some (remove xs (position_or_len p xs))) None
first_removed p [] = refl
first_removed {X} p (x ∷ xs) = by (p x) (first_removed p xs)
  where
    by : (t : Bool) → without_first p xs ≡ cond (nat_lt (position_or_len p xs) (length xs)) (Some (remove xs (position_or_len p xs))) None
        → cond t (Some xs) (option_map (λ r. x ∷ r) (without_first p xs))
        ≡ cond (nat_lt (cond (not t) (1 + position_or_len p xs) 0) (suc (length xs))) (Some (remove (x ∷ xs) (cond (not t) (1 + position_or_len p xs) 0))) None
    by true again = rw (lt-ltb 0 (suc (length xs)) (omega arith)) refl
    by false again = inner (position_or_len p xs) (length xs) again
      where
        inner : (k n : ℕ) → without_first p xs ≡ cond (nat_lt k n) (Some (remove xs k)) None → option_map (λ r. x ∷ r) (without_first p xs) ≡ cond (nat_lt (1 + k) (suc n)) (Some (remove (x ∷ xs) (1 + k))) None
        inner k n again =
            let one : 1 + k ≡ suc k = omega arith in
            rw (one, again) (split (nat_lt k n) refl)
          where
            split : (t : Bool) → nat_lt k n ≡ t → ◌≡◌ {A = Option (List X)} (option_map (λ r. x ∷ r) (cond t (Some (remove xs k)) None)) (cond (nat_lt (suc k) (suc n)) (Some (remove (x ∷ xs) (suc k))) None)
            split true e = rw (lt-ltb (suc k) (suc n) (let l : k < n = ltb-true k n e in omega arith)) refl
            split false e = rw (le-ltb (suc k) (suc n) (let l : n ≤ k = ltb-false k n e in omega arith)) refl

pub cut_done : (level : VoltageLevel) (node1 node2 : ℤ) (place : ℕ) → Some place ≡ position (joins node1 node2) level.internals
    → (level_without_internal level node1 node2 ≡ Ok (internal_cut level place)) × (place < length level.internals)
unfolding level_without_internal
cut_done level node1 node2 place h = by (nat_lt (position_or_len (joins node1 node2) level.internals) (length level.internals)) refl h
  where
    at : ℕ
    at = position_or_len (joins node1 node2) level.internals

    by : (t : Bool) → nat_lt at (length level.internals) ≡ t → ◌≡◌ {A = Option ℕ} (Some place) (cond t (Some at) None)
        → ((found_or (without_first (joins node1 node2) level.internals) no_edge >>= (λ rest. Ok (record level { internals = rest }))) ≡ Ok (internal_cut level place)) × (place < length level.internals)
    by true e h =
        let same : place ≡ at = cc in
        let less : at < length level.internals = ltb-true at (length level.internals) e in
        (rw (first_removed (joins node1 node2) level.internals, e, same) refl, omega arith)
    by false e h = cc

pub cut_refused : (level : VoltageLevel) (node1 node2 : ℤ) → None ≡ position (joins node1 node2) level.internals → faults.NoEdge ≡ refusal_of (level_without_internal level node1 node2)
unfolding level_without_internal refusal_of level_fault_of
cut_refused level node1 node2 h = by (nat_lt (position_or_len (joins node1 node2) level.internals) (length level.internals)) refl h
  where
    at : ℕ
    at = position_or_len (joins node1 node2) level.internals

    by : (t : Bool) → nat_lt at (length level.internals) ≡ t → ◌≡◌ {A = Option ℕ} None (cond t (Some at) None)
        → faults.NoEdge ≡ refusal_of (found_or (without_first (joins node1 node2) level.internals) no_edge >>= (λ rest. Ok (record level { internals = rest })))
    by true e h = cc
    by false e h = rw (first_removed (joins node1 node2) level.internals, e) refl
