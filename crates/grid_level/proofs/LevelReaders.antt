-- What the readers find is what the definitions say.
use Rattle.std.proofs.Common.{◌≡◌, refl, sym, ap, subst, ◌∙◌, ℕ, zero, suc, ◌+◌, ◌-◌, ◌<◌, ◌≤◌, Bool, true, false, cond, not, ◌&&◌, ◌||◌, List, [], ◌∷◌, ◌++◌, length, arith, Some, None, get_or, append_assoc}
use Rattle.std.specs.Prelude.{map, flat_map, nat_lt, nat_le, ◌==◌, slice_get, position}
use Rattle.std.specs.Option.{option_map}
use Rattle.std.specs.List.{list_all, position_or_len}
use Rattle.std.proofs.lemmas.Bool.{and_parts, and_from, false≢true, ltb-true, lt-ltb, le-ltb, eq-eqb, ne_eqb}
use Rattle.grid_lemmas.proofs.Bools.{or_right}
use Rattle.grid_level.specs.declared.uses.Use.{Use}
use Rattle.grid_level.specs.declared.Switch.{Switch}
use Rattle.grid_level.specs.declared.Internal.{Internal}
use Rattle.grid_level.specs.declared.Placed.{Placed}
use Rattle.grid_level.specs.VoltageLevel.{VoltageLevel}
use Rattle.grid_level.specs.Uses.{place_among, key_here}
use Rattle.grid_level.specs.Passing.{Edge, switch_edge, internal_edge, edges, ends, switch_ends, both, named, nodes, with_node, rising, is_rising}
use Rattle.grid_level.specs.LevelEdits.{max_node}
use Rattle.grid_level.specs.Kept.{KeepsLimits, IsKept, among}
use Rattle.grid_level.proofs.NodeCounts.{Order, below, equal, above, order}
use Rattle.grid_level.proofs.Places.{rising_is_rising}
use Rattle.grid_level.proofs.LevelEdits.{list_all-rising, all_parts}

-- ---- the place of a number in a rising list

none_above : (n m : ℕ) (ns : List ℕ) → n < m → list_all (nat_lt m) ns ≡ true → position_or_len (λ m. m == n) ns ≡ length ns
none_above n m [] l h = refl
none_above n m (k ∷ ns) l h =
    let parts = and_parts (nat_lt m k) (list_all (nat_lt m) ns) h in
    let g : m < k = ltb-true m k parts.0 in
    rw (ne_eqb k n (λ e. omega arith), none_above n m ns l parts.1) (omega arith)

pub here_at : {X : Type 0} (key : X → ℕ) (n : ℕ) (xs : List X) → is_rising (map key xs) ≡ true
    → (key_here key n xs ≡ true → position_or_len (λ m. m == n) (map key xs) ≡ place_among key n xs) × (key_here key n xs ≡ false → position_or_len (λ m. m == n) (map key xs) ≡ length (map key xs))
unfolding is_rising
here_at key n [] r = ((λ h. refl), (λ h. refl))
here_at {X} key n (x ∷ xs) r = by (order (key x) n) (here_at key n xs parts.1)
  where
    parts : (list_all (nat_lt (key x)) (map key xs) ≡ true) × (is_rising (map key xs) ≡ true)
    parts = and_parts _ _ r

    rest : ℕ
    rest = position_or_len (λ m. m == n) (map key xs)

    by : Order (key x) n → (key_here key n xs ≡ true → rest ≡ place_among key n xs) × (key_here key n xs ≡ false → rest ≡ length (map key xs))
        → (cond (nat_lt (key x) n) (key_here key n xs) (key x == n) ≡ true → cond (not (key x == n)) (1 + rest) 0 ≡ cond (nat_lt (key x) n) (suc (place_among key n xs)) 0)
        × (cond (nat_lt (key x) n) (key_here key n xs) (key x == n) ≡ false → cond (not (key x == n)) (1 + rest) 0 ≡ suc (length (map key xs)))
    by (below l) again =
        let less : key x < n = ltb-true (key x) n l in
        rw (l, ne_eqb (key x) n (λ e. omega arith)) ((λ h. omega (arith, again.0 h)), (λ h. omega (arith, again.1 h)))
    by (equal l e same) again = rw (l, e) ((λ h. refl), (λ h. cc))
    by (above l e g) again = rw (l, e) ((λ h. cc), (λ h. omega (arith, none_above n (key x) (map key xs) (ltb-true n (key x) g) parts.0)))

here_less : {X : Type 0} (key : X → ℕ) (n : ℕ) (xs : List X) → key_here key n xs ≡ true → place_among key n xs < length (map key xs)
here_less key n [] h = absurd (false≢true h)
here_less key n (y ∷ xs) h = by (nat_lt (key y) n) h (here_less key n xs)
  where
    by : (t : Bool) → cond t (key_here key n xs) (key y == n) ≡ true → (key_here key n xs ≡ true → place_among key n xs < length (map key xs)) → cond t (suc (place_among key n xs)) 0 < suc (length (map key xs))
    by true h again = let more : place_among key n xs < length (map key xs) = again h in omega arith
    by false h again = omega arith

pub position_here : {X : Type 0} (key : X → ℕ) (n : ℕ) (xs : List X) (i : ℕ) → is_rising (map key xs) ≡ true → i ≡ place_among key n xs → key_here key n xs ≡ true → Some i ≡ position (λ m. m == n) (map key xs)
position_here key n xs i r at h = ap (λ z. Some z) at ∙ sym (rw ((here_at key n xs r).0 h, lt-ltb (place_among key n xs) (length (map key xs)) (here_less key n xs h)) refl)

pub position_free : {X : Type 0} (key : X → ℕ) (n : ℕ) (xs : List X) → is_rising (map key xs) ≡ true → key_here key n xs ≡ false → None ≡ position (λ m. m == n) (map key xs)
position_free key n xs r h = sym (rw ((here_at key n xs r).1 h, le-ltb (length (map key xs)) (length (map key xs)) (omega arith)) refl)

-- ---- the ends of an edge

listed_ends : (ss : List Switch) (rest : List Edge) (place : ℕ) (pair : ℕ × ℕ) → place < length (map switch_ends ss) → pair ≡ get_or (map switch_ends ss) place pair
    → option_map ends (slice_get (map switch_edge ss ++ rest) place) ≡ Some pair
unfolding ends
listed_ends [] rest place pair l e = absurd (omega arith)
listed_ends (t ∷ ss) rest zero pair l e = ap (λ z. Some z) (sym e)
listed_ends (t ∷ ss) rest (suc place) pair l e = listed_ends ss rest place pair (omega arith) e

pub first_ends : (ss : List Switch) (rest : List Edge) (pairs : List (ℕ × ℕ)) (place : ℕ) (pair : ℕ × ℕ) → pairs ≡ map switch_ends ss → place < length pairs → pair ≡ get_or pairs place pair
    → option_map ends (slice_get (map switch_edge ss ++ rest) place) ≡ Some pair
first_ends ss rest pairs place pair same l e = listed_ends ss rest place pair (rw same at l) (rw same at e)

internal_among : (is : List Internal) (place : ℕ) (i : Internal) → place < length is → i ≡ get_or is place i → option_map ends (slice_get (map internal_edge is) place) ≡ Some (i.node1, i.node2)
unfolding ends
internal_among [] place i l e = absurd (omega arith)
internal_among (t ∷ is) zero i l e = ap (λ (z : Internal). Some (z.node1, z.node2)) (sym e)
internal_among (t ∷ is) (suc place) i l e = internal_among is place i (omega arith) e

internals_behind : (ss : List Switch) (is : List Internal) (place : ℕ) (i : Internal) → length ss ≤ place → place - length ss < length is → i ≡ get_or is (place - length ss) i
    → option_map ends (slice_get (map switch_edge ss ++ map internal_edge is) place) ≡ Some (i.node1, i.node2)
internals_behind [] is place i le l e = let same : place - 0 ≡ place = omega arith in internal_among is place i (rw same at l) (rw same at e)
internals_behind (s ∷ ss) is zero i le l e = absurd (omega arith)
internals_behind (s ∷ ss) is (suc place) i le l e =
    let same : suc place - suc (length ss) ≡ place - length ss = omega arith in
    internals_behind ss is place i (omega arith) (rw same at l) (rw same at e)

pub internal_ends : (ss : List Switch) (is : List Internal) (place many : ℕ) (i : Internal) → many ≡ length ss → many ≤ place → place - many < length is → i ≡ get_or is (place - many) i
    → option_map ends (slice_get (map switch_edge ss ++ map internal_edge is) place) ≡ Some (i.node1, i.node2)
internal_ends ss is place many i same le l e = internals_behind ss is place i (omega arith) (rw same at l) (rw same at e)

-- ---- what every level keeps

among_with : (n m : ℕ) (ns : List ℕ) → among (with_node n ns) m ≡ (n == m) || among ns m
unfolding with_node
among_with n m [] = refl
among_with n m (k ∷ ns) = by (order k n) (among_with n m ns)
  where
    or_swap : (a b c : Bool) → a || (b || c) ≡ b || (a || c)
    or_swap true true c = refl
    or_swap true false c = refl
    or_swap false b c = refl

    or_twice : (a c : Bool) → a || c ≡ a || (a || c)
    or_twice true c = refl
    or_twice false c = refl

    by : Order k n → among (with_node n ns) m ≡ (n == m) || among ns m
        → among (cond (nat_lt k n) (k ∷ with_node n ns) (cond (k == n) (k ∷ ns) (n ∷ k ∷ ns))) m ≡ (n == m) || ((k == m) || among ns m)
    by (below l) again = rw (l, again) (or_swap (k == m) (n == m) (among ns m))
    by (equal l e same) again = rw (l, e, same) (or_twice (n == m) (among ns m))
    by (above l e g) again = rw (l, e) refl

pub among_rising : (ns : List ℕ) (m : ℕ) → among (rising ns) m ≡ among ns m
unfolding rising
among_rising [] m = refl
among_rising (n ∷ ns) m = among_with n m (rising ns) ∙ ap (λ z. (n == m) || z) (among_rising ns m)

all_among : (more : List ℕ) (ns : List ℕ) → list_all (among (more ++ ns)) ns ≡ true
all_among more [] = refl
all_among more (n ∷ ns) = and_from _ _ (at more) (subst (λ (z : List ℕ). list_all (among z) ns ≡ true) shifted (all_among (more ++ n ∷ []) ns))
  where
    at : (more : List ℕ) → among (more ++ n ∷ ns) n ≡ true
    at [] = rw (eq-eqb n n refl) refl
    at (m ∷ more) = or_right (m == n) _ (at more)

    shifted : (more ++ n ∷ []) ++ ns ≡ more ++ n ∷ ns
    shifted = append_assoc more (n ∷ []) ns

all_along : (p q : ℕ → Bool) (ns : List ℕ) → ((n : ℕ) → p n ≡ q n) → list_all p ns ≡ list_all q ns
all_along p q [] e = refl
all_along p q (n ∷ ns) e = rw (e n, all_along p q ns e) refl

ends_pass : (p : ℕ → Bool) (es : List Edge) → list_all p (flat_map (λ e. both (ends e)) es) ≡ true → list_all (λ e. p (ends e).0 && p (ends e).1) es ≡ true
unfolding both
ends_pass p [] h = refl
ends_pass p (e ∷ es) h =
    let first = and_parts (p (ends e).0) (p (ends e).1 && list_all p (flat_map (λ e. both (ends e)) es)) h in
    let second = and_parts (p (ends e).1) (list_all p (flat_map (λ e. both (ends e)) es)) first.1 in
    and_from _ _ (and_from _ _ first.0 second.0) (ends_pass p es second.1)

placed_pass : (p : ℕ → Bool) (ps : List Placed) → list_all p (map (λ (x : Placed). x.node) ps) ≡ true → list_all (λ (x : Placed). p x.node) ps ≡ true
placed_pass p [] h = refl
placed_pass p (x ∷ ps) h = let parts = and_parts (p x.node) (list_all p (map (λ (x : Placed). x.node) ps)) h in and_from _ _ parts.0 (placed_pass p ps parts.1)

named_among : (level : VoltageLevel) → list_all (among (nodes level)) (named level) ≡ true
unfolding nodes
named_among level = all_along _ _ (named level) (among_rising (named level)) ∙ all_among [] (named level)

pub keeps_limits : (level : VoltageLevel) (uses : List Use) {pairs : List (ℕ × ℕ)} → IsKept level uses pairs → KeepsLimits level
unfolding nodes named
keeps_limits level uses k =
    let parts = all_parts (among (nodes level)) (flat_map (λ e. both (ends e)) (edges level)) (map (λ (p : Placed). p.node) level.placed) (named_among level) in
    record {
      few_edges = k.within.few_edges;
      few_nodes = k.within.few_nodes;
      nodes_in_range = list_all-rising (λ n. nat_le n max_node) (named level) ∙ k.within.in_range;
      nodes_rise = rising_is_rising (named level);
      ends_differ = k.within.differ;
      ends_are_nodes = ends_pass (among (nodes level)) (edges level) parts.0;
      placed_rise = k.within.rise;
      placed_are_nodes = placed_pass (among (nodes level)) level.placed parts.1;
    }
