-- A placed terminal: the list by its place, the uses, and how it is undone.
use Rattle.std.proofs.Common.{◌≡◌, refl, sym, ap, ◌∙◌, ℕ, suc, ◌<◌, ◌≤◌, Bool, true, false, cond, not, List, [], ◌∷◌, ◌++◌, length, arith, Option, Some, None, append_assoc, get_or}
use Rattle.std.specs.Prelude.{map, nat_lt, ◌==◌, insert, filter, find}
use Rattle.std.specs.List.{list_all}
use Rattle.std.proofs.lemmas.Bool.{and_parts, ltb-true, ltb-false, eqb-true, eq-eqb, ne_eqb, false≢true}
use Rattle.grid_level.specs.declared.uses.Use.{Use}
use Rattle.grid_level.specs.declared.Placed.{Placed}
use Rattle.grid_level.specs.VoltageLevel.{VoltageLevel}
use Rattle.grid_level.specs.Uses.{place_among, key_here, with_use, tally}
use Rattle.grid_level.specs.Passing.{nodes, with_node, is_rising, placed_at, stands_at}
use Rattle.grid_level.specs.Kept.{IsKept}
use Rattle.grid_level.specs.LevelEdits.{with_placed, max_node, max_nodes}
use Rattle.grid_level.proofs.NodeCounts.{tally_insert}
use Rattle.grid_level.proofs.EditUses.{switch_nodes, internal_nodes}
use Rattle.grid_level.proofs.LevelEdits.{named_is_left}
use Rattle.grid_level.proofs.PlacedTerminals.{placed_in, placed_within}

-- what the code inserts at the place is what the definition makes
pub placed_insert : (p : Placed) (ps : List Placed) → with_placed p ps ≡ insert ps (place_among (λ (x : Placed). x.node) p.node ps) p
unfolding with_placed
placed_insert p [] = refl
placed_insert p (x ∷ ps) = by (nat_lt x.node p.node) (placed_insert p ps)
  where
    by : (t : Bool) → with_placed p ps ≡ insert ps (place_among (λ (x : Placed). x.node) p.node ps) p
        → cond t (x ∷ with_placed p ps) (p ∷ x ∷ ps) ≡ insert (x ∷ ps) (cond t (suc (place_among (λ (x : Placed). x.node) p.node ps)) 0) p
    by true again = ap (λ z. x ∷ z) again
    by false again = refl

-- the first that is no less has the node: it is what stands there
pub found_here : (n : ℕ) (ps : List Placed) (x : Placed) → key_here (λ (p : Placed). p.node) n ps ≡ true → x ≡ get_or ps (place_among (λ (p : Placed). p.node) n ps) x → find (stands_at n) ps ≡ Some x
unfolding stands_at
found_here n [] x h e = absurd (false≢true h)
found_here n (y ∷ ps) x h e = by (nat_lt y.node n) refl h e (found_here n ps x)
  where
    by : (t : Bool) → nat_lt y.node n ≡ t → cond t (key_here (λ (p : Placed). p.node) n ps) (y.node == n) ≡ true → x ≡ get_or (y ∷ ps) (cond t (suc (place_among (λ (p : Placed). p.node) n ps)) 0) x
        → (key_here (λ (p : Placed). p.node) n ps ≡ true → x ≡ get_or ps (place_among (λ (p : Placed). p.node) n ps) x → find (λ (p : Placed). p.node == n) ps ≡ Some x)
        → cond (y.node == n) (Some y) (find (λ (p : Placed). p.node == n) ps) ≡ Some x
    by true q h e again = let l : y.node < n = ltb-true y.node n q in rw (ne_eqb y.node n (λ f. omega arith)) (again h e)
    by false q h e again = rw h (ap (λ z. Some z) (sym e))

pub none_above : (n : ℕ) (ps : List Placed) → list_all (nat_lt n) (map (λ (p : Placed). p.node) ps) ≡ true → find (stands_at n) ps ≡ None
unfolding stands_at
none_above n [] h = refl
none_above n (y ∷ ps) h =
    let parts = and_parts (nat_lt n y.node) (list_all (nat_lt n) (map (λ (p : Placed). p.node) ps)) h in
    let l : n < y.node = ltb-true n y.node parts.0 in
    rw (ne_eqb y.node n (λ f. omega arith)) (none_above n ps parts.1)

pub all_above : (n m : ℕ) (ps : List Placed) → n < m → list_all (nat_lt m) (map (λ (p : Placed). p.node) ps) ≡ true → find (stands_at n) ps ≡ None
unfolding stands_at
all_above n m [] l h = refl
all_above n m (y ∷ ps) l h =
    let parts = and_parts (nat_lt m y.node) (list_all (nat_lt m) (map (λ (p : Placed). p.node) ps)) h in
    let k : m < y.node = ltb-true m y.node parts.0 in
    rw (ne_eqb y.node n (λ f. omega arith)) (all_above n m ps l parts.1)

-- and where it has not, nothing stands there
pub free_here : (n : ℕ) (ps : List Placed) → is_rising (map (λ (p : Placed). p.node) ps) ≡ true → key_here (λ (p : Placed). p.node) n ps ≡ false → find (stands_at n) ps ≡ None
unfolding stands_at is_rising
free_here n [] r h = refl
free_here n (y ∷ ps) r h =
    let parts = and_parts (list_all (nat_lt y.node) (map (λ (p : Placed). p.node) ps)) (is_rising (map (λ (p : Placed). p.node) ps)) r in
    by (nat_lt y.node n) (y.node == n) refl refl h parts.0 (free_here n ps parts.1)
  where
    by : (t d : Bool) → nat_lt y.node n ≡ t → (y.node == n) ≡ d → cond t (key_here (λ (p : Placed). p.node) n ps) d ≡ false → list_all (nat_lt y.node) (map (λ (p : Placed). p.node) ps) ≡ true
        → (key_here (λ (p : Placed). p.node) n ps ≡ false → find (λ (p : Placed). p.node == n) ps ≡ None) → cond d (Some y) (find (λ (p : Placed). p.node == n) ps) ≡ None
    by true true q e h above again = let l : y.node < n = ltb-true y.node n q in let s : y.node ≡ n = eqb-true y.node n e in absurd (omega arith)
    by true false q e h above again = again h
    by false true q e h above again = cc
    by false false q e h above again = let g : n ≤ y.node = ltb-false y.node n q in less (y.node == n) e g
      where
        less : (d : Bool) → (y.node == n) ≡ false → n ≤ y.node → find (λ (p : Placed). p.node == n) ps ≡ None
        less d e g = all_above n y.node ps (strict y.node n g e) above
          where
            strict : (m n : ℕ) → n ≤ m → (m == n) ≡ false → n < m
            strict m n g e = grind (arith, eq-eqb m n, false≢true)

tally_placed : (p : Placed) (pre : List ℕ) (ps : List Placed) → tally (pre ++ map (λ (x : Placed). x.node) (with_placed p ps)) ≡ with_use p.node (tally (pre ++ map (λ (x : Placed). x.node) ps))
unfolding with_placed
tally_placed p pre [] = tally_insert pre p.node []
tally_placed p pre (x ∷ xs) = by (nat_lt x.node p.node) (tally_placed p (pre ++ x.node ∷ []) xs)
  where
    by : (t : Bool) → tally ((pre ++ x.node ∷ []) ++ map (λ (x : Placed). x.node) (with_placed p xs)) ≡ with_use p.node (tally ((pre ++ x.node ∷ []) ++ map (λ (x : Placed). x.node) xs))
        → tally (pre ++ map (λ (x : Placed). x.node) (cond t (x ∷ with_placed p xs) (p ∷ x ∷ xs))) ≡ with_use p.node (tally (pre ++ x.node ∷ map (λ (x : Placed). x.node) xs))
    by true again = rw (append_assoc pre (x.node ∷ []) (map (λ (x : Placed). x.node) (with_placed p xs)), append_assoc pre (x.node ∷ []) (map (λ (x : Placed). x.node) xs)) at again
    by false again = tally_insert pre p.node (x.node ∷ map (λ (x : Placed). x.node) xs)

-- what a level keeps, with a terminal more
pub kept_placed : (level : VoltageLevel) (uses : List Use) {pairs : List (ℕ × ℕ)} (p : Placed) → IsKept level uses pairs → p.node ≤ max_node → placed_at level p.node ≡ None → length (with_node p.node (nodes level)) ≤ max_nodes → IsKept (placed_in level p) (with_use p.node uses) pairs
kept_placed level uses p k le free few =
    let front = switch_nodes level.switches ++ internal_nodes level.internals in
    record {
      counted = ap (with_use p.node) (k.counted ∙ ap tally (named_is_left level)) ∙ sym (tally_placed p front level.placed) ∙ ap tally (sym (named_is_left (placed_in level p)));
      listed = k.listed;
      within = placed_within level p k.within le free few;
    }

-- a terminal placed and taken away again leaves the list as it was
pub taken_back : (p : Placed) (ps : List Placed) → find (stands_at p.node) ps ≡ None → filter (λ (x : Placed). not (stands_at p.node x)) (with_placed p ps) ≡ ps
unfolding with_placed stands_at
taken_back p [] h = rw (eq-eqb p.node p.node refl) refl
taken_back p (x ∷ ps) h = by (nat_lt x.node p.node) (x.node == p.node) refl h (taken_back p ps) (kept ps)
  where
    kept : (xs : List Placed) → find (λ (x : Placed). x.node == p.node) xs ≡ None → filter (λ (x : Placed). not (x.node == p.node)) xs ≡ xs
    kept [] h = refl
    kept (y ∷ xs) h = one (y.node == p.node) h (kept xs)
      where
        one : (d : Bool) → ◌≡◌ {A = Option Placed} (cond d (Some y) (find (λ (x : Placed). x.node == p.node) xs)) None → (find (λ (x : Placed). x.node == p.node) xs ≡ None → filter (λ (x : Placed). not (x.node == p.node)) xs ≡ xs)
            → cond (not d) (y ∷ filter (λ (x : Placed). not (x.node == p.node)) xs) (filter (λ (x : Placed). not (x.node == p.node)) xs) ≡ y ∷ xs
        one true h again = cc
        one false h again = ap (λ z. y ∷ z) (again h)

    by : (t d : Bool) → (x.node == p.node) ≡ d → ◌≡◌ {A = Option Placed} (cond d (Some x) (find (λ (x : Placed). x.node == p.node) ps)) None
        → (find (λ (x : Placed). x.node == p.node) ps ≡ None → filter (λ (x : Placed). not (x.node == p.node)) (with_placed p ps) ≡ ps)
        → (find (λ (x : Placed). x.node == p.node) ps ≡ None → filter (λ (x : Placed). not (x.node == p.node)) ps ≡ ps)
        → filter (λ (x : Placed). not (x.node == p.node)) (cond t (x ∷ with_placed p ps) (p ∷ x ∷ ps)) ≡ x ∷ ps
    by t true e h again rest = cc
    by true false e h again rest = rw e (ap (λ z. x ∷ z) (again h))
    by false false e h again rest = rw (eq-eqb p.node p.node refl, e) (ap (λ z. x ∷ z) (rest h))
