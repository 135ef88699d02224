-- A terminal taken out, and what the calls on terminals answer.
use Rattle.std.proofs.Common.{◌≡◌, refl, sym, ap, ◌∙◌, subst, ℕ, ℤ, suc, ◌<◌, ◌≤◌, Bool, true, false, cond, not, List, [], ◌∷◌, ◌++◌, length, arith, Option, Some, None, append_assoc, get_or, take, drop}
use Rattle.std.specs.Prelude.{map, nat_lt, ◌==◌, insert, remove, filter, find, Result, Ok, Err, IsSome}
use Rattle.std.specs.List.{list_all}
use Rattle.std.proofs.lemmas.Bool.{and_parts, ltb-true, ne_eqb}
use Rattle.std.proofs.lemmas.Bool.{lt-ltb, le-ltb}
use Rattle.std.proofs.lemmas.List.{map-append}
use Rattle.grid_ids.specs.Refusing.{◌>>=◌, map_fault}
use Rattle.grid_level.specs.declared.Terminal.{Terminal}
use Rattle.grid_level.specs.declared.Stand.{Stand}
use Rattle.grid_level.specs.declared.LevelFault.{LevelFault}
use Rattle.grid_level.specs.declared.LevelFault.TheVariants as faults
use Rattle.grid_level.specs.declared.uses.Use.{Use}
use Rattle.grid_level.specs.declared.Placed.{Placed}
use Rattle.grid_level.specs.VoltageLevel.{VoltageLevel}
use Rattle.grid_level.specs.Uses.{place_among, key_here, with_use, without_use, tally}
use Rattle.grid_level.specs.Passing.{named, nodes, with_node, is_rising, placed_at, stands_at}
use Rattle.grid_level.specs.Kept.{IsKept, IsWithin}
use Rattle.grid_level.specs.LevelEdits.{Unfit, with_placed, max_nodes, node_of, refuse_taken, terminal_fits, level_with_terminal, level_fault_of, refusal_of}
use Rattle.grid_level.proofs.NodeCounts.{Order, below, equal, above, order, tally_remove}
use Rattle.grid_level.proofs.EditUses.{switch_nodes, internal_nodes, placed_nodes}
use Rattle.grid_level.proofs.LevelEdits.{named_is_left, node_of-le, fewer_placed_within}
use Rattle.grid_level.proofs.PlacedTerminals.{fitting_terminal}
use Rattle.grid_level.proofs.CodePromises.{cut_at, map_ok, refused_on}
use Rattle.grid_level.proofs.Places.{here-is}
use Rattle.grid_level.proofs.Terminals.{found_here, none_above, all_above, kept_placed, placed_insert}

-- ---- what stands at its place, and is taken out there

pub found_at : (n : ℕ) (ps : List Placed) (i : ℕ) (x : Placed) → i ≡ place_among (λ (p : Placed). p.node) n ps → key_here (λ (p : Placed). p.node) n ps ≡ true → x ≡ get_or ps i x → find (stands_at n) ps ≡ Some x
found_at n ps i x at h e = found_here n ps x h (e ∙ ap (λ z. get_or ps z x) at)

kept_above : (n : ℕ) (ps : List Placed) → find (stands_at n) ps ≡ None → filter (λ (x : Placed). not (stands_at n x)) ps ≡ ps
unfolding stands_at
kept_above n [] h = refl
kept_above n (y ∷ ps) h = one (y.node == n) h (kept_above n ps)
  where
    one : (d : Bool) → ◌≡◌ {A = Option Placed} (cond d (Some y) (find (λ (x : Placed). x.node == n) ps)) None → (find (λ (x : Placed). x.node == n) ps ≡ None → filter (λ (x : Placed). not (x.node == n)) ps ≡ ps)
        → cond (not d) (y ∷ filter (λ (x : Placed). not (x.node == n)) ps) (filter (λ (x : Placed). not (x.node == n)) ps) ≡ y ∷ ps
    one true h again = cc
    one false h again = ap (λ z. y ∷ z) (again h)

pub record Taken (n : ℕ) (ps : List Placed) : Type 0 where
  pub within : place_among (λ (p : Placed). p.node) n ps < length ps
  pub here : key_here (λ (p : Placed). p.node) n ps ≡ true
  pub rest : remove ps (place_among (λ (p : Placed). p.node) n ps) ≡ filter (λ (x : Placed). not (stands_at n x)) ps

-- where a terminal stands at the node, it is the one at the place
pub taken_at : (n : ℕ) (ps : List Placed) → is_rising (map (λ (p : Placed). p.node) ps) ≡ true → (x : Placed) → find (stands_at n) ps ≡ Some x → Taken n ps
unfolding stands_at is_rising
taken_at n [] r x h = cc
taken_at n (y ∷ ps) r x h = by (order y.node n) h (taken_at n ps parts.1 x)
  where
    parts : (list_all (nat_lt y.node) (map (λ (p : Placed). p.node) ps) ≡ true) × (is_rising (map (λ (p : Placed). p.node) ps) ≡ true)
    parts = and_parts (list_all (nat_lt y.node) (map (λ (p : Placed). p.node) ps)) (is_rising (map (λ (p : Placed). p.node) ps)) r

    by : Order y.node n → ◌≡◌ {A = Option Placed} (cond (y.node == n) (Some y) (find (λ (p : Placed). p.node == n) ps)) (Some x) → (find (λ (p : Placed). p.node == n) ps ≡ Some x → Taken n ps) → Taken n (y ∷ ps)
    by (below l) h again =
        let less : y.node < n = ltb-true y.node n l in
        let other : (y.node == n) ≡ false = ne_eqb y.node n (λ e. omega arith) in
        let t = again (rw other at h) in
        record {
          within = rw l (omega (arith, t.within));
          here = rw l t.here;
          rest = rw (l, other) (ap (λ z. y ∷ z) t.rest);
        }
    by (equal l e same) h again =
        let none : find (stands_at n) ps ≡ None = none_above n ps (subst (λ (z : ℕ). list_all (nat_lt z) (map (λ (p : Placed). p.node) ps) ≡ true) same parts.0) in
        record {
          within = rw l (omega arith);
          here = rw l e;
          rest = rw (l, e) (sym (kept_above n ps none));
        }
    by (above l e g) h again =
        let none : find (stands_at n) ps ≡ None = all_above n y.node ps (ltb-true n y.node g) parts.0 in
        let empty : ◌≡◌ {A = Option Placed} None (Some x) = sym none ∙ rw e at h in
        cc

-- what a level keeps, with the terminal at a place less
pub kept_taken : (level : VoltageLevel) (uses : List Use) {pairs : List (ℕ × ℕ)} (n i : ℕ) (p : Placed) → IsKept level uses pairs → Taken n level.placed → i ≡ place_among (λ (x : Placed). x.node) n level.placed → p ≡ get_or level.placed i p
    → IsKept (record level { placed = remove level.placed i }) (without_use n uses) pairs
kept_taken level uses n i p k t at e =
    let front = switch_nodes level.switches ++ internal_nodes level.internals in
    let before = placed_nodes (take i level.placed) in
    let after = placed_nodes (drop (suc i) level.placed) in
    let left = record level { placed = remove level.placed i } in
    let less : i < length level.placed = omega (arith, t.within) in
    let node : p.node ≡ n = here-is (λ (x : Placed). x.node) n level.placed p t.here (e ∙ ap (λ z. get_or level.placed z p) at) in
    let rest : remove level.placed i ≡ filter (λ (x : Placed). not (stands_at n x)) level.placed = ap (remove level.placed) at ∙ t.rest in
    let cut : level.placed ≡ take i level.placed ++ p ∷ drop (suc i) level.placed = cut_at level.placed i p less e in
    let had : placed_nodes level.placed ≡ before ++ n ∷ after = ap placed_nodes cut ∙ map-append (λ (x : Placed). x.node) (take i level.placed) (p ∷ drop (suc i) level.placed) ∙ ap (λ z. before ++ z ∷ after) node in
    let has : placed_nodes (remove level.placed i) ≡ before ++ after = map-append (λ (x : Placed). x.node) (take i level.placed) (drop (suc i) level.placed) in
    let was : named level ≡ (front ++ before) ++ n ∷ after = named_is_left level ∙ ap (λ z. front ++ z) had ∙ sym (append_assoc front before (n ∷ after)) in
    let is : named left ≡ (front ++ before) ++ after = named_is_left left ∙ ap (λ z. front ++ z) has ∙ sym (append_assoc front before after) in
    record {
      counted = ap (without_use n) (k.counted ∙ ap tally was) ∙ sym (tally_remove (front ++ before) n after) ∙ ap tally (sym is);
      listed = k.listed;
      within = subst (λ (z : List Placed). IsWithin (record level { placed = z })) (sym rest) (fewer_placed_within (λ (x : Placed). not (stands_at n x)) level k.within);
    }

-- ---- what a call answers

pub node_refused : (level : VoltageLevel) (node : ℤ) (fault : LevelFault) → Err fault ≡ map_fault level_fault_of (node_of node) → fault ≡ refusal_of (terminal_fits level node)
unfolding terminal_fits
node_refused level node fault h = refused_on (node_of node) _ fault h

pub taken_refused : (level : VoltageLevel) (node : ℤ) (n : ℕ) (x : Placed) (t : Terminal) → Ok n ≡ map_fault level_fault_of (node_of node) → placed_at level n ≡ Some x → t ≡ x.terminal
    → faults.NodeTaken t ≡ refusal_of (terminal_fits level node)
unfolding terminal_fits refuse_taken refusal_of level_fault_of
taken_refused level node n x t h f e = rw (map_ok (node_of node) n h, f, e) refl

pub many_refused : (level : VoltageLevel) (node : ℤ) (n : ℕ) → Ok n ≡ map_fault level_fault_of (node_of node) → placed_at level n ≡ None → max_nodes < length (with_node n (nodes level))
    → faults.TooManyNodes ≡ refusal_of (terminal_fits level node)
unfolding terminal_fits refuse_taken refusal_of level_fault_of
many_refused level node n h f l = rw (map_ok (node_of node) n h, f, lt-ltb max_nodes (length (with_node n (nodes level))) l) refl

pub fits_done : (level : VoltageLevel) (node : ℤ) (n : ℕ) → Ok n ≡ map_fault level_fault_of (node_of node) → placed_at level n ≡ None → length (with_node n (nodes level)) ≤ max_nodes → terminal_fits level node ≡ Ok n
unfolding terminal_fits refuse_taken
fits_done level node n h f l = rw (map_ok (node_of node) n h, f, le-ltb max_nodes (length (with_node n (nodes level))) l) refl

refusal_on : {A B : Type 0} (r : Result A Unfit) (f : A → B) → refusal_of r ≡ refusal_of (r >>= (λ x. Ok (f x)))
unfolding refusal_of
refusal_on (Ok x) f = refl
refusal_on (Err u) f = refl

pub terminal_refused : (level : VoltageLevel) (node : ℤ) (terminal : Terminal) (stand : Stand) → refusal_of (terminal_fits level node) ≡ refusal_of (level_with_terminal level node terminal stand)
unfolding level_with_terminal
terminal_refused level node terminal stand = refusal_on (terminal_fits level node) _

abbrev pub placed_of : ℕ → Terminal → Stand → Placed
placed_of n terminal stand = record { node = n; terminal = terminal; stand = stand }

pub terminal_done : (level : VoltageLevel) (node : ℤ) (terminal : Terminal) (stand : Stand) (n i : ℕ) (ps : List Placed) → terminal_fits level node ≡ Ok n → i ≡ place_among (λ (p : Placed). p.node) n level.placed
    → ps ≡ insert level.placed i (placed_of n terminal stand) → level_with_terminal level node terminal stand ≡ Ok (record level { placed = ps })
unfolding level_with_terminal
terminal_done level node terminal stand n i ps f at is =
    rw f (ap (λ z. Ok (record level { placed = z })) (placed_insert (placed_of n terminal stand) level.placed ∙ ap (λ z. insert level.placed z (placed_of n terminal stand)) (sym at) ∙ sym is))

pub terminal_kept : (level : VoltageLevel) (uses : List Use) {pairs : List (ℕ × ℕ)} (node : ℤ) (p : Placed) (i : ℕ) → IsKept level uses pairs → terminal_fits level node ≡ Ok p.node → i ≡ place_among (λ (q : Placed). q.node) p.node level.placed
    → IsKept (record level { placed = insert level.placed i p }) (with_use p.node uses) pairs
terminal_kept level uses {pairs} node p i k f at =
    let fits = fitting_terminal level node p.node f in
    let same : with_placed p level.placed ≡ insert level.placed i p = placed_insert p level.placed ∙ ap (λ z. insert level.placed z p) (sym at) in
    subst (λ (z : List Placed). IsKept (record level { placed = z }) (with_use p.node uses) pairs) same (kept_placed level uses p k (node_of-le node p.node fits.at) fits.free fits.few)

pub taken_there : (n : ℕ) (level : VoltageLevel) (uses : List Use) {pairs : List (ℕ × ℕ)} → IsKept level uses pairs → IsSome (placed_at level n) → Taken n level.placed
unfolding placed_at
taken_there n level uses k h = by (find (stands_at n) level.placed) refl h
  where
    by : (o : Option Placed) → find (stands_at n) level.placed ≡ o → IsSome o → Taken n level.placed
    by (Some x) e h = taken_at n level.placed k.within.rise x e
    by None e h = cc
