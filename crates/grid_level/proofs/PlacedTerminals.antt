-- What a placed terminal makes of a level's rules.
use Rattle.std.proofs.Common.{◌≡◌, refl, ap, ◌∙◌, subst, ℕ, ℤ, ◌≤◌, Bool, true, false, cond, ◌&&◌, List, [], ◌∷◌, ◌++◌, length, Option, Some, None, append_assoc}
use Rattle.std.specs.Prelude.{map, nat_lt, nat_le, ◌==◌, find, Ok}
use Rattle.std.specs.List.{list_all}
use Rattle.std.proofs.lemmas.Bool.{and_from, le-leb, ltb-false}
use Rattle.grid_lemmas.proofs.Bools.{and_swap}
use Rattle.grid_ids.specs.Refusing.{refuse_if}
use Rattle.grid_level.specs.declared.Placed.{Placed}
use Rattle.grid_level.specs.declared.Terminal.{Terminal}
use Rattle.grid_level.specs.declared.Stand.{Stand}
use Rattle.grid_level.specs.VoltageLevel.{VoltageLevel}
use Rattle.grid_level.specs.Passing.{edges, named, nodes, with_node, rising, placed_at, stands_at}
use Rattle.grid_level.specs.LevelEdits.{too_many_nodes, max_node, max_nodes, node_of, terminal_fits, level_with_terminal, with_placed, refuse_taken}
use Rattle.grid_level.specs.Sound.{stand_passes}
use Rattle.grid_level.specs.Kept.{IsWithin}
use Rattle.grid_level.proofs.NodeCounts.{rising_insert}
use Rattle.grid_level.proofs.Places.{list_all-with_node, rising-with_node}
use Rattle.grid_level.proofs.EditUses.{switch_nodes, internal_nodes, placed_nodes}
use Rattle.grid_level.proofs.LevelEdits.{Passes, went, not_refused, all_parts, all_join, named_is_left}

abbrev pub placed_in : VoltageLevel → Placed → VoltageLevel
placed_in level p = record level { placed = with_placed p level.placed }

pub record Places (level new : VoltageLevel) (node : ℤ) (terminal : Terminal) (stand : Stand) : Type 0 where
  pub number : ℕ
  pub at : node_of node ≡ Ok number
  pub free : placed_at level number ≡ None
  pub few : length (with_node number (nodes level)) ≤ max_nodes
  pub is : placed_in level (record { node = number; terminal = terminal; stand = stand }) ≡ new

none_taken : (o : Option Placed) (u : Unit {0}) → refuse_taken o ≡ Ok u → o ≡ None
unfolding refuse_taken
none_taken (Some p) u h = cc
none_taken None u h = refl

-- a new terminal's node has room
pub record FitsTerminal (level : VoltageLevel) (node : ℤ) (number : ℕ) : Type 0 where
  pub at : node_of node ≡ Ok number
  pub free : placed_at level number ≡ None
  pub few : length (with_node number (nodes level)) ≤ max_nodes

pub fitting_terminal : (level : VoltageLevel) (node : ℤ) (number : ℕ) → terminal_fits level node ≡ Ok number → FitsTerminal level node number
unfolding terminal_fits
fitting_terminal level node number h =
    let a = went (node_of node) _ number h in
    let t = went (refuse_taken (placed_at level a.value)) _ number a.next in
    let n = went (refuse_if (nat_lt max_nodes (length (with_node a.value (nodes level)))) too_many_nodes) _ number t.next in
    let same : a.value ≡ number = cc (n.next) in
    let fits : FitsTerminal level node a.value = record { at = a.is; free = none_taken _ _ t.is; few = ltb-false _ _ (not_refused _ _ _ n.is) } in
    subst (λ (z : ℕ). FitsTerminal level node z) same fits

pub placing : (level : VoltageLevel) (node : ℤ) (terminal : Terminal) (stand : Stand) (new : VoltageLevel) → level_with_terminal level node terminal stand ≡ Ok new → Places level new node terminal stand
unfolding level_with_terminal
placing level node terminal stand new h =
    let f = went (terminal_fits level node) _ new h in
    let k = fitting_terminal level node f.value f.is in
    let same : placed_in level (record { node = f.value; terminal = terminal; stand = stand }) ≡ new = cc (f.next) in
    record { number = f.value; at = k.at; free = k.free; few = k.few; is = same }

pub rising_placed : (p : Placed) (pre : List ℕ) (ps : List Placed) → rising (pre ++ map (λ (x : Placed). x.node) (with_placed p ps)) ≡ with_node p.node (rising (pre ++ map (λ (x : Placed). x.node) ps))
unfolding with_placed
rising_placed p pre [] = rising_insert pre p.node []
rising_placed p pre (x ∷ xs) = by (nat_lt x.node p.node) (rising_placed p (pre ++ x.node ∷ []) xs)
  where
    by : (t : Bool) → rising ((pre ++ x.node ∷ []) ++ map (λ (x : Placed). x.node) (with_placed p xs)) ≡ with_node p.node (rising ((pre ++ x.node ∷ []) ++ map (λ (x : Placed). x.node) xs))
        → rising (pre ++ map (λ (x : Placed). x.node) (cond t (x ∷ with_placed p xs) (p ∷ x ∷ xs))) ≡ with_node p.node (rising (pre ++ x.node ∷ map (λ (x : Placed). x.node) xs))
    by true again = rw (append_assoc pre (x.node ∷ []) (map (λ (x : Placed). x.node) (with_placed p xs)), append_assoc pre (x.node ∷ []) (map (λ (x : Placed). x.node) xs)) at again
    by false again = rising_insert pre p.node (x.node ∷ map (λ (x : Placed). x.node) xs)

all_placed : (t : Placed → Bool) (p : Placed) (ps : List Placed) → list_all t (with_placed p ps) ≡ (t p && list_all t ps)
unfolding with_placed
all_placed t p [] = refl
all_placed t p (x ∷ xs) = by (nat_lt x.node p.node) (all_placed t p xs)
  where
    by : (b : Bool) → list_all t (with_placed p xs) ≡ (t p && list_all t xs) → list_all t (cond b (x ∷ with_placed p xs) (p ∷ x ∷ xs)) ≡ (t p && (t x && list_all t xs))
    by true again = ap (λ z. t x && z) again ∙ and_swap (t x) (t p) (list_all t xs)
    by false again = refl

-- where the node is free, its number goes into the rising list
pub nodes_placed : (p : Placed) (ps : List Placed) → find (stands_at p.node) ps ≡ None → map (λ (x : Placed). x.node) (with_placed p ps) ≡ with_node p.node (map (λ (x : Placed). x.node) ps)
unfolding with_placed with_node stands_at
nodes_placed p [] h = refl
nodes_placed p (x ∷ xs) h = by (nat_lt x.node p.node) (x.node == p.node) refl h (nodes_placed p xs)
  where
    by : (b t : Bool) → (x.node == p.node) ≡ t → ◌≡◌ {A = Option Placed} (cond t (Some x) (find (λ (y : Placed). y.node == p.node) xs)) None
        → (find (λ (y : Placed). y.node == p.node) xs ≡ None → map (λ (x : Placed). x.node) (with_placed p xs) ≡ with_node p.node (map (λ (x : Placed). x.node) xs))
        → map (λ (x : Placed). x.node) (cond b (x ∷ with_placed p xs) (p ∷ x ∷ xs)) ≡ cond b (x.node ∷ with_node p.node (map (λ (x : Placed). x.node) xs)) (cond t (x.node ∷ map (λ (x : Placed). x.node) xs) (p.node ∷ x.node ∷ map (λ (x : Placed). x.node) xs))
    by b true e h again = cc
    by true false e h again = ap (λ z. x.node ∷ z) (again h)
    by false false e h again = refl

pub placed_within : (level : VoltageLevel) (p : Placed) → IsWithin level → p.node ≤ max_node → placed_at level p.node ≡ None → length (with_node p.node (nodes level)) ≤ max_nodes → IsWithin (placed_in level p)
unfolding nodes edges placed_at
placed_within level p k le free few =
    let first = switch_nodes level.switches ++ internal_nodes level.internals in
    let old = named_is_left level in
    let new : named (placed_in level p) ≡ first ++ placed_nodes (with_placed p level.placed) = named_is_left (placed_in level p) in
    let range = all_parts (λ n. nat_le n max_node) first (placed_nodes level.placed) (rw old at k.in_range) in
    record {
      in_range = rw (new, nodes_placed p level.placed free) (all_join (λ n. nat_le n max_node) first (with_node p.node (placed_nodes level.placed)) range.0
          (rw (list_all-with_node (λ n. nat_le n max_node) p.node (placed_nodes level.placed)) (and_from _ _ (le-leb p.node max_node le) range.1)));
      few_nodes = rw (new, rising_placed p first level.placed) (rw old at few);
      few_edges = k.few_edges;
      differ = k.differ;
      rise = rw (nodes_placed p level.placed free) (rising-with_node p.node (placed_nodes level.placed) k.rise);
    }

pub placed_passes_on : (level : VoltageLevel) (p : Placed) → Passes level → p.node ≤ max_node → placed_at level p.node ≡ None → length (with_node p.node (nodes level)) ≤ max_nodes
    → stand_passes p ≡ true → Passes (placed_in level p)
placed_passes_on level p k le free few good = record { within = placed_within level p k.within le free few; stands = rw (all_placed stand_passes p level.placed) (and_from _ _ good k.stands); volts = k.volts }

-- ---- what stands at the terminals of one kind

-- what does not depend on the order takes the new terminal as if it stood first
pub rearranged : {B : Type 0} (F : List Placed → B) → ((x y : Placed) (xs : List Placed) → F (x ∷ y ∷ xs) ≡ F (y ∷ x ∷ xs))
    → ((x : Placed) (xs ys : List Placed) → F xs ≡ F ys → F (x ∷ xs) ≡ F (x ∷ ys)) → (p : Placed) (ps : List Placed) → F (with_placed p ps) ≡ F (p ∷ ps)
unfolding with_placed
rearranged F swap more p [] = refl
rearranged F swap more p (x ∷ xs) = by (nat_lt x.node p.node) (rearranged F swap more p xs)
  where
    by : (b : Bool) → F (with_placed p xs) ≡ F (p ∷ xs) → F (cond b (x ∷ with_placed p xs) (p ∷ x ∷ xs)) ≡ F (p ∷ x ∷ xs)
    by true again = more x (with_placed p xs) (p ∷ xs) again ∙ swap x p xs
    by false again = refl
