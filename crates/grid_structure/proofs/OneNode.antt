-- In a sound network the terminal of a side stands at one node of its level.
use Rattle.std.proofs.Common.{◌≡◌, refl, sym, ap, ◌∙◌, ℕ, pos, zero, suc, ◌+◌, ◌≤◌, Bool, true, false, cond, not, ◌&&◌, ◌||◌, List, [], ◌∷◌, arith, Option, Some, None, inl, inr}
use Rattle.std.specs.Prelude.{map, filter, find, slice_get, ◌==◌}
use Rattle.std.specs.List.{list_any}
use Rattle.std.specs.Option.{option_map}
use Rattle.std.proofs.lemmas.Bool.{and_parts, and_from, or_cases, or_left, or_right, eqb-true, eq-eqb, false≢true, true≢false}
use Rattle.grid_lemmas.proofs.Options.{some_is}
use Rattle.grid_ids.specs.Name.{same_id}
use Rattle.grid_ids.proofs.Alike.{same_is}
use Rattle.grid_level.specs.declared.Placed.{Placed}
use Rattle.grid_level.specs.VoltageLevel.{VoltageLevel}
use Rattle.grid_level.specs.Passing.{is_branch_end}
use Rattle.grid_structure.specs.Network.{Network}
use Rattle.grid_structure.specs.Sites.{levels, branches}
use Rattle.grid_structure.specs.Soundness.{IsSound, same_side}
use Rattle.grid_structure.specs.Standing.{stands, HasOneNode}
use Rattle.grid_structure.proofs.Counts.{times}
use Rattle.grid_structure.proofs.Frames.{singles_of, locals}
use Rattle.grid_structure.proofs.Sides.{Side, has, sides_at, sides_of, is_same_side}
use Rattle.grid_structure.proofs.SoundRemovals.{sides_by}
use Rattle.grid_structure.proofs.Uniquely.{names_of_branches, some_branch, one_side, side_in, recorded, branch_once, local_once}

-- ---- what stands at a node is a busbar section or an injection, or a branch end

abbrev single_at : List ℕ → ℕ → Placed → Bool
single_at e n p = not (is_branch_end p.stand) && (same_id e p.terminal.equipment && (p.node == n))

-- which of the two it is
AtNode : List ℕ → ℕ → ℕ → List ℕ → List Placed → Type 0
AtNode e s n id ps = (alone : Bool) × (alone ≡ true → list_any (single_at e n) ps ≡ true) × (alone ≡ false → has (sides_at id ps) (e, s, id, pos n) ≡ true)

at_node : (e : List ℕ) (s n : ℕ) (id : List ℕ) (ps : List Placed) → list_any (stands e s n) ps ≡ true → AtNode e s n id ps
unfolding AtNode
at_node e s n id [] h = absurd (false≢true h)
at_node e s n id (p ∷ ps) h = elim (or_cases (stands e s n p) (list_any (stands e s n) ps) h) [
  | inl a ↦ here (is_branch_end p.stand) a
  | inr a ↦ later (is_branch_end p.stand) (at_node e s n id ps a)
]
  where
    ends : Placed → Bool
    ends p = is_branch_end p.stand

    side : Placed → Side
    side p = (p.terminal.equipment, p.terminal.side, id, pos p.node)

    Goal : Bool → Type 0
    Goal t = (alone : Bool) × (alone ≡ true → ((not t && (same_id e p.terminal.equipment && (p.node == n))) || list_any (single_at e n) ps) ≡ true)
        × (alone ≡ false → has (map side (cond t (p ∷ filter ends ps) (filter ends ps))) (e, s, id, pos n) ≡ true)

    here : (t : Bool) → stands e s n p ≡ true → Goal t
    here t a = by t
      where
        outer : (same_id e p.terminal.equipment && (p.terminal.side == s) ≡ true) × ((p.node == n) ≡ true)
        outer = and_parts (same_id e p.terminal.equipment && (p.terminal.side == s)) (p.node == n) a

        inner : (same_id e p.terminal.equipment ≡ true) × ((p.terminal.side == s) ≡ true)
        inner = and_parts (same_id e p.terminal.equipment) (p.terminal.side == s) outer.0

        by : (t : Bool) → Goal t
        by true =
            let same : e ≡ p.terminal.equipment = same_is e p.terminal.equipment inner.0 in
            let number : p.terminal.side ≡ s = eqb-true p.terminal.side s inner.1 in
            let node : p.node ≡ n = eqb-true p.node n outer.1 in
            let itself : same_side (e, s, id, pos n) (side p) ≡ true = rw (same, ← number, ← node) (is_same_side p.terminal.equipment p.terminal.side id p.node) in
            (false, (λ z. absurd (false≢true z)), λ z. or_left (same_side (e, s, id, pos n) (side p)) _ itself)
        by false = (true, (λ z. or_left (same_id e p.terminal.equipment && (p.node == n)) _ (and_from (same_id e p.terminal.equipment) (p.node == n) inner.0 outer.1)), λ z. absurd (true≢false z))

    later : (t : Bool) → (alone : Bool) × (alone ≡ true → list_any (single_at e n) ps ≡ true) × (alone ≡ false → has (map side (filter ends ps)) (e, s, id, pos n) ≡ true) → Goal t
    later true (alone, single, end) = (alone, single, λ z. or_right (same_side (e, s, id, pos n) (side p)) _ (end z))
    later false (alone, single, end) = (alone, (λ z. or_right (same_id e p.terminal.equipment && (p.node == n)) _ (single z)), end)

-- ---- a busbar section or an injection stands at one node

abbrev names : List Placed → List (List ℕ)
names ps = map (λ (p : Placed). p.terminal.equipment) (filter (λ (p : Placed). not (is_branch_end p.stand)) ps)

counted : (e : List ℕ) (n : ℕ) (ps : List Placed) → list_any (single_at e n) ps ≡ true → 1 ≤ times e (names ps)
counted e n [] h = absurd (false≢true h)
counted e n (p ∷ ps) h = elim (or_cases (single_at e n p) (list_any (single_at e n) ps) h) [
  | inl a ↦ here (is_branch_end p.stand) a
  | inr a ↦ later (is_branch_end p.stand) (counted e n ps a)
]
  where
    rest : List Placed
    rest = filter (λ (p : Placed). not (is_branch_end p.stand)) ps

    here : (t : Bool) → not t && (same_id e p.terminal.equipment && (p.node == n)) ≡ true → 1 ≤ times e (map (λ (p : Placed). p.terminal.equipment) (cond (not t) (p ∷ rest) rest))
    here true a = absurd (false≢true a)
    here false a = let one : ◌≡◌ {A = ℕ} (cond (same_id e p.terminal.equipment) 1 0) 1 = ap (λ t. cond t 1 0) (and_parts (same_id e p.terminal.equipment) (p.node == n) a).0 in omega (arith, one)

    later : (t : Bool) → 1 ≤ times e (map (λ (p : Placed). p.terminal.equipment) rest) → 1 ≤ times e (map (λ (p : Placed). p.terminal.equipment) (cond (not t) (p ∷ rest) rest))
    later true k = k
    later false k = omega (arith, k)

one_single_node : (e : List ℕ) (m n : ℕ) (ps : List Placed) → times e (names ps) ≤ 1 → list_any (single_at e m) ps ≡ true → list_any (single_at e n) ps ≡ true → m ≡ n
one_single_node e m n [] once h g = absurd (false≢true h)
one_single_node e m n (p ∷ ps) once h g = by (is_branch_end p.stand) once h g (one_single_node e m n ps)
  where
    rest : List Placed
    rest = filter (λ (p : Placed). not (is_branch_end p.stand)) ps

    mine : ℕ → Bool
    mine k = same_id e p.terminal.equipment && (p.node == k)

    Again : Type 0
    Again = times e (names ps) ≤ 1 → list_any (single_at e m) ps ≡ true → list_any (single_at e n) ps ≡ true → m ≡ n

    twice : (j k : ℕ) → mine j ≡ true → list_any (single_at e k) ps ≡ true → times e (p.terminal.equipment ∷ names ps) ≤ 1 → ⊥
    twice j k a b once =
        let one : ◌≡◌ {A = ℕ} (cond (same_id e p.terminal.equipment) 1 0) 1 = ap (λ t. cond t 1 0) (and_parts (same_id e p.terminal.equipment) (p.node == j) a).0 in
        omega (arith, once, one, counted e k ps b)

    by : (t : Bool) → times e (map (λ (p : Placed). p.terminal.equipment) (cond (not t) (p ∷ rest) rest)) ≤ 1
        → ((not t && (same_id e p.terminal.equipment && (p.node == m))) || list_any (single_at e m) ps) ≡ true
        → ((not t && (same_id e p.terminal.equipment && (p.node == n))) || list_any (single_at e n) ps) ≡ true → Again → m ≡ n
    by true once h g again = again once h g
    by false once h g again = elim (or_cases (mine m) (list_any (single_at e m) ps) h) [
      | inl a ↦ elim (or_cases (mine n) (list_any (single_at e n) ps) g) [
        | inl b ↦ sym (eqb-true p.node m (and_parts (same_id e p.terminal.equipment) (p.node == m) a).1) ∙ eqb-true p.node n (and_parts (same_id e p.terminal.equipment) (p.node == n) b).1
        | inr b ↦ absurd (twice m n a b once)
      ]
      | inr a ↦ elim (or_cases (mine n) (list_any (single_at e n) ps) g) [
        | inl b ↦ absurd (twice n m b a once)
        | inr b ↦ again (omega (arith, once)) a b
      ]
    ]

-- ---- in a sound network

local_below : (e : List ℕ) (ls : List VoltageLevel) (k : ℕ) (l : VoltageLevel) → slice_get ls k ≡ Some l → times e (singles_of l) ≤ locals e ls
local_below e [] k l at = cc
local_below e (y ∷ ls) zero l at = let same : y ≡ l = cc in omega (arith, ap (λ (z : VoltageLevel). times e (singles_of z)) same)
local_below e (y ∷ ls) (suc k) l at = omega (arith, local_below e ls k l at)

pub one_node : (net : Network) (e : List ℕ) (s k : ℕ) (l : VoltageLevel) → IsSound net → slice_get (levels net) k ≡ Some l → HasOneNode e s l.placed
unfolding AtNode
one_node net e s k l sound at = λ m n h g. by m n (at_node e s m l.id l.placed h) (at_node e s n l.id l.placed g)
  where
    once : locals e (levels net) + times e (names_of_branches (branches net)) ≤ 1
    once = local_once net e sound

    below : times e (singles_of l) ≤ locals e (levels net)
    below = local_below e (levels net) k l at

    side_at : (n : ℕ) → has (sides_of l) (e, s, l.id, pos n) ≡ true → has (sides_by (branches net)) (e, s, l.id, pos n) ≡ true
    side_at n h = recorded net (e, s, l.id, pos n) sound (side_in (levels net) k l (e, s, l.id, pos n) at h)

    mixed : (m n : ℕ) → list_any (single_at e m) l.placed ≡ true → has (sides_of l) (e, s, l.id, pos n) ≡ true → ⊥
    mixed m n a b = omega (arith, once, below, counted e m l.placed a, some_branch (branches net) (e, s, l.id, pos n) (side_at n b))

    which : (m n : ℕ) (t u : Bool) → (t ≡ true → list_any (single_at e m) l.placed ≡ true) → (t ≡ false → has (sides_of l) (e, s, l.id, pos m) ≡ true)
        → (u ≡ true → list_any (single_at e n) l.placed ≡ true) → (u ≡ false → has (sides_of l) (e, s, l.id, pos n) ≡ true) → m ≡ n
    which m n true true a b c d = one_single_node e m n l.placed (omega (arith, once, below)) (a refl) (c refl)
    which m n true false a b c d = absurd (mixed m n (a refl) (d refl))
    which m n false true a b c d = absurd (mixed n m (c refl) (b refl))
    which m n false false a b c d =
        let same : ◌≡◌ {A = Side} (e, s, l.id, pos m) (e, s, l.id, pos n) = one_side (branches net) (e, s, l.id, pos m) (e, s, l.id, pos n) (branch_once net e sound) (side_at m (b refl)) (side_at n (d refl)) refl refl in
        let node : pos m ≡ pos n = ap (λ (z : Side). z.3) same in
        cc

    by : (m n : ℕ) → AtNode e s m l.id l.placed → AtNode e s n l.id l.placed → m ≡ n
    by m n (t, a, b) (u, c, d) = which m n t u a b c d

-- ---- what is found at a node

pub found_stands : (e : List ℕ) (s n : ℕ) (p : Placed) (ps : List Placed) → find (λ (q : Placed). q.node == n) ps ≡ Some p → same_id e p.terminal.equipment && (p.terminal.side == s) ≡ true → list_any (stands e s n) ps ≡ true
found_stands e s n p [] at h = cc
found_stands e s n p (q ∷ ps) at h = by (q.node == n) refl at (found_stands e s n p ps)
  where
    mine : Bool
    mine = same_id e q.terminal.equipment && (q.terminal.side == s)

    by : (t : Bool) → (q.node == n) ≡ t → ◌≡◌ {A = Option Placed} (cond t (Some q) (find (λ (q : Placed). q.node == n) ps)) (Some p)
        → (find (λ (q : Placed). q.node == n) ps ≡ Some p → same_id e p.terminal.equipment && (p.terminal.side == s) ≡ true → list_any (stands e s n) ps ≡ true) → list_any (stands e s n) (q ∷ ps) ≡ true
    by true t at again =
        let same : q ≡ p = some_is q p at in
        or_left (stands e s n q) (list_any (stands e s n) ps) (and_from mine (q.node == n) (ap (λ (z : Placed). same_id e z.terminal.equipment && (z.terminal.side == s)) same ∙ h) t)
    by false t at again = or_right (stands e s n q) (list_any (stands e s n) ps) (again at h)

-- ---- a walk finds that one node

abbrev is_side : List ℕ → ℕ → Placed → Bool
is_side e s p = same_id e p.terminal.equipment && (p.terminal.side == s)

first_stands : (e : List ℕ) (s : ℕ) (q : Placed) (ps : List Placed) → find (is_side e s) ps ≡ Some q → list_any (stands e s q.node) ps ≡ true
first_stands e s q [] h = cc
first_stands e s q (p ∷ ps) h = by (is_side e s p) refl h (first_stands e s q ps)
  where
    by : (t : Bool) → is_side e s p ≡ t → ◌≡◌ {A = Option Placed} (cond t (Some p) (find (is_side e s) ps)) (Some q) → (find (is_side e s) ps ≡ Some q → list_any (stands e s q.node) ps ≡ true)
        → list_any (stands e s q.node) (p ∷ ps) ≡ true
    by true t h again =
        let same : p.node ≡ q.node = ap (λ (z : Placed). z.node) (some_is p q h) in
        or_left (stands e s q.node p) (list_any (stands e s q.node) ps) (and_from (is_side e s p) (p.node == q.node) t (eq-eqb p.node q.node same))
    by false t h again = or_right (stands e s q.node p) (list_any (stands e s q.node) ps) (again h)

none_stands : (e : List ℕ) (s n : ℕ) (ps : List Placed) → find (is_side e s) ps ≡ None → list_any (stands e s n) ps ≡ false
none_stands e s n [] h = refl
none_stands e s n (p ∷ ps) h = by (is_side e s p) h (none_stands e s n ps)
  where
    by : (t : Bool) → ◌≡◌ {A = Option Placed} (cond t (Some p) (find (is_side e s) ps)) None → (find (is_side e s) ps ≡ None → list_any (stands e s n) ps ≡ false)
        → (t && (p.node == n)) || list_any (stands e s n) ps ≡ false
    by true h again = cc
    by false h again = again h

pub walk_finds : (e : List ℕ) (s n : ℕ) (ps : List Placed) → HasOneNode e s ps → list_any (stands e s n) ps ≡ true → option_map (λ (p : Placed). p.node) (find (is_side e s) ps) ≡ Some n
walk_finds e s n ps one h = by (find (is_side e s) ps) refl
  where
    by : (o : Option Placed) → find (is_side e s) ps ≡ o → option_map (λ (p : Placed). p.node) o ≡ Some n
    by (Some q) found = ap (λ z. Some z) (one q.node n (first_stands e s q ps found) h)
    by None found = absurd (false≢true (sym (none_stands e s n ps found) ∙ h))
