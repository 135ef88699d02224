-- A branch end that is placed in a level that is being loaded.
use Rattle.std.proofs.Common.{◌≡◌, refl, sym, ap, ◌∙◌, subst, ℕ, pos, ◌<◌, ◌≤◌, Bool, true, false, cond, not, ◌||◌, List, [], ◌∷◌, ◌++◌, length, arith, None, inl, inr}
use Rattle.std.specs.Prelude.{map, filter, find, nat_lt, nat_le, ◌==◌, Ok}
use Rattle.std.specs.List.{list_all}
use Rattle.std.proofs.lemmas.Bool.{and_parts, or_cases, ltb-true, le-ltb, ne_eqb, false≢true}
use Rattle.grid_lemmas.proofs.Bools.{and_false, or_false}
use Rattle.grid_ids.specs.Name.{same_id}
use Rattle.grid_level.specs.declared.Placed.{Placed}
use Rattle.grid_level.specs.declared.Stand.{Stand}
use Rattle.grid_level.specs.declared.Stand.TheVariants.{Busbar, Feeder, BranchEnd}
use Rattle.grid_level.specs.VoltageLevel.{VoltageLevel}
use Rattle.grid_level.specs.Passing.{is_branch_end, is_rising, stands_at, placed_at, nodes, named, rising, with_node}
use Rattle.grid_level.specs.LevelEdits.{level_with_terminal, terminal_fits, node_of, refuse_taken, with_placed, max_node, max_nodes}
use Rattle.grid_level.specs.Sound.{level_passes}
use Rattle.grid_level.proofs.LevelEdits as on_level
use Rattle.grid_level.proofs.EditUses.{switch_nodes, internal_nodes, placed_nodes}
use Rattle.grid_level.proofs.PlacedTerminals.{rising_placed}
use Rattle.grid_level.proofs.Terminals.{none_above}
use Rattle.grid_structure.specs.Soundness.{same_side, same_int}
use Rattle.grid_structure.proofs.Sides.{Side, has, has-append, side_of, sides_at, sides_of, same_side_is, is_same_side}

-- what stands there once these sides are loaded: all but the other branch ends
abbrev pub stays : List Side → VoltageLevel → Placed → Bool
stays loaded l p = not (is_branch_end p.stand) || has loaded (side_of l p)

abbrev pub kept : List Side → VoltageLevel → VoltageLevel
kept loaded l = record l { placed = filter (stays loaded l) l.placed }

-- ---- lists by rising node

at_node : (t : ℕ → Bool) (before after : List Placed) (p : Placed) → list_all t (placed_nodes (before ++ p ∷ after)) ≡ true → t p.node ≡ true
at_node t [] after p h = (and_parts (t p.node) (list_all t (placed_nodes after)) h).0
at_node t (y ∷ before) after p h = at_node t before after p (and_parts (t y.node) (list_all t (placed_nodes (before ++ p ∷ after))) h).1

nodes_filter : (t : ℕ → Bool) (q : Placed → Bool) (ps : List Placed) → list_all t (placed_nodes ps) ≡ true → list_all t (placed_nodes (filter q ps)) ≡ true
nodes_filter t q [] h = refl
nodes_filter t q (p ∷ ps) h = let parts = and_parts (t p.node) (list_all t (placed_nodes ps)) h in by (q p) parts.0 (nodes_filter t q ps parts.1)
  where
    by : (b : Bool) → t p.node ≡ true → list_all t (placed_nodes (filter q ps)) ≡ true → list_all t (placed_nodes (cond b (p ∷ filter q ps) (filter q ps))) ≡ true
    by true here again = rw here again
    by false here again = again

placed_first : (p : Placed) (ps : List Placed) → list_all (nat_lt p.node) (placed_nodes ps) ≡ true → with_placed p ps ≡ p ∷ ps
unfolding with_placed
placed_first p [] h = refl
placed_first p (y ∷ ps) h = let l : p.node < y.node = ltb-true p.node y.node (and_parts (nat_lt p.node y.node) (list_all (nat_lt p.node) (placed_nodes ps)) h).0 in rw (le-ltb y.node p.node (omega arith)) refl

abbrev SameBut : ℕ → (Placed → Bool) → (Placed → Bool) → Type 0
SameBut n q r = (y : Placed) → (y.node == n) ≡ false → r y ≡ q y

same_above : (q r : Placed → Bool) (n : ℕ) (ps : List Placed) → SameBut n q r → list_all (nat_lt n) (placed_nodes ps) ≡ true → filter q ps ≡ filter r ps
same_above q r n [] same h = refl
same_above q r n (y ∷ ps) same h =
    let parts = and_parts (nat_lt n y.node) (list_all (nat_lt n) (placed_nodes ps)) h in
    let l : n < y.node = ltb-true n y.node parts.0 in
    let here : r y ≡ q y = same y (ne_eqb y.node n (λ e. omega arith)) in
    rw (here, same_above q r n ps same parts.1) refl

-- what is inserted where it was left out
inserted : (q r : Placed → Bool) (p : Placed) (before after : List Placed) → is_rising (placed_nodes (before ++ p ∷ after)) ≡ true → q p ≡ false → r p ≡ true → SameBut p.node q r
    → with_placed p (filter q (before ++ p ∷ after)) ≡ filter r (before ++ p ∷ after)
unfolding is_rising with_placed
inserted q r p [] after h out has_it same =
    let above = (and_parts (list_all (nat_lt p.node) (placed_nodes after)) (is_rising (placed_nodes after)) h).0 in
    rw (out, has_it) (placed_first p (filter q after) (nodes_filter (nat_lt p.node) q after above) ∙ ap (λ z. p ∷ z) (same_above q r p.node after same above))
inserted q r p (y ∷ before) after h out has_it same =
    let rest = before ++ p ∷ after in
    let parts = and_parts (list_all (nat_lt y.node) (placed_nodes rest)) (is_rising (placed_nodes rest)) h in
    let less : nat_lt y.node p.node ≡ true = at_node (nat_lt y.node) before after p parts.0 in
    let l : y.node < p.node = ltb-true y.node p.node less in
    let here : r y ≡ q y = same y (ne_eqb y.node p.node (λ e. omega arith)) in
    rw here (by (q y) less (inserted q r p before after parts.1 out has_it same))
  where
    by : (t : Bool) → nat_lt y.node p.node ≡ true → with_placed p (filter q (before ++ p ∷ after)) ≡ filter r (before ++ p ∷ after)
        → with_placed p (cond t (y ∷ filter q (before ++ p ∷ after)) (filter q (before ++ p ∷ after))) ≡ cond t (y ∷ filter r (before ++ p ∷ after)) (filter r (before ++ p ∷ after))
    by true less again = rw less (ap (λ z. y ∷ z) again)
    by false less again = again

left_free : (q : Placed → Bool) (p : Placed) (before after : List Placed) → is_rising (placed_nodes (before ++ p ∷ after)) ≡ true → q p ≡ false → find (stands_at p.node) (filter q (before ++ p ∷ after)) ≡ None
unfolding is_rising stands_at
left_free q p [] after h out =
    let above = (and_parts (list_all (nat_lt p.node) (placed_nodes after)) (is_rising (placed_nodes after)) h).0 in
    rw out (none_above p.node (filter q after) (nodes_filter (nat_lt p.node) q after above))
left_free q p (y ∷ before) after h out =
    let rest = before ++ p ∷ after in
    let parts = and_parts (list_all (nat_lt y.node) (placed_nodes rest)) (is_rising (placed_nodes rest)) h in
    let l : y.node < p.node = ltb-true y.node p.node (at_node (nat_lt y.node) before after p parts.0) in
    by (q y) (ne_eqb y.node p.node (λ e. omega arith)) (left_free q p before after parts.1 out)
  where
    by : (t : Bool) → (y.node == p.node) ≡ false → find (λ (x : Placed). x.node == p.node) (filter q (before ++ p ∷ after)) ≡ None
        → find (λ (x : Placed). x.node == p.node) (cond t (y ∷ filter q (before ++ p ∷ after)) (filter q (before ++ p ∷ after))) ≡ None
    by true apart again = rw apart again
    by false apart again = again

-- ---- a side of a level

record Ends_at (id : List ℕ) (ps : List Placed) (x : Side) : Type 0 where
  pub before : List Placed
  pub item : Placed
  pub after : List Placed
  pub is : ps ≡ before ++ item ∷ after
  pub end : is_branch_end item.stand ≡ true
  pub side : x ≡ (item.terminal.equipment, item.terminal.side, id, pos item.node)

ends_at : (id : List ℕ) (ps : List Placed) (x : Side) → has (sides_at id ps) x ≡ true → Ends_at id ps x
ends_at id [] x h = absurd (false≢true h)
ends_at id (p ∷ ps) x h = by (is_branch_end p.stand) refl h (ends_at id ps x)
  where
    later : Ends_at id ps x → Ends_at id (p ∷ ps) x
    later k = record { before = p ∷ k.before; item = k.item; after = k.after; is = ap (λ z. p ∷ z) k.is; end = k.end; side = k.side }

    by : (t : Bool) → is_branch_end p.stand ≡ t
        → has (map (λ (p : Placed). (p.terminal.equipment, p.terminal.side, id, pos p.node)) (cond t (p ∷ filter (λ (p : Placed). is_branch_end p.stand) ps) (filter (λ (p : Placed). is_branch_end p.stand) ps))) x ≡ true
        → (has (sides_at id ps) x ≡ true → Ends_at id ps x) → Ends_at id (p ∷ ps) x
    by true e h again = elim (or_cases (same_side x (p.terminal.equipment, p.terminal.side, id, pos p.node)) (has (sides_at id ps) x) h) [
      | inl s ↦ record { before = []; item = p; after = ps; is = refl; end = e; side = same_side_is x (p.terminal.equipment, p.terminal.side, id, pos p.node) s }
      | inr s ↦ later (again s)
    ]
    by false e h again = later (again h)

pub side_level : (id : List ℕ) (ps : List Placed) (x : Side) → has (sides_at id ps) x ≡ true → x.2 ≡ id
side_level id ps x h = ap (λ (z : Side). z.2) (ends_at id ps x h).side

end_is : (stand : Stand) → is_branch_end stand ≡ true → stand ≡ BranchEnd
unfolding is_branch_end
end_is Busbar h = absurd (false≢true h)
end_is (Feeder item) h = absurd (false≢true h)
end_is BranchEnd h = refl

-- a side more is no side of another node
other_node : (id : List ℕ) (y p : Placed) → (y.node == p.node) ≡ false → same_side (y.terminal.equipment, y.terminal.side, id, pos y.node) (p.terminal.equipment, p.terminal.side, id, pos p.node) ≡ false
unfolding same_side same_int
other_node id y p h =
    rw (h, and_false (same_id id id), and_false (y.terminal.side == p.terminal.side)) (and_false (same_id y.terminal.equipment p.terminal.equipment))

pub one_more : (loaded : List Side) (x s : Side) → has (loaded ++ s ∷ []) x ≡ (has loaded x || same_side x s)
one_more loaded x s = has-append loaded (s ∷ []) x ∙ ap (λ z. has loaded x || z) (or_false (same_side x s))

-- ---- the end that is placed

end_placed : (l : VoltageLevel) (loaded : List Side) (before after : List Placed) (p : Placed) → level_passes l ≡ true → l.placed ≡ before ++ p ∷ after → is_branch_end p.stand ≡ true → has loaded (side_of l p) ≡ false
    → level_with_terminal (kept loaded l) (pos p.node) p.terminal BranchEnd ≡ Ok (kept (loaded ++ side_of l p ∷ []) l)
unfolding level_with_terminal terminal_fits node_of placed_at nodes refuse_taken
end_placed l loaded before after p passes is end fresh =
    let q = stays loaded l in
    let r = stays (loaded ++ side_of l p ∷ []) l in
    let within = (on_level.passes_of l passes).within in
    let first = switch_nodes l.switches ++ internal_nodes l.internals in
    let out : q p ≡ false = rw (end, fresh) refl in
    let here : r p ≡ true = rw (end, one_more loaded (side_of l p) (side_of l p), fresh) (is_same_side p.terminal.equipment p.terminal.side l.id p.node) in
    let same : SameBut p.node q r = λ y e. ap (λ z. not (is_branch_end y.stand) || z) (one_more loaded (side_of l y) (side_of l p) ∙ ap (λ z. has loaded (side_of l y) || z) (other_node l.id y p e) ∙ or_false (has loaded (side_of l y))) in
    let rise : is_rising (placed_nodes (before ++ p ∷ after)) ≡ true = subst (λ (z : List Placed). is_rising (placed_nodes z) ≡ true) is within.rise in
    let put : with_placed p (filter q l.placed) ≡ filter r l.placed = subst (λ (z : List Placed). with_placed p (filter q z) ≡ filter r z) (sym is) (inserted q r p before after rise out here same) in
    let free : find (stands_at p.node) (filter q l.placed) ≡ None = subst (λ (z : List Placed). find (stands_at p.node) (filter q z) ≡ None) (sym is) (left_free q p before after rise out) in
    let named_in : list_all (λ n. nat_le n max_node) (first ++ placed_nodes l.placed) ≡ true = rw (on_level.named_is_left l) at within.in_range in
    let in_range : list_all (λ n. nat_le n max_node) (placed_nodes (before ++ p ∷ after)) ≡ true = subst (λ (z : List Placed). list_all (λ n. nat_le n max_node) (placed_nodes z) ≡ true) is (on_level.all_parts (λ n. nat_le n max_node) first (placed_nodes l.placed) named_in).1 in
    let low : nat_le p.node max_node ≡ true = at_node (λ n. nat_le n max_node) before after p in_range in
    let more : rising (first ++ placed_nodes (with_placed p (filter q l.placed))) ≡ with_node p.node (rising (first ++ placed_nodes (filter q l.placed))) = rising_placed p first (filter q l.placed) in
    let few : length (rising (named (kept (loaded ++ side_of l p ∷ []) l))) ≤ max_nodes = (on_level.fewer_placed_within r l within).few_nodes in
    let many : rising (named (kept (loaded ++ side_of l p ∷ []) l)) ≡ with_node p.node (rising (named (kept loaded l))) =
    ap rising (on_level.named_is_left (kept (loaded ++ side_of l p ∷ []) l)) ∙ ap (λ z. rising (first ++ placed_nodes z)) (sym put) ∙ more ∙ ap (λ z. with_node p.node (rising z)) (sym (on_level.named_is_left (kept loaded l))) in
    let room : nat_lt max_nodes (length (with_node p.node (rising (named (kept loaded l))))) ≡ false = le-ltb max_nodes (length (with_node p.node (rising (named (kept loaded l))))) (omega (arith, few, ap length many)) in
    let new : ◌≡◌ {A = Placed} (record { node = p.node; terminal = p.terminal; stand = BranchEnd }) p = ap (λ (z : Stand). record p { stand = z }) (sym (end_is p.stand end)) in
    rw (low, free, room) (ap (λ (z : Placed). Ok (record l { placed = with_placed z (filter q l.placed) })) new ∙ ap (λ (z : List Placed). Ok (record l { placed = z })) put)

-- a side of a sound level that is not loaded yet is placed at its node, and the rest stays
pub end_fits : (l : VoltageLevel) (loaded : List Side) (x : Side) → level_passes l ≡ true → has (sides_of l) x ≡ true → has loaded x ≡ false
    → level_with_terminal (kept loaded l) x.3 (record { equipment = x.0; side = x.1 }) BranchEnd ≡ Ok (kept (loaded ++ x ∷ []) l)
end_fits l loaded x passes there fresh =
    let k = ends_at l.id l.placed x there in
    subst (λ (z : Side). has loaded z ≡ false → level_with_terminal (kept loaded l) z.3 (record { equipment = z.0; side = z.1 }) BranchEnd ≡ Ok (kept (loaded ++ z ∷ []) l)) (sym k.side)
    (end_placed l loaded k.before k.after k.item passes k.is k.end) fresh
