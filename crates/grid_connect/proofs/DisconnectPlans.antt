-- Once the switches that leave the core are opened, the node is joined to no busbar section.
use Rattle.std.proofs.Common.{◌≡◌, refl, sym, ap, ◌∙◌, subst, ℕ, zero, suc, ◌+◌, ◌<◌, Bool, true, false, cond, not, ◌&&◌, ◌||◌, List, [], ◌∷◌, ◌++◌, length, inl, inr, ◌⊎◌, arith}
use Rattle.std.specs.Prelude.{Option, Some, None, eqb, slice_get, map, filter, find}
use Rattle.std.specs.List.{list_any, enumerate_from}
use Rattle.std.proofs.lemmas.Bool.{false≢true, true≢false, both_ways, or_cases, and_parts, eqb-true, eq-eqb}
use Rattle.grid_lemmas.proofs.Bools.{not_if, or_left, or_right}
use Rattle.grid_graph.specs.Joined.{neighbours, joined}
use Rattle.grid_graph.proofs.Reach.{In, any_from, Walk, Walk_within, within_saturates, within_step, within_here, joined_trans, joined_refl}
use Rattle.grid_level.specs.declared.Switch.{Switch}
use Rattle.grid_level.specs.declared.Placed.{Placed}
use Rattle.grid_level.specs.VoltageLevel.{VoltageLevel}
use Rattle.grid_level.specs.Passing.{Rule, bus, core, Edge, switch_edge, internal_edge, edges, ends, nodes, passing, passes_closed, switch_passes, joined_under, is_connected, carries_busbar, is_busbar, is_operable, stands_at, placed_among}
use Rattle.grid_paths.specs.Paths.{has_node, across}
use Rattle.grid_paths.proofs.Least.{some_same, some_none}
use Rattle.grid_paths.proofs.RouteCosts.{across_ends}
use Rattle.grid_connect.specs.Plans.{all_ends, core_of, core_busbar, leaves_core, leaving, opens_or, disconnect_plan_of}
use Rattle.grid_connect.specs.Effects.{moved, with_moved, Disconnects}
use Rattle.grid_connect.specs.declared.DisconnectPlan.TheVariants.{AlreadyDisconnected}
use Rattle.grid_graph.proofs.Least.{In_filter}
use Rattle.grid_groups.proofs.Lists.{filter_passes}
use Rattle.grid_connect.proofs.Bridge.{lets_at, find_place, place_gives, neighbour_end, ends_all}
use Rattle.grid_connect.proofs.ConnectPlans.{ends_are_nodes}
use Rattle.grid_connect.proofs.ClearPaths.{has_In, level_holds}
use Rattle.grid_connect.proofs.SwitchPositions.{all_ends_stay, nodes_stay}

-- ---- the core is closed under what the core rule lets pass

neighbour_node : (rule : Rule) (level : VoltageLevel) (u c : ℕ) → In c (neighbours (passing rule level) u) → In c (nodes level)
neighbour_node rule level u c i = has_In (nodes level) c (ends_are_nodes level c (neighbour_end rule level u c i))

core_on : (level : VoltageLevel) (a u c : ℕ) → In a (nodes level) → In u (nodes level) → joined_under core level a u ≡ true → In c (neighbours (passing core level) u) → joined_under core level a c ≡ true
unfolding joined_under
core_on level a u c i j h n =
    let pairs = passing core level in
    let holds = level_holds core level in
    let one = within_saturates (nodes level) pairs holds 1 u c j (within_step pairs 0 u c c n (within_here pairs 0 c)) in
    joined_trans (nodes level) pairs holds a u c i h one

-- ---- membership in the core

has_kept : (test : ℕ → Bool) (ns : List ℕ) (n : ℕ) → In n ns → test n ≡ true → has_node (filter test ns) n ≡ true
unfolding has_node
has_kept test ns n i h = In_filter test n ns i h

kept_test : (test : ℕ → Bool) (ns : List ℕ) (n : ℕ) → has_node (filter test ns) n ≡ true → test n ≡ true
unfolding has_node
kept_test test ns n h = filter_passes test n ns h

-- ---- what is opened

record Stays (places : List ℕ) (k p : ℕ) (s : Switch) : Type 0 where
  closed : not s.opened ≡ true
  unnamed : has_node places (k + p) ≡ false

stays_by : (places : List ℕ) (k : ℕ) (t : Bool) (s : Switch) → has_node places k ≡ t → lets_at bus (Some (cond t (record s { opened = true }) s)) ≡ true → (not s.opened ≡ true) × (t ≡ false)
unfolding lets_at switch_passes passes_closed
stays_by places k true s e h = absurd (false≢true h)
stays_by places k false s e h = ((and_parts (not s.opened) true h).0, refl)

stays_at : (places : List ℕ) (k : ℕ) (sw : List Switch) (p : ℕ) (s : Switch) → slice_get sw p ≡ Some s → lets_at bus (slice_get (moved places true k sw) p) ≡ true → Stays places k p s
unfolding moved
stays_at places k [] p s e h = absurd (some_none s e)
stays_at places k (r ∷ sw) zero s e h =
    let b = stays_by places k (has_node places k) r refl h in
    let z : k ≡ k + 0 = omega arith in
    let P : ℕ → Type 0 = λ n. has_node places n ≡ false in
    let Q : Switch → Type 0 = λ y. not y.opened ≡ true in
    record { closed = subst Q (some_same r s e) b.0; unnamed = subst P z b.1 }
stays_at places k (r ∷ sw) (suc p) s e h =
    let b = stays_at places (k + 1) sw p s e h in
    let z : k + 1 + p ≡ k + suc p = omega arith in
    let P : ℕ → Type 0 = λ n. has_node places n ≡ false in
    record { closed = b.closed; unnamed = subst P z b.unnamed }

named_by : (ns : List ℕ) (k : ℕ) (s : Switch) (t : Bool) (rest : List (ℕ × Switch)) → t ≡ true → has_node (map (λ e. e.0) (cond t ((k, s) ∷ rest) rest)) k ≡ true
unfolding has_node
named_by ns k s true rest e = or_left (eqb k k) _ (eq-eqb k k refl)
named_by ns k s false rest e = absurd (false≢true e)

named_on : (k n : ℕ) (s : Switch) (t : Bool) (rest : List (ℕ × Switch)) → has_node (map (λ e. e.0) rest) n ≡ true → has_node (map (λ e. e.0) (cond t ((k, s) ∷ rest) rest)) n ≡ true
unfolding has_node
named_on k n s true rest h = or_right (eqb n k) _ h
named_on k n s false rest h = h

named_at : (ns : List ℕ) (k : ℕ) (sw : List Switch) (p : ℕ) (s : Switch) → slice_get sw p ≡ Some s → leaves_core ns s ≡ true
    → has_node (map (λ e. e.0) (filter (λ (e : ℕ × Switch). leaves_core ns e.1) (enumerate_from k sw))) (k + p) ≡ true
named_at ns k [] p s e h = absurd (some_none s e)
named_at ns k (r ∷ sw) zero s e h =
    let z : k ≡ k + 0 = omega arith in
    let P : ℕ → Type 0 = λ n. has_node (map (λ e. e.0) (filter (λ (e : ℕ × Switch). leaves_core ns e.1) (enumerate_from k (r ∷ sw)))) n ≡ true in
    let Q : Switch → Type 0 = λ y. leaves_core ns y ≡ true in
    subst P z (named_by ns k r (leaves_core ns r) (filter (λ (e : ℕ × Switch). leaves_core ns e.1) (enumerate_from (k + 1) sw)) (subst Q (sym (some_same r s e)) h))
named_at ns k (r ∷ sw) (suc p) s e h =
    let z : k + 1 + p ≡ k + suc p = omega arith in
    let P : ℕ → Type 0 = λ n. has_node (map (λ e. e.0) (filter (λ (e : ℕ × Switch). leaves_core ns e.1) (enumerate_from k (r ∷ sw)))) n ≡ true in
    subst P z (named_on k (k + 1 + p) r (leaves_core ns r) (filter (λ (e : ℕ × Switch). leaves_core ns e.1) (enumerate_from (k + 1) sw)) (named_at ns (k + 1) sw p s e h))

-- ---- an edge that still passes doesn't leave the core

lets_core : (s : Switch) → not s.opened ≡ true → is_operable s ≡ false → lets_at core (Some s) ≡ true
unfolding lets_at switch_passes passes_closed
lets_core s c o = rw (c, o) refl

both_in : (c o x y : Bool) → c ≡ true → o ≡ true → c && o && ((x && not y) || (not x && y)) ≡ false → (x ≡ true) ⊎ (y ≡ true) → (x ≡ true) × (y ≡ true)
both_in true true true true a b h i = (refl, refl)
both_in true true true false a b h i = absurd (true≢false h)
both_in true true false true a b h i = absurd (true≢false h)
both_in true true false false a b h (inl e) = absurd (false≢true e)
both_in true true false false a b h (inr e) = absurd (false≢true e)
both_in true false x y a b h i = absurd (false≢true b)
both_in false o x y a b h i = absurd (false≢true a)

not_true : (t : Bool) → (t ≡ true → ⊥) → t ≡ false
not_true true h = absurd (h refl)
not_true false h = refl

end_pair : (sw : List Switch) (rest : List Edge) (p : ℕ) (s : Switch) (pair : ℕ × ℕ) → slice_get sw p ≡ Some s → slice_get (map ends (map switch_edge sw ++ rest)) p ≡ Some pair → pair ≡ (s.node1, s.node2)
unfolding ends
end_pair [] rest p s pair e f = absurd (some_none s e)
end_pair (r ∷ sw) rest zero s pair e f = sym (some_same (r.node1, r.node2) pair f) ∙ ap (λ (z : Switch). (z.node1, z.node2)) (some_same r s e)
end_pair (r ∷ sw) rest (suc p) s pair e f = end_pair sw rest p s pair e f

ends_opened : (level : VoltageLevel) (places : List ℕ) → ends_all (moved places true 0 level.switches) level.internals ≡ all_ends level
unfolding all_ends edges with_moved
ends_opened level places = all_ends_stay places true level

module _ (level : VoltageLevel) (a : ℕ) (at : In a (nodes level)) where
  InCore : ℕ → Type 0
  InCore u = In u (nodes level) × (joined_under core level a u ≡ true)

  core_has : (u : ℕ) → InCore u → has_node (core_of level a) u ≡ true
  unfolding core_of InCore
  core_has u h = has_kept (joined_under core level a) (nodes level) u h.0 h.1

  has_core : (u : ℕ) → has_node (core_of level a) u ≡ true → joined_under core level a u ≡ true
  unfolding core_of
  has_core u h = kept_test (joined_under core level a) (nodes level) u h

  opened : VoltageLevel
  opened = with_moved (leaving level (core_of level a)) true level

  by_switch : (u c p : ℕ) (pair : ℕ × ℕ) (s : Switch) (t : Bool) → is_operable s ≡ t → slice_get level.switches p ≡ Some s → slice_get (all_ends level) p ≡ Some pair → across u pair ≡ Some c
      → Stays (leaving level (core_of level a)) 0 p s → InCore u → joined_under core level a c ≡ true
  unfolding InCore passing edges all_ends leaving leaves_core
  by_switch u c p pair s false o e f g st h =
      let P : Option Switch → Type 0 = λ z. lets_at core z ≡ true in
      core_on level a u c at h.0 h.1 (place_gives core level.switches level.internals u c p pair f g (subst P (sym e) (lets_core s st.closed o)))
  by_switch u c p pair s true o e f g st h =
      let ns = core_of level a in
      let same = end_pair level.switches (map internal_edge level.internals) p s pair e f in
      let kept : leaves_core ns s ≡ false = not_true (leaves_core ns s) (λ l. both_ways _ st.unnamed (named_at ns 0 level.switches p s e l)) in
      let here = core_has u h in
      let P : ℕ → Type 0 = λ z. has_node ns z ≡ true in
      let x : pair.0 ≡ s.node1 = ap (λ (z : ℕ × ℕ). z.0) same in
      let y : pair.1 ≡ s.node2 = ap (λ (z : ℕ × ℕ). z.1) same in
      elim (across_ends u c pair g) [
        | inl k ↦ (
            let b = both_in (not s.opened) (is_operable s) (has_node ns s.node1) (has_node ns s.node2) st.closed o kept (inl (subst P (sym k.0 ∙ x) here)) in
            has_core c (subst P (sym y ∙ k.1) b.1)
            )
        | inr k ↦ (
            let b = both_in (not s.opened) (is_operable s) (has_node ns s.node1) (has_node ns s.node2) st.closed o kept (inr (subst P (sym k.0 ∙ y) here)) in
            has_core c (subst P (sym x ∙ k.1) b.0)
            )
      ]

  by_place : (u c p : ℕ) (pair : ℕ × ℕ) (o : Option Switch) → slice_get level.switches p ≡ o → slice_get (all_ends level) p ≡ Some pair → across u pair ≡ Some c
      → lets_at bus (slice_get (moved (leaving level (core_of level a)) true 0 level.switches) p) ≡ true → InCore u → joined_under core level a c ≡ true
  unfolding InCore passing edges all_ends lets_at
  by_place u c p pair None e f g l h =
      let P : Option Switch → Type 0 = λ z. lets_at core z ≡ true in
      core_on level a u c at h.0 h.1 (place_gives core level.switches level.internals u c p pair f g (subst P (sym e) refl))
  by_place u c p pair (Some s) e f g l h = by_switch u c p pair s (is_operable s) refl e f g (stays_at (leaving level (core_of level a)) 0 level.switches p s e l) h

  stays_in : (u c : ℕ) → InCore u → In c (neighbours (passing bus opened) u) → InCore c
  unfolding InCore passing opened with_moved
  stays_in u c h i =
      let places = leaving level (core_of level a) in
      let f = find_place bus (moved places true 0 level.switches) level.internals u c i in
      let P : List ℕ → Type 0 = λ z. In c z in
      let Q : List (ℕ × ℕ) → Type 0 = λ z. slice_get z f.place ≡ Some f.pair in (
        subst P (nodes_stay places true level) (neighbour_node bus (with_moved places true level) u c i),
        by_place u c f.place f.pair (slice_get level.switches f.place) refl (subst Q (ends_opened level places) f.at) f.over f.passes h,
      )

  walk_in : (visits : List ℕ) (u b : ℕ) → InCore u → Walk (passing bus opened) u b visits → InCore b
  unfolding Walk
  walk_in [] u b h w = let P : ℕ → Type 0 = λ z. InCore z in subst P w h
  walk_in (c ∷ rest) u b h w = walk_in rest c b (stays_in u c h w.0) w.1

-- ---- no busbar section stands in the core

found_by : (ns : List ℕ) (b : ℕ) (p : Placed) (kept : List Placed) (t : Bool) → list_any (λ n. eqb p.node n) ns ≡ t → eqb p.node b && is_busbar p.stand ≡ true → has_node ns b ≡ true
    → find (λ p. is_busbar p.stand) (cond t (p ∷ kept) kept) ≡ None → ⊥
unfolding has_node
found_by ns b p kept true e h i none =
    let bar = (and_parts (eqb p.node b) (is_busbar p.stand) h).1 in
    let g : Some p ≡ None = sym (ap (λ t. cond t (Some p) (find (λ p. is_busbar p.stand) kept)) bar) ∙ none in cc
found_by ns b p kept false e h i none =
    let same = eqb-true p.node b (and_parts (eqb p.node b) (is_busbar p.stand) h).0 in
    let P : ℕ → Type 0 = λ z. list_any (eqb z) ns ≡ true in
    both_ways _ e (subst P (sym same) i)

rest_by : (p : Placed) (kept : List Placed) (t : Bool) → find (λ p. is_busbar p.stand) (cond t (p ∷ kept) kept) ≡ None → find (λ p. is_busbar p.stand) kept ≡ None
rest_by p kept true h = rest_of (is_busbar p.stand) h
  where
    rest_of : (s : Bool) → cond s (Some p) (find (λ p. is_busbar p.stand) kept) ≡ None → find (λ p. is_busbar p.stand) kept ≡ None
    rest_of true e = absurd (let g : Some p ≡ None = e in cc)
    rest_of false e = e
rest_by p kept false h = h

no_bar : (ns : List ℕ) (b : ℕ) (all : List Placed) → has_node ns b ≡ true → find (λ p. is_busbar p.stand) (filter (λ p. list_any (λ n. eqb p.node n) ns) all) ≡ None
    → list_any (λ p. stands_at b p && is_busbar p.stand) all ≡ true → ⊥
unfolding stands_at
no_bar ns b [] i none h = false≢true h
no_bar ns b (p ∷ all) i none h = elim (or_cases (eqb p.node b && is_busbar p.stand) (list_any (λ p. eqb p.node b && is_busbar p.stand) all) h) [
  | inl e ↦ found_by ns b p (filter (λ p. list_any (λ n. eqb p.node n) ns) all) (list_any (λ n. eqb p.node n) ns) refl e i none
  | inr e ↦ no_bar ns b all i (rest_by p (filter (λ p. list_any (λ n. eqb p.node n) ns) all) (list_any (λ n. eqb p.node n) ns) none) e
]

opened_parts : (level : VoltageLevel) (a : ℕ) → In a (nodes level) → core_busbar level (core_of level a) ≡ None → is_connected (with_moved (leaving level (core_of level a)) true level) a ≡ true → ⊥
unfolding is_connected core_busbar placed_among carries_busbar joined_under joined InCore opened with_moved
opened_parts level a i none h =
    let level' = with_moved (leaving level (core_of level a)) true level in
    let r = any_from (λ b. carries_busbar level' b && joined_under bus level' a b) (nodes level') h in
    let parts = and_parts (carries_busbar level' r.0) (joined_under bus level' a r.0) r.2 in
    let w = Walk_within (passing bus level') (length (nodes level')) a r.0 parts.1 in
    let inside = walk_in level a i w.0 a r.0 (i, joined_refl (nodes level) (passing core level) a) w.1 in
    no_bar (core_of level a) r.0 level.placed (core_has level a i r.0 inside) none parts.0

-- ---- the plan

no_move : (o : Bool) (k : ℕ) (sw : List Switch) → moved [] o k sw ≡ sw
unfolding moved has_node
no_move o k [] = refl
no_move o k (s ∷ sw) = ap (λ z. s ∷ z) (no_move o (k + 1) sw)

none_moved : (o : Bool) (level : VoltageLevel) → with_moved [] o level ≡ level
unfolding with_moved
none_moved o level = ap (λ z. record level { switches = z }) (no_move o 0 level.switches)

some_opened : (level : VoltageLevel) (a : ℕ) (places : List ℕ) → is_connected level a ≡ true → (is_connected (with_moved places true level) a ≡ true → ⊥) → 0 < length places
some_opened level a [] c h = absurd (h (let P : VoltageLevel → Type 0 = λ z. is_connected z a ≡ true in subst P (sym (none_moved true level)) c))
some_opened level a (p ∷ ps) c h = omega arith

parts_by : (level : VoltageLevel) (a : ℕ) (o : Option Placed) → In a (nodes level) → is_connected level a ≡ true → core_busbar level (core_of level a) ≡ o
    → Disconnects level a (opens_or (leaving level (core_of level a)) o)
unfolding opens_or
parts_by level a (Some p) i c e = tt
parts_by level a None i c e =
    let h = opened_parts level a i e in
    (some_opened level a (leaving level (core_of level a)) c h, not_if _ h)

plan_by : (level : VoltageLevel) (a : ℕ) (t : Bool) → In a (nodes level) → is_connected level a ≡ t
    → Disconnects level a (cond t (opens_or (leaving level (core_of level a)) (core_busbar level (core_of level a))) AlreadyDisconnected)
plan_by level a true i c = parts_by level a (core_busbar level (core_of level a)) i c refl
plan_by level a false i c = tt

-- the plan that is computed parts the node from every busbar section
pub disconnect_plan-Disconnects : (level : VoltageLevel) (a : ℕ) → In a (nodes level) → Disconnects level a (disconnect_plan_of level a)
unfolding disconnect_plan_of
disconnect_plan-Disconnects level a i = plan_by level a (is_connected level a) i refl
