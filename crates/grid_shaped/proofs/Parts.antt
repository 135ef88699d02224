-- A level with configured buses while it loads: its switches, terminals and their breakers, each added last.
use Rattle.std.proofs.Common.{◌≡◌, refl, sym, ap, ◌∙◌, subst, ℕ, pos, suc, ◌+◌, ◌<◌, ◌≤◌, Bool, true, false, not, List, [], ◌∷◌, ◌++◌, length, Option, Some, None, Result, Ok, arith, append_assoc}
use Rattle.std.specs.Prelude.{map, nat_lt, position, unwrap_or, All}
use Rattle.std.specs.List.{enumerate_from, list_all}
use Rattle.std.proofs.lemmas.Bool.{and_from, and_parts, lt-ltb}
use Rattle.std.proofs.lemmas.List.{append-nil, map-append}
use Rattle.std.proofs.lemmas.List.Elements.{All-head, All-tail}
use Rattle.std.proofs.lemmas.List.Folds.{list_all-append}
use Rattle.std.proofs.lemmas.List.FromFn.{length-range_with_len}
use Rattle.grid_lemmas.proofs.Options.{some_is}
use Rattle.grid_graph.specs.Components.{places}
use Rattle.grid_ids.specs.Name.{same_id}
use Rattle.grid_kinds.specs.declared.SwitchKind.{SwitchKind}
use Rattle.grid_kinds.specs.declared.SwitchKind.TheVariants.{Breaker}
use Rattle.grid_level.specs.declared.Placed.{Placed}
use Rattle.grid_level.specs.declared.Terminal.{Terminal}
use Rattle.grid_level.specs.declared.Stand.{Stand}
use Rattle.grid_level.specs.declared.Switch.{Switch}
use Rattle.grid_level.specs.VoltageLevel.{VoltageLevel}
use Rattle.grid_level.specs.LevelEdits.{Unfit, edge_fits, level_with_switch, level_with_terminal, with_placed}
use Rattle.grid_level.specs.Passing.{is_busbar, nodes}
use Rattle.grid_level.proofs.LevelEdits.{fitting, went}
use Rattle.grid_level.proofs.PlacedTerminals.{placed_in, placing}
use Rattle.grid_structure.specs.Network.{Network}
use Rattle.grid_structure.specs.Sites.{level_named}
use Rattle.grid_structure.proofs.Places.{position_found}
use Rattle.grid_placed.specs.Places.{Joint, Outlet, PlacesFit}
use Rattle.grid_placed.specs.Translation.{breaker_id, joint_breaker, outlet_breaker, bus_section, outlet_placed, outlets_at, translated_level}
use Rattle.grid_placed.proofs.Nodes.{StandsWell, level_nodes}
use Rattle.grid_json.specs.declared.buses.BusLevelDraft.{BusLevelDraft}
use Rattle.grid_json.specs.declared.fault.Reason.TheVariants.{NoBus}
use Rattle.grid_json.specs.Reading.{or_fault}
use Rattle.grid_json.specs.Loading.{bus_at, bus_place, next_node, place_in}
use Rattle.grid_json.proofs.BusPositions.{places_are_positions}
use Rattle.grid_json.proofs.BusSections.{node_is}
use Rattle.grid_shaped.specs.Drafts.{place_among, placed_with}
use Rattle.grid_shaped.proofs.LevelChanges.{Changed, changed_named}

-- ---- the level

-- with these switches, these terminals, and the breakers of these terminals
abbrev pub part : BusLevelDraft → List Joint → List Outlet → List Outlet → VoltageLevel
part l joints breakers outlets = record {
  id = l.id;
  nominal_v = l.nominal_v;
  low_v = l.low_v;
  high_v = l.high_v;
  switches = map joint_breaker joints ++ map outlet_breaker (enumerate_from (length l.buses) breakers);
  internals = [];
  placed = map bus_section (enumerate_from 0 l.buses) ++ map outlet_placed (enumerate_from (length l.buses) outlets);
}

pub part_is : (l : BusLevelDraft) (joints : List Joint) (outlets : List Outlet) → translated_level (placed_with l joints outlets) ≡ part l joints outlets outlets
unfolding translated_level outlets_at
part_is l joints outlets = refl

pub numbered_last : {X : Type 0} (at : ℕ) (xs : List X) (x : X) → enumerate_from at (xs ++ x ∷ []) ≡ enumerate_from at xs ++ (at + length xs, x) ∷ []
numbered_last {X} at [] x = let one : ℕ → List (ℕ × X) = λ n. (n, x) ∷ [] in let e : at ≡ at + 0 = omega arith in ap one e
numbered_last {X} at (y ∷ xs) x =
    let first : List (ℕ × X) → List (ℕ × X) = λ z. (at, y) ∷ z in
    let last : ℕ → List (ℕ × X) = λ n. enumerate_from (at + 1) xs ++ (n, x) ∷ [] in
    let e : at + 1 + length xs ≡ at + suc (length xs) = omega arith in
    ap first (numbered_last (at + 1) xs x ∙ ap last e)

-- ---- one more switch

last_joint : (js : List Joint) (j : Joint) → (map joint_breaker js ++ []) ++ joint_breaker j ∷ [] ≡ map joint_breaker (js ++ j ∷ []) ++ []
last_joint js j = rw (append-nil (map joint_breaker js), append-nil (map joint_breaker (js ++ j ∷ []))) (sym (map-append joint_breaker js (j ∷ [])))

last_breaker : (js : List Joint) (at : ℕ) (ts : List Outlet) (t : Outlet)
    → (map joint_breaker js ++ map outlet_breaker (enumerate_from at ts)) ++ outlet_breaker (at + length ts, t) ∷ [] ≡ map joint_breaker js ++ map outlet_breaker (enumerate_from at (ts ++ t ∷ []))
last_breaker js at ts t =
    append_assoc (map joint_breaker js) (map outlet_breaker (enumerate_from at ts)) (outlet_breaker (at + length ts, t) ∷ [])
    ∙ ap (λ z. map joint_breaker js ++ z) (sym (map-append outlet_breaker (enumerate_from at ts) ((at + length ts, t) ∷ [])))
    ∙ ap (λ z. map joint_breaker js ++ map outlet_breaker z) (sym (numbered_last at ts t))

abbrev with_last : VoltageLevel → Switch → VoltageLevel
with_last level s = record level { switches = level.switches ++ s ∷ [] }

switch_last : (level made : VoltageLevel) (id : List ℕ) (kind : SwitchKind) (a b : ℕ) (opened retained fictitious : Bool) → level_with_switch level id kind (pos a) (pos b) opened retained fictitious ≡ Ok made
    → made ≡ with_last level (record { id = id; kind = kind; node1 = a; node2 = b; opened = opened; retained = retained; fictitious = fictitious })
unfolding level_with_switch
switch_last level made id kind a b opened retained fictitious h =
    let e = went (edge_fits level (pos a) (pos b)) _ made h in
    let k = fitting level (pos a) (pos b) e.value e.is in
    let first : a ≡ e.value.0 = node_is a e.value.0 k.first in
    let second : b ≡ e.value.1 = node_is b e.value.1 k.second in
    let made_of : ℕ → ℕ → VoltageLevel = λ x y. with_last level (record { id = id; kind = kind; node1 = x; node2 = y; opened = opened; retained = retained; fictitious = fictitious }) in
    let is : made_of e.value.0 e.value.1 ≡ made = cc (e.next) in
    sym is ∙ ap (λ (x : ℕ). made_of x e.value.1) (sym first) ∙ ap (λ (y : ℕ). made_of a y) (sym second)

-- ---- one more terminal

placed_last : (p : Placed) (ps : List Placed) → list_all (λ (q : Placed). nat_lt q.node p.node) ps ≡ true → with_placed p ps ≡ ps ++ p ∷ []
unfolding with_placed
placed_last p [] below = refl
placed_last p (q ∷ ps) below = let parts = and_parts (nat_lt q.node p.node) (list_all (λ (q : Placed). nat_lt q.node p.node) ps) below in rw parts.0 (ap (λ z. q ∷ z) (placed_last p ps parts.1))

nodes_below : {X : Type 0} (f : ℕ × X → Placed) → ((e : ℕ × X) → (f e).node ≡ e.0) → (n at : ℕ) (xs : List X) → at + length xs ≤ n → list_all (λ (q : Placed). nat_lt q.node n) (map f (enumerate_from at xs)) ≡ true
nodes_below f numbered n at [] few = refl
nodes_below f numbered n at (x ∷ xs) few =
    and_from (nat_lt (f (at, x)).node n) (list_all (λ (q : Placed). nat_lt q.node n) (map f (enumerate_from (at + 1) xs)))
    (ap (λ z. nat_lt z n) (numbered (at, x)) ∙ lt-ltb at n (omega (arith, few))) (nodes_below f numbered n (at + 1) xs (omega (arith, few)))

last_terminal : (buses : List (List ℕ)) (ts : List Outlet) (t : Outlet)
    → with_placed (outlet_placed (length buses + length ts, t)) (map bus_section (enumerate_from 0 buses) ++ map outlet_placed (enumerate_from (length buses) ts))
    ≡ map bus_section (enumerate_from 0 buses) ++ map outlet_placed (enumerate_from (length buses) (ts ++ t ∷ []))
unfolding bus_section outlet_placed
last_terminal buses ts t =
    let n = length buses + length ts in
    let sections = map bus_section (enumerate_from 0 buses) in
    let before = map outlet_placed (enumerate_from (length buses) ts) in
    placed_last (outlet_placed (n, t)) (sections ++ before)
    (list_all-append (λ (q : Placed). nat_lt q.node n) sections before
    ∙ and_from (list_all (λ (q : Placed). nat_lt q.node n) sections) (list_all (λ (q : Placed). nat_lt q.node n) before)
    (nodes_below bus_section (λ e. refl) n 0 buses (omega arith)) (nodes_below outlet_placed (λ e. refl) n (length buses) ts (omega arith)))
    ∙ append_assoc sections before (outlet_placed (n, t) ∷ [])
    ∙ ap (λ z. sections ++ z) (sym (map-append outlet_placed (enumerate_from (length buses) ts) ((n, t) ∷ [])))
    ∙ ap (λ z. sections ++ map outlet_placed z) (sym (numbered_last (length buses) ts t))

terminal_last : (level made : VoltageLevel) (n : ℕ) (terminal : Terminal) (stand : Stand) → level_with_terminal level (pos n) terminal stand ≡ Ok made → made ≡ placed_in level (record { node = n; terminal = terminal; stand = stand })
terminal_last level made n terminal stand h =
    let k = placing level (pos n) terminal stand made h in
    sym k.is ∙ ap (λ (z : ℕ). placed_in level (record { node = z; terminal = terminal; stand = stand })) (sym (node_is n k.number k.at))

-- ---- in the network

-- the edits that add a terminal at a node and its breaker
abbrev pub terminal_edit : ℕ → Outlet → VoltageLevel → Result VoltageLevel Unfit
terminal_edit n t v = level_with_terminal v (pos n) t.terminal t.stand

abbrev pub breaker_edit : ℕ → Outlet → VoltageLevel → Result VoltageLevel Unfit
breaker_edit n t v = level_with_switch v (breaker_id t.terminal) Breaker (pos t.place) (pos n) (not t.connected) false false

abbrev pub joint_edit : Joint → VoltageLevel → Result VoltageLevel Unfit
joint_edit j v = level_with_switch v j.id Breaker (pos j.place1) (pos j.place2) j.opened true false

module _ (l : BusLevelDraft) (net new : Network) (js : List Joint) (ds ps : List Outlet) (named : level_named net l.id ≡ Some (part l js ds ps)) where
  old_is : (change : VoltageLevel → Result VoltageLevel Unfit) (c : Changed net new l.id change) → c.old ≡ part l js ds ps
  old_is change c = some_is c.old (part l js ds ps) (sym c.named ∙ named)

  pub terminal_more : (n : ℕ) (t : Outlet) → n ≡ length l.buses + length ps → Changed net new l.id (terminal_edit n t) → level_named new l.id ≡ Some (part l js ds (ps ++ t ∷ []))
  unfolding outlet_placed
  terminal_more n t is c =
      let more : placed_in (part l js ds ps) (outlet_placed (n, t)) ≡ part l js ds (ps ++ t ∷ []) =
      rw is (ap (λ z. record (part l js ds ps) { placed = z }) (last_terminal l.buses ps t)) in
      changed_named net new l.id (terminal_edit n t) c
      ∙ ap (λ (z : VoltageLevel). Some z) (terminal_last c.old c.made n t.terminal t.stand c.did
      ∙ ap (λ (z : VoltageLevel). placed_in z (outlet_placed (n, t))) (old_is (terminal_edit n t) c) ∙ more)

  pub breaker_more : (n : ℕ) (t : Outlet) → n ≡ length l.buses + length ds → Changed net new l.id (breaker_edit n t) → level_named new l.id ≡ Some (part l js (ds ++ t ∷ []) ps)
  unfolding outlet_breaker
  breaker_more n t is c =
      let more : with_last (part l js ds ps) (outlet_breaker (n, t)) ≡ part l js (ds ++ t ∷ []) ps = rw is (ap (λ z. record (part l js ds ps) { switches = z }) (last_breaker js (length l.buses) ds t)) in
      changed_named net new l.id (breaker_edit n t) c
      ∙ ap (λ (z : VoltageLevel). Some z) (switch_last c.old c.made (breaker_id t.terminal) Breaker t.place n (not t.connected) false false c.did
      ∙ ap (λ (z : VoltageLevel). with_last z (outlet_breaker (n, t))) (old_is (breaker_edit n t) c) ∙ more)

pub joint_more : (l : BusLevelDraft) (net new : Network) (js : List Joint) (j : Joint) → level_named net l.id ≡ Some (part l js [] []) → Changed net new l.id (joint_edit j)
    → level_named new l.id ≡ Some (part l (js ++ j ∷ []) [] [])
unfolding joint_breaker
joint_more l net new js j named c =
    let more : with_last (part l js [] []) (joint_breaker j) ≡ part l (js ++ j ∷ []) [] [] = ap (λ z. record (part l js [] []) { switches = z }) (last_joint js j) in
    changed_named net new l.id (joint_edit j) c
    ∙ ap (λ (z : VoltageLevel). Some z) (switch_last c.old c.made j.id Breaker j.place1 j.place2 j.opened true false c.did
    ∙ ap (λ (z : VoltageLevel). with_last z (joint_breaker j)) (some_is c.old (part l js [] []) (sym c.named ∙ named)) ∙ more)

-- ---- the place of a bus

-- none is a busbar section
abbrev pub Plain : List Outlet → Type 0
Plain ts = list_all (λ (t : Outlet). not (is_busbar t.stand)) ts ≡ true

pub plain_of : (most : ℕ) (ts : List Outlet) → All (StandsWell most) ts → Plain ts
plain_of most [] well = refl
plain_of most (t ∷ ts) well =
    and_from (not (is_busbar t.stand)) (list_all (λ (t : Outlet). not (is_busbar t.stand)) ts)
    (ap not (All-head (StandsWell most) t ts well).1) (plain_of most ts (All-tail (StandsWell most) t ts well))

plain_placed : (at : ℕ) (ts : List Outlet) → Plain ts → list_all (λ (p : Placed). not (is_busbar p.stand)) (map outlet_placed (enumerate_from at ts)) ≡ true
unfolding outlet_placed
plain_placed at [] plain = refl
plain_placed at (t ∷ ts) plain =
    let parts = and_parts (not (is_busbar t.stand)) (list_all (λ (t : Outlet). not (is_busbar t.stand)) ts) plain in
    and_from (not (is_busbar t.stand)) (list_all (λ (p : Placed). not (is_busbar p.stand)) (map outlet_placed (enumerate_from (at + 1) ts))) parts.0 (plain_placed (at + 1) ts parts.1)

-- a bus that was found is at its position
pub record IsAt (buses : List (List ℕ)) (bus : List ℕ) (place : ℕ) : Type 0 where
  pub place_is : place_among buses bus ≡ place
  pub below : place_among buses bus < length buses

pub bus_is_at : (l : BusLevelDraft) (net : Network) (js : List Joint) (ds ps : List Outlet) (bus : List ℕ) (place : ℕ) → level_named net l.id ≡ Some (part l js ds ps) → Plain ps → bus_at net l.id bus ≡ Ok place → IsAt l.buses bus place
unfolding bus_at place_among
bus_is_at l net js ds ps bus place named plain h =
    let spot : position (same_id bus) l.buses ≡ Some place =
    sym (places_are_positions (part l js ds ps) l.buses (map outlet_placed (enumerate_from (length l.buses) ps)) bus
    refl (plain_placed (length l.buses) ps plain))
    ∙ found (bus_place (part l js ds ps) bus) (ap (λ z. or_fault NoBus (place_in z bus)) (sym named) ∙ h) in
    let is : place_among l.buses bus ≡ place = ap (λ z. unwrap_or z (length l.buses)) spot in
    record { place_is = is; below = subst (λ (z : ℕ). z < length l.buses) (sym is) (position_found (same_id bus) l.buses place spot).0 }
  where
    found : (o : Option ℕ) → or_fault NoBus o ≡ Ok place → o ≡ Some place
    found (Some x) e = cc
    found None e = cc

-- its nodes are the numbers below the count of its buses and terminals
pub nodes_counted : (l : BusLevelDraft) (js : List Joint) (ts : List Outlet) → PlacesFit (placed_with l js ts) → length (nodes (part l js ts ts)) ≡ length l.buses + length ts
unfolding places
nodes_counted l js ts fit =
    ap (λ (z : VoltageLevel). length (nodes z)) (sym (part_is l js ts))
    ∙ ap length (level_nodes (placed_with l js ts) fit) ∙ length-range_with_len 0 (length l.buses + length ts)

-- the next node is behind all terminals
pub next_is : (l : BusLevelDraft) (net : Network) (js : List Joint) (ts : List Outlet) → level_named net l.id ≡ Some (part l js ts ts) → PlacesFit (placed_with l js ts) → next_node net l.id ≡ length l.buses + length ts
unfolding next_node
next_is l net js ts named fit = rw named (nodes_counted l js ts fit)
