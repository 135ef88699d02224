-- Where the things of a network with configured buses are in its node/breaker form.
use Rattle.std.proofs.Common.{◌≡◌, refl, sym, ap, ◌∙◌, subst, ℕ, suc, ◌+◌, ◌<◌, Bool, true, false, cond, not, ◌&&◌, ◌||◌, List, [], ◌∷◌, ◌++◌, length, append_assoc, inl, inr, ◌⊎◌, arith}
use Rattle.std.specs.Prelude.{Option, Some, None, eqb, map, filter, find, flat_map, position, option_map, slice_get, codes, decimal}
use Rattle.std.specs.List.{list_any, enumerate_from}
use Rattle.std.specs.Option.{option_or}
use Rattle.std.proofs.lemmas.Bool.{both_ways, or_parts, or_left, or_right, false_from_ne_true}
use Rattle.std.proofs.lemmas.List.{map-append}
use Rattle.std.proofs.lemmas.List.Folds.{list_any-append, find-append}
use Rattle.std.proofs.lemmas.List.Elements.{filter-append}
use Rattle.std.proofs.lemmas.Slice.Eq.{bytes_eq-Decides}
use Rattle.grid_lemmas.proofs.Lists.{position-cons, position_map}
use Rattle.grid_ids.specs.Name.{same_id, has_id}
use Rattle.grid_ids.proofs.Alike.{has_join}
use Rattle.grid_level.specs.declared.Switch.{Switch}
use Rattle.grid_level.specs.declared.Placed.{Placed}
use Rattle.grid_level.specs.declared.Terminal.{Terminal}
use Rattle.grid_level.specs.declared.Stand.TheVariants.{BranchEnd}
use Rattle.grid_level.specs.VoltageLevel.{VoltageLevel}
use Rattle.grid_level.specs.Passing.{is_branch_end}
use Rattle.grid_structure.specs.declared.NamedBranch.{NamedBranch}
use Rattle.grid_structure.specs.Sites as sites
use Rattle.grid_structure.specs.Sites.{levels, first_found, branch_ends}
use Rattle.grid_structure.proofs.Places.{none_position, position_found}
use Rattle.grid_paths.proofs.Least.{some_same, some_none}
use Rattle.grid_json.specs.declared.buses.BusInjection.{BusInjection}
use Rattle.grid_json.specs.declared.buses.BusEnd.{BusEnd}
use Rattle.grid_configured.specs.declared.network.ConfiguredLine.{ConfiguredLine}
use Rattle.grid_configured.specs.declared.network.ConfiguredLevel.{ConfiguredLevel}
use Rattle.grid_configured.specs.declared.network.ConfiguredNetwork.{ConfiguredNetwork}
use Rattle.grid_placed.specs.Places.{Outlet, PlacedLevel}
use Rattle.grid_configured.specs.Levels.{bus_place, item_outlet, end_outlets, line_outlets, outlets, placed_level, placed_levels}
use Rattle.grid_placed.specs.Translation.{joint_breaker, breaker_id, outlet_breaker, bus_section, outlet_placed, outlets_at, translated_level}
use Rattle.grid_configured.specs.Translation.{substation_of, translated_line, translated}
use Rattle.grid_configured.specs.Sites.{bus_ids, item_ids, line_ids, find_level, is_joint, is_outlet, find_joint, find_outlet, sides}

-- ---- lists

-- the first place among items of which those behind do not pass
position_front : {X Y : Type 0} (p : Y → Bool) (f : X → Y) (xs : List X) (ys : List Y) → list_any p ys ≡ false → position p (map f xs ++ ys) ≡ position (λ x. p (f x)) xs
position_front p f [] ys none = none_position p ys none
position_front p f (x ∷ xs) ys none =
    position-cons p (f x) (map f xs ++ ys) ∙ ap (λ z. cond (p (f x)) (Some 0) (option_map suc z)) (position_front p f xs ys none) ∙ sym (position-cons (λ x. p (f x)) x xs)

pub found_mapped : {X Y B : Type 0} (at : ℕ) (test : Y → Option B) (f : X → Y) (xs : List X) → first_found at test (map f xs) ≡ first_found at (λ x. test (f x)) xs
found_mapped at test f [] = refl
found_mapped {X} {Y} {B} at test f (x ∷ xs) = by (test (f x)) (found_mapped (at + 1) test f xs)
  where
    by : (o : Option B) → first_found (at + 1) test (map f xs) ≡ first_found (at + 1) (λ x. test (f x)) xs
        → ◌≡◌ {A = Option (ℕ × B)} (elim o [ Some y ↦ Some (at, y) | None ↦ first_found (at + 1) test (map f xs) ]) (elim o [ Some y ↦ Some (at, y) | None ↦ first_found (at + 1) (λ x. test (f x)) xs ])
    by (Some y) rest = refl
    by None rest = rest

found_alike : {X B : Type 0} (at : ℕ) (one two : X → Option B) → ((x : X) → one x ≡ two x) → (xs : List X) → first_found at one xs ≡ first_found at two xs
found_alike at one two same [] = refl
found_alike {X} {B} at one two same (x ∷ xs) = by (one x) (two x) (same x) (found_alike (at + 1) one two same xs)
  where
    by : (o q : Option B) → o ≡ q → first_found (at + 1) one xs ≡ first_found (at + 1) two xs
        → ◌≡◌ {A = Option (ℕ × B)} (elim o [ Some y ↦ Some (at, y) | None ↦ first_found (at + 1) one xs ]) (elim q [ Some y ↦ Some (at, y) | None ↦ first_found (at + 1) two xs ])
    by (Some y) (Some z) e rest = ap (λ w. Some (at, w)) (some_same y z e)
    by (Some y) None e rest = absurd (some_none y (sym e))
    by None (Some z) e rest = absurd (some_none z e)
    by None None e rest = rest

-- ---- levels

levels_from : (network : ConfiguredNetwork) (ls : List ConfiguredLevel) → flat_map (λ s. s.levels) (map (substation_of network) ls) ≡ map translated_level (map (placed_level network) ls)
unfolding substation_of
levels_from network [] = refl
levels_from network (l ∷ ls) = ap (λ z. translated_level (placed_level network l) ∷ z) (levels_from network ls)

-- the levels in node/breaker form, in the same order
pub levels_are : (network : ConfiguredNetwork) → levels (translated network) ≡ map translated_level (placed_levels network)
unfolding levels translated placed_levels
levels_are network = levels_from network network.levels

pub level_found : (network : ConfiguredNetwork) (id : List ℕ) → sites.find_level (translated network) id ≡ find_level network id
unfolding sites.find_level find_level placed_levels translated_level placed_level
level_found network id =
    ap (position (λ l. same_id id l.id)) (levels_are network)
    ∙ position_map (λ (l : VoltageLevel). same_id id l.id) translated_level (map (placed_level network) network.levels)
    ∙ position_map (λ (l : PlacedLevel). same_id id (translated_level l).id) (placed_level network) network.levels

-- ---- switches

-- the id has the byte of reserved ids
abbrev pub is_marked : List ℕ → Bool
is_marked id = list_any (λ b. eqb b 33) id

marked_breaker : (t : Terminal) → is_marked (breaker_id t) ≡ true
unfolding breaker_id
marked_breaker t =
    list_any-append (λ b. eqb b 33) (t.equipment ++ codes "!") (decimal t.side)
    ∙ or_left (list_any (λ b. eqb b 33) (t.equipment ++ codes "!")) (list_any (λ b. eqb b 33) (decimal t.side))
    (list_any-append (λ b. eqb b 33) t.equipment (codes "!") ∙ or_right (list_any (λ b. eqb b 33) t.equipment) (list_any (λ b. eqb b 33) (codes "!")) refl)

other_breaker : (id : List ℕ) (t : Terminal) → is_marked id ≡ false → same_id id (breaker_id t) ≡ false
other_breaker id t plain =
    false_from_ne_true (same_id id (breaker_id t)) (λ e. both_ways (is_marked id) plain (ap is_marked ((bytes_eq-Decides id (breaker_id t)).0 e) ∙ marked_breaker t))

no_breaker : (id : List ℕ) (es : List (ℕ × Outlet)) → is_marked id ≡ false → list_any (λ (s : Switch). same_id id s.id) (map outlet_breaker es) ≡ false
unfolding outlet_breaker
no_breaker id [] plain = refl
no_breaker id (e ∷ es) plain = ap (λ t. t || list_any (λ (s : Switch). same_id id s.id) (map outlet_breaker es)) (other_breaker id e.1.terminal plain) ∙ no_breaker id es plain

-- a switch between buses is at its place
pub switch_found : (network : ConfiguredNetwork) (id : List ℕ) → is_marked id ≡ false → sites.find_switch (translated network) id ≡ find_joint network id
unfolding sites.find_switch find_joint translated_level is_joint joint_breaker
switch_found network id plain =
    ap (first_found 0 (λ (l : VoltageLevel). position (λ s. same_id id s.id) l.switches)) (levels_are network)
    ∙ found_mapped 0 (λ (l : VoltageLevel). position (λ s. same_id id s.id) l.switches) translated_level (placed_levels network)
    ∙ found_alike 0 (λ (l : PlacedLevel). position (λ s. same_id id s.id) (translated_level l).switches) (λ (l : PlacedLevel). position (is_joint id) l.joints)
    (λ l. position_front (λ (s : Switch). same_id id s.id) joint_breaker l.joints (map outlet_breaker (outlets_at l)) (no_breaker id (outlets_at l) plain)) (placed_levels network)

-- ---- equipment

-- ids of buses and injections
unfoldable pub own_ids : ConfiguredLevel → List (List ℕ)
own_ids l = l.buses ++ map (λ i. i.id) l.items

unfoldable pub singles : List Placed → List (List ℕ)
singles ps = map (λ p. p.terminal.equipment) (filter (λ p. not (is_branch_end p.stand)) ps)

singles_join : (xs ys : List Placed) → singles (xs ++ ys) ≡ singles xs ++ singles ys
unfolding singles
singles_join xs ys =
    ap (map (λ (p : Placed). p.terminal.equipment)) (filter-append (λ (p : Placed). not (is_branch_end p.stand)) xs ys)
    ∙ map-append (λ (p : Placed). p.terminal.equipment) (filter (λ (p : Placed). not (is_branch_end p.stand)) xs) (filter (λ (p : Placed). not (is_branch_end p.stand)) ys)

singles_buses : (at : ℕ) (buses : List (List ℕ)) → singles (map bus_section (enumerate_from at buses)) ≡ buses
unfolding singles bus_section is_branch_end
singles_buses at [] = refl
singles_buses at (b ∷ buses) = ap (λ z. b ∷ z) (singles_buses (at + 1) buses)

-- the injections' terminals, then nothing of the lines
singles_items : (level : ConfiguredLevel) (at : ℕ) (items : List BusInjection) (rest : List Outlet) → ((from : ℕ) → singles (map outlet_placed (enumerate_from from rest)) ≡ [])
    → singles (map outlet_placed (enumerate_from at (map (item_outlet level) items ++ rest))) ≡ map (λ i. i.id) items
unfolding singles outlet_placed item_outlet is_branch_end
singles_items level at [] rest none = none at
singles_items level at (i ∷ items) rest none = ap (λ z. i.id ∷ z) (singles_items level (at + 1) items rest none)

singles_ends : (level : ConfiguredLevel) (id : List ℕ) (side : ℕ) (end : BusEnd) (rest : List Outlet) → ((from : ℕ) → singles (map outlet_placed (enumerate_from from rest)) ≡ [])
    → (at : ℕ) → singles (map outlet_placed (enumerate_from at (end_outlets level id side end ++ rest))) ≡ []
unfolding singles outlet_placed end_outlets is_branch_end
singles_ends level id side end rest none at = by (same_id level.id end.level)
  where
    by : (t : Bool) → map (λ (p : Placed). p.terminal.equipment) (filter (λ (p : Placed). not (is_branch_end p.stand)) (map outlet_placed (enumerate_from at (cond t (record { terminal = record { equipment = id; side = side }; place = bus_place level.buses end.bus; connected = end.connected; stand = BranchEnd } ∷ []) [] ++ rest)))) ≡ []
    by true = none (at + 1)
    by false = none at

singles_none : (at : ℕ) → singles (map outlet_placed (enumerate_from at [])) ≡ []
unfolding singles
singles_none at = refl

singles_lines : (level : ConfiguredLevel) (lines : List ConfiguredLine) (at : ℕ) → singles (map outlet_placed (enumerate_from at (flat_map (line_outlets level) lines))) ≡ []
unfolding line_outlets
singles_lines level [] at = singles_none at
singles_lines level (line ∷ lines) at =
    ap (λ z. singles (map outlet_placed (enumerate_from at z))) (append_assoc (end_outlets level line.id 1 line.end1) (end_outlets level line.id 2 line.end2) (flat_map (line_outlets level) lines))
    ∙ singles_ends level line.id 1 line.end1 (end_outlets level line.id 2 line.end2 ++ flat_map (line_outlets level) lines) (singles_ends level line.id 2 line.end2 (flat_map (line_outlets level) lines) (singles_lines level lines)) at

pub level_singles : (network : ConfiguredNetwork) (level : ConfiguredLevel) → singles (translated_level (placed_level network level)).placed ≡ own_ids level
unfolding translated_level placed_level outlets outlets_at own_ids
level_singles network level =
    singles_join (map bus_section (enumerate_from 0 level.buses)) (map outlet_placed (enumerate_from (length level.buses) (map (item_outlet level) level.items ++ flat_map (line_outlets level) network.lines)))
    ∙ ap (λ z. z ++ singles (map outlet_placed (enumerate_from (length level.buses) (map (item_outlet level) level.items ++ flat_map (line_outlets level) network.lines)))) (singles_buses 0 level.buses)
    ∙ ap (λ z. level.buses ++ z) (singles_items level (length level.buses) level.items (flat_map (line_outlets level) network.lines) (singles_lines level network.lines))

singles_from : (network : ConfiguredNetwork) (ls : List ConfiguredLevel) → flat_map (λ (l : VoltageLevel). singles l.placed) (map translated_level (map (placed_level network) ls)) ≡ flat_map own_ids ls
singles_from network [] = refl
singles_from network (l ∷ ls) = ap (λ z. z ++ flat_map (λ (l : VoltageLevel). singles l.placed) (map translated_level (map (placed_level network) ls))) (level_singles network l) ∙ ap (λ z. own_ids l ++ z) (singles_from network ls)

pub single_ids_are : (network : ConfiguredNetwork) → sites.single_ids (translated network) ≡ flat_map own_ids network.levels
unfolding sites.single_ids placed_levels singles
single_ids_are network =
    ap (flat_map (λ (l : VoltageLevel). singles l.placed)) (levels_are network) ∙ singles_from network network.levels

-- of an id that no bus has, among buses and injections
own_apart : (id : List ℕ) (ls : List ConfiguredLevel) → has_id (flat_map (λ l. l.buses) ls) id ≡ false → has_id (flat_map own_ids ls) id ≡ has_id (flat_map (λ l. map (λ i. i.id) l.items) ls) id
unfolding own_ids
own_apart id [] none = refl
own_apart id (l ∷ ls) none =
    let parts = or_parts (has_id l.buses id) (has_id (flat_map (λ l. l.buses) ls) id) (sym (has_join l.buses (flat_map (λ l. l.buses) ls) id) ∙ none) in
    has_join (l.buses ++ map (λ i. i.id) l.items) (flat_map own_ids ls) id
    ∙ ap (λ t. t || has_id (flat_map own_ids ls) id) (has_join l.buses (map (λ i. i.id) l.items) id ∙ ap (λ t. t || has_id (map (λ i. i.id) l.items) id) parts.0)
    ∙ ap (λ t. has_id (map (λ i. i.id) l.items) id || t) (own_apart id ls parts.1)
    ∙ sym (has_join (map (λ i. i.id) l.items) (flat_map (λ l. map (λ i. i.id) l.items) ls) id)

lines_sides : (network : ConfiguredNetwork) (id : List ℕ) (lines : List ConfiguredLine)
    → option_map (λ (b : NamedBranch). length (branch_ends b.shape)) (find (λ b. same_id id b.id) (map (translated_line network) lines)) ≡ cond (has_id (map (λ l. l.id) lines) id) (Some 2) None
unfolding has_id translated_line branch_ends
lines_sides network id [] = refl
lines_sides network id (line ∷ lines) = by (same_id id line.id) (lines_sides network id lines)
  where
    by : (t : Bool) → option_map (λ (b : NamedBranch). length (branch_ends b.shape)) (find (λ b. same_id id b.id) (map (translated_line network) lines)) ≡ cond (list_any (same_id id) (map (λ l. l.id) lines)) (Some 2) None
        → option_map (λ (b : NamedBranch). length (branch_ends b.shape)) (cond t (Some (translated_line network line)) (find (λ b. same_id id b.id) (map (translated_line network) lines))) ≡ cond (t || list_any (same_id id) (map (λ l. l.id) lines)) (Some 2) None
    by true rest = refl
    by false rest = rest

no_transformers : (network : ConfiguredNetwork) (ls : List ConfiguredLevel) → flat_map (λ s. s.transformers) (map (substation_of network) ls) ≡ []
unfolding substation_of
no_transformers network [] = refl
no_transformers network (l ∷ ls) = no_transformers network ls

pub branches_are : (network : ConfiguredNetwork) → sites.branches (translated network) ≡ map (translated_line network) network.lines
unfolding sites.branches translated
branches_are network = ap (λ z. z ++ map (translated_line network) network.lines) (no_transformers network network.levels)

-- an id that no bus has is of an equipment with as many sides
pub sides_found : (network : ConfiguredNetwork) (id : List ℕ) → has_id (bus_ids network) id ≡ false → sites.sides (translated network) id ≡ sides network id
unfolding sites.sides sites.branch_named sides bus_ids item_ids line_ids
sides_found network id none =
    ap (λ t. cond t (Some 1) (option_map (λ (b : NamedBranch). length (branch_ends b.shape)) (find (λ b. same_id id b.id) (sites.branches (translated network)))))
    (ap (λ z. has_id z id) (single_ids_are network) ∙ own_apart id network.levels none)
    ∙ ap (λ z. cond (has_id (flat_map (λ l. map (λ i. i.id) l.items) network.levels) id) (Some 1) z)
    (ap (λ z. option_map (λ (b : NamedBranch). length (branch_ends b.shape)) (find (λ b. same_id id b.id) z)) (branches_are network) ∙ lines_sides network id network.lines)

-- ---- terminals

-- what finds a terminal of an equipment
unfoldable pub placed_test : List ℕ → ℕ → Placed → Bool
placed_test id side p = same_id id p.terminal.equipment && eqb p.terminal.side side

pub found_bus : (id : List ℕ) (side at : ℕ) (buses : List (List ℕ)) → has_id buses id ≡ false → find (placed_test id side) (map bus_section (enumerate_from at buses)) ≡ None
unfolding placed_test bus_section has_id
found_bus id side at [] none = refl
found_bus id side at (b ∷ buses) none =
    let parts = or_parts (same_id id b) (list_any (same_id id) buses) none in
    ap (λ t. cond (t && eqb 1 side) (Some (bus_section (at, b))) (find (λ p. same_id id p.terminal.equipment && eqb p.terminal.side side) (map bus_section (enumerate_from (at + 1) buses)))) parts.0
    ∙ found_bus id side (at + 1) buses parts.1

moved_on : (at : ℕ) (o : Option ℕ) → option_map (λ k. at + 1 + k) o ≡ option_map (λ k. at + k) (option_map suc o)
moved_on at None = refl
moved_on at (Some k) = let e : at + 1 + k ≡ at + suc k = omega arith in ap Some e

found_outlet : (id : List ℕ) (side at : ℕ) (ts : List Outlet) → option_map (λ p. p.node) (find (placed_test id side) (map outlet_placed (enumerate_from at ts))) ≡ option_map (λ k. at + k) (position (is_outlet id side) ts)
unfolding placed_test outlet_placed is_outlet
found_outlet id side at [] = refl
found_outlet id side at (t ∷ ts) =
    by (same_id id t.terminal.equipment && eqb t.terminal.side side) (found_outlet id side (at + 1) ts)
    ∙ ap (option_map (λ k. at + k)) (sym (position-cons (λ (t : Outlet). same_id id t.terminal.equipment && eqb t.terminal.side side) t ts))
  where
    by : (b : Bool) → option_map (λ p. p.node) (find (λ (p : Placed). same_id id p.terminal.equipment && eqb p.terminal.side side) (map outlet_placed (enumerate_from (at + 1) ts))) ≡ option_map (λ k. at + 1 + k) (position (λ (t : Outlet). same_id id t.terminal.equipment && eqb t.terminal.side side) ts)
        → option_map (λ p. p.node) (cond b (Some (outlet_placed (at, t))) (find (λ (p : Placed). same_id id p.terminal.equipment && eqb p.terminal.side side) (map outlet_placed (enumerate_from (at + 1) ts))))
        ≡ option_map (λ k. at + k) (cond b (Some 0) (option_map suc (position (λ (t : Outlet). same_id id t.terminal.equipment && eqb t.terminal.side side) ts)))
    by true rest = let e : at ≡ at + 0 = omega arith in ap Some e
    by false rest = rest ∙ moved_on at (position (λ (t : Outlet). same_id id t.terminal.equipment && eqb t.terminal.side side) ts)

pub none_or : (o : Option Placed) → option_or None o ≡ o
none_or None = refl
none_or (Some p) = refl

-- a terminal's node in a level, where no bus has the id
level_site : (id : List ℕ) (side : ℕ) (level : PlacedLevel) → has_id level.buses id ≡ false
    → option_map (λ p. p.node) (find (placed_test id side) (translated_level level).placed) ≡ option_map (λ k. length level.buses + k) (position (is_outlet id side) level.outlets)
unfolding translated_level outlets_at
level_site id side level none =
    ap (option_map (λ p. p.node))
    (find-append (placed_test id side) (map bus_section (enumerate_from 0 level.buses)) (map outlet_placed (enumerate_from (length level.buses) level.outlets))
    ∙ ap (λ z. option_or z (find (placed_test id side) (map outlet_placed (enumerate_from (length level.buses) level.outlets)))) (found_bus id side 0 level.buses none)
    ∙ none_or (find (placed_test id side) (map outlet_placed (enumerate_from (length level.buses) level.outlets))))
    ∙ found_outlet id side (length level.buses) level.outlets

-- where a terminal is: at its place among those of its level, and at its node
pub record IsAt (levels : List PlacedLevel) (from : ℕ) (id : List ℕ) (side : ℕ) (found sited : Option (ℕ × ℕ)) : Type 0 where
  pub place : ℕ
  pub own : ℕ
  pub level : PlacedLevel
  pub there : slice_get levels place ≡ Some level
  pub inside : own < length level.outlets
  pub find : found ≡ Some (from + place, own)
  pub site : sited ≡ Some (from + place, length level.buses + own)

abbrev pub level_test : List ℕ → ℕ → PlacedLevel → Option ℕ
level_test id side l = option_map (λ p. p.node) (find (placed_test id side) (translated_level l).placed)

next_at : (levels : List PlacedLevel) (level : PlacedLevel) (from : ℕ) (id : List ℕ) (side : ℕ) (found sited : Option (ℕ × ℕ)) → IsAt levels (from + 1) id side found sited → IsAt (level ∷ levels) from id side found sited
next_at levels level from id side found sited a =
    let e : from + 1 + a.place ≡ from + suc a.place = omega arith in
    record {
      place = suc a.place;
      own = a.own;
      level = a.level;
      there = a.there;
      inside = a.inside;
      find = a.find ∙ ap (λ n. Some (n, a.own)) e;
      site = a.site ∙ ap (λ n. Some (n, length a.level.buses + a.own)) e;
    }

next_either : (levels : List PlacedLevel) (level : PlacedLevel) (from : ℕ) (id : List ℕ) (side : ℕ) (found sited : Option (ℕ × ℕ))
    → ((found ≡ None) × (sited ≡ None)) ⊎ IsAt levels (from + 1) id side found sited → ((found ≡ None) × (sited ≡ None)) ⊎ IsAt (level ∷ levels) from id side found sited
next_either levels level from id side found sited (inl h) = inl h
next_either levels level from id side found sited (inr a) = inr (next_at levels level from id side found sited a)

sited_from : (id : List ℕ) (side from : ℕ) (ls : List PlacedLevel) → has_id (flat_map (λ l. l.buses) ls) id ≡ false
    → ((first_found from (λ (l : PlacedLevel). position (is_outlet id side) l.outlets) ls ≡ None) × (first_found from (level_test id side) ls ≡ None))
    ⊎ IsAt ls from id side (first_found from (λ (l : PlacedLevel). position (is_outlet id side) l.outlets) ls) (first_found from (level_test id side) ls)
sited_from id side from [] none = inl (refl, refl)
sited_from id side from (l ∷ ls) none =
    let parts = or_parts (has_id l.buses id) (has_id (flat_map (λ l. l.buses) ls) id) (sym (has_join l.buses (flat_map (λ l. l.buses) ls) id) ∙ none) in
    by (position (is_outlet id side) l.outlets) (level_test id side l) refl (level_site id side l parts.0) (sited_from id side (from + 1) ls parts.1)
  where
    F : Option (ℕ × ℕ)
    F = first_found (from + 1) (λ (l : PlacedLevel). position (is_outlet id side) l.outlets) ls

    G : Option (ℕ × ℕ)
    G = first_found (from + 1) (level_test id side) ls

    by : (o q : Option ℕ) → position (is_outlet id side) l.outlets ≡ o → q ≡ option_map (λ k. length l.buses + k) (position (is_outlet id side) l.outlets)
        → ((F ≡ None) × (G ≡ None)) ⊎ IsAt ls (from + 1) id side F G
        → ((◌≡◌ {A = Option (ℕ × ℕ)} (elim o [ Some y ↦ Some (from, y) | None ↦ F ]) None) × (◌≡◌ {A = Option (ℕ × ℕ)} (elim q [ Some y ↦ Some (from, y) | None ↦ G ]) None))
        ⊎ IsAt (l ∷ ls) from id side (elim o [ Some y ↦ Some (from, y) | None ↦ F ]) (elim q [ Some y ↦ Some (from, y) | None ↦ G ])
    by None None e f rest = next_either ls l from id side F G rest
    by None (Some n) e f rest = absurd (some_none n (sym (f ∙ ap (option_map (λ k. length l.buses + k)) e)))
    by (Some k) None e f rest = absurd (some_none (length l.buses + k) (f ∙ ap (option_map (λ k. length l.buses + k)) e))
    by (Some k) (Some n) e f rest =
        let same : n ≡ length l.buses + k = some_same n (length l.buses + k) (f ∙ ap (option_map (λ k. length l.buses + k)) e) in
        let zero_more : from ≡ from + 0 = omega arith in
        inr (record {
          place = 0;
          own = k;
          level = l;
          there = refl;
          inside = (position_found (is_outlet id side) l.outlets k e).0;
          find = ap (λ z. Some (z, k)) zero_more;
          site = ap (λ z. Some (from, z)) same ∙ ap (λ z. Some (z, length l.buses + k)) zero_more;
        })

pub buses_from : (network : ConfiguredNetwork) (ls : List ConfiguredLevel) → flat_map (λ (l : PlacedLevel). l.buses) (map (placed_level network) ls) ≡ flat_map (λ l. l.buses) ls
unfolding placed_level
buses_from network [] = refl
buses_from network (l ∷ ls) = ap (λ z. l.buses ++ z) (buses_from network ls)

pub site_is : (network : ConfiguredNetwork) (id : List ℕ) (side : ℕ) → sites.site (translated network) id side ≡ first_found 0 (level_test id side) (placed_levels network)
unfolding sites.site placed_test
site_is network id side =
    ap (first_found 0 (λ (l : VoltageLevel). option_map (λ p. p.node) (find (placed_test id side) l.placed))) (levels_are network)
    ∙ found_mapped 0 (λ (l : VoltageLevel). option_map (λ p. p.node) (find (placed_test id side) l.placed)) translated_level (placed_levels network)

-- a terminal of an id that no bus has is at its node
pub sited : (network : ConfiguredNetwork) (id : List ℕ) (side : ℕ) → has_id (bus_ids network) id ≡ false
    → ((find_outlet network id side ≡ None) × (sites.site (translated network) id side ≡ None)) ⊎ IsAt (placed_levels network) 0 id side (find_outlet network id side) (sites.site (translated network) id side)
unfolding find_outlet bus_ids placed_levels
sited network id side none =
    let ls = placed_levels network in
    let P : Option (ℕ × ℕ) → Type 0 = λ z. ((find_outlet network id side ≡ None) × (z ≡ None)) ⊎ IsAt ls 0 id side (find_outlet network id side) z in
    subst P (sym (site_is network id side)) (sited_from id side 0 ls (ap (λ z. has_id z id) (buses_from network network.levels) ∙ none))
