-- Buses as equipment of the node/breaker form: where they are, and that connecting and disconnecting them changes nothing.
use Rattle.std.proofs.Common.{◌≡◌, refl, sym, ap, ◌∙◌, subst, ℕ, ℤ, suc, ◌+◌, ◌<◌, ◌≤◌, Bool, true, false, cond, ◌&&◌, ◌||◌, List, [], ◌∷◌, ◌++◌, length, append_assoc, inl, inr, ◌⊎◌, arith}
use Rattle.std.specs.Prelude.{Option, Some, None, Result, eqb, map, find, flat_map, option_map, slice_get}
use Rattle.std.specs.Option.{option_or}
use Rattle.std.specs.List.{list_any, enumerate_from}
use Rattle.std.proofs.lemmas.Bool.{or_parts}
use Rattle.std.proofs.lemmas.List.Folds.{find-append}
use Rattle.grid_ids.specs.Name.{same_id, has_id}
use Rattle.grid_ids.specs.Refusing.{◌>>=◌, found_or}
use Rattle.grid_ids.proofs.Alike.{has_join}
use Rattle.grid_level.specs.declared.Placed.{Placed}
use Rattle.grid_level.specs.declared.Stand.TheVariants.{BranchEnd}
use Rattle.grid_structure.specs.Sites as sites
use Rattle.grid_structure.specs.Sites.{levels, first_found}
use Rattle.grid_states.specs.Rows.{row_at}
use Rattle.grid_core.specs.declared.reply.Refusal.{Refusal}
use Rattle.grid_core.specs.declared.reply.Refusal.TheVariants as refusals
use Rattle.grid_core.specs.Solo as solo
use Rattle.grid_core.specs.Solo.{State, side_of, site_of_side, connected, connected_from, connected_at, disconnected, disconnected_from, disconnected_at}
use Rattle.grid_paths.proofs.Least.{some_same, some_none}
use Rattle.grid_json.specs.declared.buses.BusInjection.{BusInjection}
use Rattle.grid_json.specs.declared.buses.BusEnd.{BusEnd}
use Rattle.grid_configured.specs.declared.network.ConfiguredLine.{ConfiguredLine}
use Rattle.grid_configured.specs.declared.network.ConfiguredLevel.{ConfiguredLevel}
use Rattle.grid_configured.specs.declared.network.ConfiguredNetwork.{ConfiguredNetwork}
use Rattle.grid_placed.specs.Places.{Outlet, PlacedLevel, stood}
use Rattle.grid_configured.specs.Levels.{bus_place, item_outlet, end_outlets, line_outlets, outlets, placed_level, placed_levels}
use Rattle.grid_placed.specs.Translation.{bus_section, outlet_placed, outlets_at, translated_level}
use Rattle.grid_configured.specs.Translation.{translated}
use Rattle.grid_configured.specs.Sites.{bus_ids, item_ids, line_ids, sides}
use Rattle.grid_placed.proofs.PresentLevels.{places_stood}
use Rattle.grid_placed.proofs.ConnectPlans.{connect_bus}
use Rattle.grid_placed.proofs.DisconnectPlans.{disconnect_bus}
use Rattle.grid_configured.proofs.Locations.{placed_test, level_test, site_is, buses_from}
use Rattle.grid_configured.specs.Machine.{Flags}
use Rattle.grid_configured.proofs.Mirrors.{NetworkFits, Mirrors}
use Rattle.grid_configured.proofs.TerminalMirrors.{fits_at, level_there, level_now}

-- ---- no terminal of a level has an id that no injection and no line has

no_item : (id : List ℕ) (side at : ℕ) (level : ConfiguredLevel) (items : List BusInjection) (rest : List Outlet) → has_id (map (λ i. i.id) items) id ≡ false
    → ((from : ℕ) → find (placed_test id side) (map outlet_placed (enumerate_from from rest)) ≡ None) → find (placed_test id side) (map outlet_placed (enumerate_from at (map (item_outlet level) items ++ rest))) ≡ None
unfolding placed_test outlet_placed item_outlet has_id
no_item id side at level [] rest none more = more at
no_item id side at level (i ∷ items) rest none more =
    let parts = or_parts (same_id id i.id) (list_any (same_id id) (map (λ i. i.id) items)) none in
    ap (λ t. cond (t && eqb 1 side) (Some (outlet_placed (at, item_outlet level i))) (find (λ (p : Placed). same_id id p.terminal.equipment && eqb p.terminal.side side) (map outlet_placed (enumerate_from (at + 1) (map (item_outlet level) items ++ rest))))) parts.0
    ∙ no_item id side (at + 1) level items rest parts.1 more

no_end : (id : List ℕ) (side at : ℕ) (level : ConfiguredLevel) (line : List ℕ) (own : ℕ) (end : BusEnd) (rest : List Outlet) → same_id id line ≡ false
    → ((from : ℕ) → find (placed_test id side) (map outlet_placed (enumerate_from from rest)) ≡ None) → find (placed_test id side) (map outlet_placed (enumerate_from at (end_outlets level line own end ++ rest))) ≡ None
unfolding placed_test outlet_placed end_outlets
no_end id side at level line own end rest none more = by (same_id level.id end.level)
  where
    here : Outlet
    here = record { terminal = record { equipment = line; side = own }; place = bus_place level.buses end.bus; connected = end.connected; stand = BranchEnd }

    by : (t : Bool) → find (λ (p : Placed). same_id id p.terminal.equipment && eqb p.terminal.side side) (map outlet_placed (enumerate_from at (cond t (here ∷ []) [] ++ rest))) ≡ None
    by true = ap (λ t. cond (t && eqb own side) (Some (outlet_placed (at, here))) (find (λ (p : Placed). same_id id p.terminal.equipment && eqb p.terminal.side side) (map outlet_placed (enumerate_from (at + 1) rest)))) none ∙ more (at + 1)
    by false = more at

no_line : (id : List ℕ) (side : ℕ) (level : ConfiguredLevel) (lines : List ConfiguredLine) → has_id (map (λ l. l.id) lines) id ≡ false
    → (at : ℕ) → find (placed_test id side) (map outlet_placed (enumerate_from at (flat_map (line_outlets level) lines))) ≡ None
unfolding has_id line_outlets
no_line id side level [] none at = refl
no_line id side level (line ∷ lines) none at =
    let parts = or_parts (same_id id line.id) (list_any (same_id id) (map (λ l. l.id) lines)) none in
    ap (λ z. find (placed_test id side) (map outlet_placed (enumerate_from at z))) (append_assoc (end_outlets level line.id 1 line.end1) (end_outlets level line.id 2 line.end2) (flat_map (line_outlets level) lines))
    ∙ no_end id side at level line.id 1 line.end1 (end_outlets level line.id 2 line.end2 ++ flat_map (line_outlets level) lines) parts.0
    (λ from. no_end id side from level line.id 2 line.end2 (flat_map (line_outlets level) lines) parts.0 (no_line id side level lines parts.1))

-- ---- where a bus is

-- a busbar section that is found is at the node of a bus
found_section : (id : List ℕ) (side at : ℕ) (xs : List (List ℕ)) (p : Placed) → find (placed_test id side) (map bus_section (enumerate_from at xs)) ≡ Some p → (at ≤ p.node) × (p.node < at + length xs)
unfolding bus_section
found_section id side at [] p e = absurd (some_none p e)
found_section id side at (x ∷ xs) p e = by (placed_test id side (bus_section (at, x))) e (found_section id side (at + 1) xs p)
  where
    by : (t : Bool) → cond t (Some (bus_section (at, x))) (find (placed_test id side) (map bus_section (enumerate_from (at + 1) xs))) ≡ Some p
        → (find (placed_test id side) (map bus_section (enumerate_from (at + 1) xs)) ≡ Some p → (at + 1 ≤ p.node) × (p.node < at + 1 + length xs)) → (at ≤ p.node) × (p.node < at + suc (length xs))
    by true h rest = let same : at ≡ p.node = ap (λ (q : Placed). q.node) (some_same (bus_section (at, x)) p h) in (omega (arith, same), omega (arith, same))
    by false h rest = let r = rest h in let one : at + 1 ≤ p.node = r.0 in let two : p.node < at + 1 + length xs = r.1 in (omega (arith, one), omega (arith, two))

-- one of side 1 is found where a bus has the id
no_bus : (id : List ℕ) (at : ℕ) (xs : List (List ℕ)) → find (placed_test id 1) (map bus_section (enumerate_from at xs)) ≡ None → has_id xs id ≡ false
unfolding placed_test bus_section has_id
no_bus id at [] e = refl
no_bus id at (x ∷ xs) e = by (same_id id x) e (no_bus id (at + 1) xs)
  where
    by : (t : Bool) → cond (t && true) (Some (bus_section (at, x))) (find (λ (p : Placed). same_id id p.terminal.equipment && eqb p.terminal.side 1) (map bus_section (enumerate_from (at + 1) xs))) ≡ None
        → (find (λ (p : Placed). same_id id p.terminal.equipment && eqb p.terminal.side 1) (map bus_section (enumerate_from (at + 1) xs)) ≡ None → list_any (same_id id) xs ≡ false) → t || list_any (same_id id) xs ≡ false
    by true h rest = absurd (some_none (bus_section (at, x)) (sym h))
    by false h rest = rest h

-- where it is found
pub record IsBusAt (levels : List PlacedLevel) (from : ℕ) (sited : Option (ℕ × ℕ)) : Type 0 where
  pub place : ℕ
  pub node : ℕ
  pub level : PlacedLevel
  pub there : slice_get levels place ≡ Some level
  pub inside : node < length level.buses
  pub site : sited ≡ Some (from + place, node)

next_bus : (ls : List PlacedLevel) (l : PlacedLevel) (from : ℕ) (sited : Option (ℕ × ℕ)) → IsBusAt ls (from + 1) sited → IsBusAt (l ∷ ls) from sited
next_bus ls l from sited a =
    let e : from + 1 + a.place ≡ from + suc a.place = omega arith in
    record { place = suc a.place; node = a.node; level = a.level; there = a.there; inside = a.inside; site = a.site ∙ ap (λ n. Some (n, a.node)) e }

-- not found, and of side 1 only where no bus has the id
IsNoBus : List PlacedLevel → List ℕ → ℕ → Option (ℕ × ℕ) → Type 0
IsNoBus ls id side sited = (sited ≡ None) × (side ≡ 1 → has_id (flat_map (λ l. l.buses) ls) id ≡ false)

module _ (network : ConfiguredNetwork) (id : List ℕ) (side : ℕ) (no_lines : has_id (line_ids network) id ≡ false) where
  outlets_none : (l : ConfiguredLevel) → has_id (map (λ i. i.id) l.items) id ≡ false → find (placed_test id side) (map outlet_placed (enumerate_from (length l.buses) (outlets network l))) ≡ None
  unfolding outlets line_ids
  outlets_none l none = no_item id side (length l.buses) l l.items (flat_map (line_outlets l) network.lines) none (no_line id side l network.lines no_lines)

  or_none : (o q : Option Placed) → q ≡ None → option_or o q ≡ o
  or_none None q e = e
  or_none (Some p) q e = refl

  level_sections : (l : ConfiguredLevel) → has_id (map (λ i. i.id) l.items) id ≡ false
      → level_test id side (placed_level network l) ≡ option_map (λ p. p.node) (find (placed_test id side) (map bus_section (enumerate_from 0 l.buses)))
  unfolding translated_level placed_level outlets_at
  level_sections l none =
      ap (option_map (λ p. p.node))
      (find-append (placed_test id side) (map bus_section (enumerate_from 0 l.buses)) (map outlet_placed (enumerate_from (length l.buses) (outlets network l)))
      ∙ or_none (find (placed_test id side) (map bus_section (enumerate_from 0 l.buses))) (find (placed_test id side) (map outlet_placed (enumerate_from (length l.buses) (outlets network l)))) (outlets_none l none))

  first_bus : (from : ℕ) (l : ConfiguredLevel) (rest : List PlacedLevel) (more : Option (ℕ × ℕ)) (o : Option Placed) (q : Option ℕ) → find (placed_test id side) (map bus_section (enumerate_from 0 l.buses)) ≡ o → q ≡ option_map (λ p. p.node) o
      → IsNoBus rest id side more ⊎ IsBusAt rest (from + 1) more
      → IsNoBus (placed_level network l ∷ rest) id side (elim q [ Some y ↦ Some (from, y) | None ↦ more ]) ⊎ IsBusAt (placed_level network l ∷ rest) from (elim q [ Some y ↦ Some (from, y) | None ↦ more ])
  unfolding IsNoBus placed_level
  first_bus from l rest more (Some p) (Some n) e f k =
      let r = found_section id side 0 l.buses p e in
      let same : n ≡ p.node = some_same n p.node f in
      let lt : p.node < 0 + length l.buses = r.1 in
      let zero_more : from ≡ from + 0 = omega arith in
      inr (record { place = 0; node = n; level = placed_level network l; there = refl; inside = omega (arith, same, lt); site = ap (λ z. Some (z, n)) zero_more })
  first_bus from l rest more (Some p) None e f k = absurd (some_none p.node f)
  first_bus from l rest more None (Some n) e f k = absurd (some_none n (sym f))
  first_bus from l rest more None None e f (inl h) =
      inl (
        h.0,
        λ one. has_join l.buses (flat_map (λ l. l.buses) rest) id
            ∙ ap (λ t. t || has_id (flat_map (λ l. l.buses) rest) id) (no_bus id 0 l.buses (let P : ℕ → Type 0 = λ z. find (placed_test id z) (map bus_section (enumerate_from 0 l.buses)) ≡ None in subst P one e))
            ∙ h.1 one,
      )
  first_bus from l rest more None None e f (inr a) = inr (next_bus rest (placed_level network l) from more a)

  bus_from : (from : ℕ) (ls : List ConfiguredLevel) → has_id (flat_map (λ l. map (λ i. i.id) l.items) ls) id ≡ false
      → IsNoBus (map (placed_level network) ls) id side (first_found from (level_test id side) (map (placed_level network) ls)) ⊎ IsBusAt (map (placed_level network) ls) from (first_found from (level_test id side) (map (placed_level network) ls))
  unfolding IsNoBus has_id
  bus_from from [] none = inl (refl, λ e. refl)
  bus_from from (l ∷ ls) none =
      let parts = or_parts (has_id (map (λ i. i.id) l.items) id) (has_id (flat_map (λ l. map (λ i. i.id) l.items) ls) id) (sym (has_join (map (λ i. i.id) l.items) (flat_map (λ l. map (λ i. i.id) l.items) ls) id) ∙ none) in
      first_bus from l (map (placed_level network) ls) (first_found (from + 1) (level_test id side) (map (placed_level network) ls)) (find (placed_test id side) (map bus_section (enumerate_from 0 l.buses))) (level_test id side (placed_level network l)) refl (level_sections l parts.0) (bus_from (from + 1) ls parts.1)

sides_by : (s t : Bool) → ◌≡◌ {A = Option ℕ} (cond s (Some 1) (cond t (Some 2) None)) None → (s ≡ false) × (t ≡ false)
sides_by true t e = absurd (some_none 1 (sym e))
sides_by false true e = absurd (some_none 2 (sym e))
sides_by false false e = (refl, refl)

no_sides : (network : ConfiguredNetwork) (id : List ℕ) → sides network id ≡ None → (has_id (item_ids network) id ≡ false) × (has_id (line_ids network) id ≡ false)
unfolding sides
no_sides network id e = sides_by (has_id (item_ids network) id) (has_id (line_ids network) id) e

-- the busbar section of a bus, by a side
pub bus_sited : (network : ConfiguredNetwork) (id : List ℕ) (side : ℕ) → sides network id ≡ None
    → ((sites.site (translated network) id side ≡ None) × (side ≡ 1 → has_id (bus_ids network) id ≡ false)) ⊎ IsBusAt (placed_levels network) 0 (sites.site (translated network) id side)
unfolding IsNoBus placed_levels bus_ids item_ids
bus_sited network id side none =
    let parts = no_sides network id none in
    let Q : List (List ℕ) → Type 0 = λ z. ((sites.site (translated network) id side ≡ None) × (side ≡ 1 → has_id z id ≡ false)) ⊎ IsBusAt (placed_levels network) 0 (sites.site (translated network) id side) in
    let P : Option (ℕ × ℕ) → Type 0 = λ z. IsNoBus (placed_levels network) id side z ⊎ IsBusAt (placed_levels network) 0 z in
    subst Q (buses_from network network.levels) (subst P (sym (site_is network id side)) (bus_from network id side parts.1 0 network.levels parts.0))

-- ---- nothing changes

module _ (network : ConfiguredNetwork) (fits : NetworkFits network) (state : State) (m : (flags : Flags) × Mirrors network state flags) where
  stays_at : (sited : Option (ℕ × ℕ)) → IsBusAt (placed_levels network) 0 sited
      → ((connected_from state (found_or sited refusals.NoSide)).0 ≡ state) × ((disconnected_from state (found_or sited refusals.NoSide)).0 ≡ state)
  unfolding connected_from connected_at connected disconnected_from disconnected_at disconnected stood
  stays_at sited a =
      let zero_more : 0 + a.place ≡ a.place = omega arith in
      let site : sited ≡ Some (a.place, a.node) = a.site ∙ ap (λ z. Some (z, a.node)) zero_more in
      let now = stood a.level (row_at m.0.opened a.place) (row_at m.0.connected a.place) in
      let now_fits = places_stood a.level (row_at m.0.opened a.place) (row_at m.0.connected a.place) (fits_at network fits a.place a.level a.there) in
      let there = level_there network fits state m.0 m.1 a.place a.level a.there in
      let level = level_now network fits state m.0 m.1 a.place a.level a.there in
      let close = connect_bus now now_fits a.node a.inside in
      let open' = disconnect_bus now now_fits a.node a.inside in
      (rw (site, there, level, close) refl, rw (site, there, level, open') refl)

  stays_by : (id : List ℕ) (n : ℕ) → sides network id ≡ None
      → ((connected_from state (found_or (sites.site (translated network) id n) refusals.NoSide)).0 ≡ state) × ((disconnected_from state (found_or (sites.site (translated network) id n) refusals.NoSide)).0 ≡ state)
  unfolding connected_from disconnected_from solo.refused
  stays_by id n none = elim (bus_sited network id n none) [
    | inl h ↦ (ap (λ z. (connected_from state (found_or z refusals.NoSide)).0) h.0, ap (λ z. (disconnected_from state (found_or z refusals.NoSide)).0) h.0)
    | inr a ↦ stays_at (sites.site (translated network) id n) a
  ]

  stays_side : (id : List ℕ) → sides network id ≡ None → (o : Option ℕ)
      → ((connected_from state (found_or o refusals.NoSide >>= (λ n. found_or (sites.site (translated network) id n) refusals.NoSide))).0 ≡ state)
      × ((disconnected_from state (found_or o refusals.NoSide >>= (λ n. found_or (sites.site (translated network) id n) refusals.NoSide))).0 ≡ state)
  unfolding connected_from disconnected_from solo.refused
  stays_side id none None = (refl, refl)
  stays_side id none (Some n) = stays_by id n none

  stays_sides : (id : List ℕ) (side : ℤ) → sides network id ≡ None → (o : Option ℕ)
      → ((connected_from state (found_or o refusals.NoEquipment >>= (λ count. found_or (side_of count side) refusals.NoSide >>= (λ n. found_or (sites.site (translated network) id n) refusals.NoSide)))).0 ≡ state)
      × ((disconnected_from state (found_or o refusals.NoEquipment >>= (λ count. found_or (side_of count side) refusals.NoSide >>= (λ n. found_or (sites.site (translated network) id n) refusals.NoSide)))).0 ≡ state)
  unfolding connected_from disconnected_from solo.refused
  stays_sides id side none None = (refl, refl)
  stays_sides id side none (Some count) = stays_side id none (side_of count side)

  -- connecting or disconnecting what is no injection and no line changes nothing
  pub bus_stays : (id : List ℕ) (side : ℤ) → sides network id ≡ None
      → ((connected_from state (site_of_side state.structure id side)).0 ≡ state) × ((disconnected_from state (site_of_side state.structure id side)).0 ≡ state)
  unfolding site_of_side
  bus_stays id side none =
      let P : Result (ℕ × ℕ) Refusal → Type 0 = λ z. ((connected_from state z).0 ≡ state) × ((disconnected_from state z).0 ≡ state) in
      let same : site_of_side state.structure id side ≡ (found_or (sites.sides (translated network) id) refusals.NoEquipment >>= (λ count. found_or (side_of count side) refusals.NoSide >>= (λ n. found_or (sites.site (translated network) id n) refusals.NoSide)))
      = ap (λ z. site_of_side z id side) m.1.structure in
      subst P (sym same) (stays_sides id side none (sites.sides (translated network) id))
