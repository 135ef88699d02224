-- The levels of a network in which no fault is found keep the rules of levels in node/breaker form.
use Rattle.std.proofs.Common.{◌≡◌, refl, ap, ◌∙◌, ℕ, zero, suc, ◌+◌, ◌<◌, ◌≤◌, Bool, true, false, cond, not, ◌&&◌, List, [], ◌∷◌, ◌++◌, length, get_or, Ok, arith}
use Rattle.std.specs.Prelude.{eqb, nat_le, None, is_none, map, flat_map, All}
use Rattle.std.specs.List.{list_all, enumerate_from, range_with_len}
use Rattle.std.proofs.lemmas.Bool.{and_parts, and_from, le-leb, ne_eqb, eq-eqb}
use Rattle.std.proofs.lemmas.List.{append-nil, map-append}
use Rattle.std.proofs.lemmas.List.Elements.{All-map, All-head, All-tail}
use Rattle.std.proofs.lemmas.List.Folds.{list_all-append}
use Rattle.std.proofs.lemmas.List.FromFn.{length-range_with_len}
use Rattle.std.proofs.lemmas.List.Sums.{list_all-from_AllPass}
use Rattle.std.proofs.lemmas.Option.{slice_get-get_or}
use Rattle.grid_lemmas.proofs.Lists.{map_got, map_twice}
use Rattle.grid_ids.specs.Name.{same_id}
use Rattle.grid_kinds.specs.Records.{level_fault, injection_fault}
use Rattle.grid_graph.specs.Components.{places}
use Rattle.grid_level.specs.declared.Switch.{Switch}
use Rattle.grid_level.specs.declared.Placed.{Placed}
use Rattle.grid_level.specs.declared.Stand.TheVariants.{BranchEnd}
use Rattle.grid_level.specs.Passing.{switch_edge, edges, ends, nodes, is_rising}
use Rattle.grid_level.specs.LevelEdits.{max_node, max_nodes, max_edges}
use Rattle.grid_level.specs.Sound.{level_passes, ends_differ, stand_passes, side_passes}
use Rattle.grid_level.proofs.EditUses.{length-edges}
use Rattle.grid_structure.specs.Sites.{levels}
use Rattle.grid_json.specs.declared.buses.BusSwitch.{BusSwitch}
use Rattle.grid_json.specs.declared.buses.BusInjection.{BusInjection}
use Rattle.grid_json.specs.declared.buses.BusEnd.{BusEnd}
use Rattle.grid_configured.specs.declared.network.ConfiguredLine.{ConfiguredLine}
use Rattle.grid_configured.specs.declared.network.ConfiguredLevel.{ConfiguredLevel}
use Rattle.grid_configured.specs.declared.network.ConfiguredNetwork.{ConfiguredNetwork}
use Rattle.grid_configured.specs.Checks as checks
use Rattle.grid_configured.specs.Checks.{ids_of, level_check, switch_check, item_check, line_ends, network_check}
use Rattle.grid_placed.specs.Places.{Outlet, PlacesFit}
use Rattle.grid_placed.specs.Translation.{joint_breaker, outlet_breaker, bus_section, outlet_placed, outlets_at, translated_level}
use Rattle.grid_placed.proofs.Nodes.{StandsWell, level_nodes, node_numbers, places_rise}
use Rattle.grid_configured.specs.Levels.{bus_place, joint_of, item_outlet, end_outlets, line_outlets, outlets, placed_level, placed_levels}
use Rattle.grid_configured.specs.Translation.{translated}
use Rattle.grid_configured.proofs.Locations.{levels_are}
use Rattle.grid_configured.proofs.FaultlessNetworks.{level_right, network_right, translatable_fits}
use Rattle.grid_configured.proofs.RightParts.{each_right, level_few, switch_right, item_right, places_apart}
use Rattle.grid_configured.proofs.TerminalCounts.{shape, next_node, node_count, edge_count}
use Rattle.grid_configured.proofs.Limits.{LevelKept, level_kept, all_got}

-- ---- what is right with a level by itself

-- a switch joins two places
abbrev Joins : ConfiguredLevel → BusSwitch → Type 0
Joins l s = bus_place l.buses s.bus1 ≡ bus_place l.buses s.bus2 → ⊥

record LevelWell (l : ConfiguredLevel) : Type 0 where
  fault : level_fault l.nominal_v None None ≡ None
  switches : All (Joins l) l.switches
  items : All (λ (t : BusInjection). injection_fault t.item ≡ None) l.items

level_well : (earlier : List ConfiguredLevel) (l : ConfiguredLevel) → level_check earlier l ≡ Ok tt → LevelWell l
level_well earlier l h =
    let right = (level_right earlier l h).parts in
    let ids = ids_of earlier ++ l.id ∷ [] in
    let total = checks.switch_total earlier in
    let above = ids ++ (l.buses ++ map (λ (s : BusSwitch). s.id) l.switches) in
    record {
      fault = (level_few earlier l h).1;
      switches = each_right (switch_check (ids ++ l.buses) l.buses total) (Joins l) (λ before s e. let r = switch_right (ids ++ l.buses) l.buses total before s e in places_apart l.buses s.bus1 s.bus2 r.one r.two r.apart) [] 0 l.switches right.switches;
      items = each_right (item_check above l.buses (length l.buses) (length l.switches) (total + length l.switches)) (λ t. injection_fault t.item ≡ None)
          (λ before t e. (item_right above l.buses (length l.buses) (length l.switches) (total + length l.switches) before t e).fault) [] 0 l.items right.items;
    }

-- ---- nodes and edges

range_small : (low count most : ℕ) → low + count ≤ most → list_all (λ m. nat_le m most) (range_with_len low count) ≡ true
range_small low zero most le = refl
range_small low (suc count) most le = and_from (nat_le low most) _ (le-leb low most (omega (arith, le))) (range_small (low + 1) count most (omega (arith, le)))

abbrev switches_differ : List Switch → Type 0
switches_differ ss = list_all ends_differ (map switch_edge ss) ≡ true

joints_differ : (l : ConfiguredLevel) (ss : List BusSwitch) → All (Joins l) ss → switches_differ (map joint_breaker (map (joint_of l) ss))
unfolding ends_differ ends joint_breaker joint_of
joints_differ l [] h = refl
joints_differ l (s ∷ ss) h =
    and_from (not (eqb (bus_place l.buses s.bus1) (bus_place l.buses s.bus2))) _ (ap not (ne_eqb (bus_place l.buses s.bus1) (bus_place l.buses s.bus2) (All-head (Joins l) s ss h))) (joints_differ l ss (All-tail (Joins l) s ss h))

outlets_differ : (most at : ℕ) (ts : List Outlet) → most ≤ at → All (StandsWell most) ts → switches_differ (map outlet_breaker (enumerate_from at ts))
unfolding ends_differ ends outlet_breaker
outlets_differ most at [] le h = refl
outlets_differ most at (t ∷ ts) le h =
    let less : t.place < most = (All-head (StandsWell most) t ts h).0 in
    and_from (not (eqb t.place at)) _ (ap not (ne_eqb t.place at (λ e. absurd (omega (arith, e, less, le))))) (outlets_differ most (at + 1) ts (omega (arith, le)) (All-tail (StandsWell most) t ts h))

-- ---- terminals

abbrev stand_well : List Placed → Type 0
stand_well ps = list_all stand_passes ps ≡ true

buses_stand : (at : ℕ) (buses : List (List ℕ)) → stand_well (map bus_section (enumerate_from at buses))
unfolding stand_passes side_passes bus_section
buses_stand at [] = refl
buses_stand at (b ∷ buses) = and_from (eqb 1 1) _ (eq-eqb 1 1 refl) (buses_stand (at + 1) buses)

outlets_stand : (at : ℕ) (ts : List Outlet) → list_all (λ (t : Outlet). side_passes t.terminal.side t.stand) ts ≡ true → stand_well (map outlet_placed (enumerate_from at ts))
unfolding stand_passes outlet_placed
outlets_stand at [] h = refl
outlets_stand at (t ∷ ts) h = let parts = and_parts (side_passes t.terminal.side t.stand) _ h in and_from (side_passes t.terminal.side t.stand) _ parts.0 (outlets_stand (at + 1) ts parts.1)

items_stand : (l : ConfiguredLevel) (items : List BusInjection) → All (λ (t : BusInjection). injection_fault t.item ≡ None) items → list_all (λ (t : Outlet). side_passes t.terminal.side t.stand) (map (item_outlet l) items) ≡ true
unfolding side_passes item_outlet
items_stand l [] h = refl
items_stand l (t ∷ items) h =
    and_from (eqb 1 1 && is_none (injection_fault t.item)) _ (and_from (eqb 1 1) (is_none (injection_fault t.item)) (eq-eqb 1 1 refl) (ap is_none (All-head (λ (t : BusInjection). injection_fault t.item ≡ None) t items h)))
    (items_stand l items (All-tail (λ (t : BusInjection). injection_fault t.item ≡ None) t items h))

end_stands : (l : ConfiguredLevel) (id : List ℕ) (side : ℕ) (e : BusEnd) → list_all (λ (t : Outlet). side_passes t.terminal.side t.stand) (end_outlets l id side e) ≡ true
unfolding side_passes end_outlets
end_stands l id side e = by (same_id l.id e.level)
  where
    by : (t : Bool) → list_all (λ (t : Outlet). side_passes t.terminal.side t.stand) (cond t (record { terminal = record { equipment = id; side = side }; place = bus_place l.buses e.bus; connected = e.connected; stand = BranchEnd } ∷ []) []) ≡ true
    by true = refl
    by false = refl

lines_stand : (l : ConfiguredLevel) (lines : List ConfiguredLine) → list_all (λ (t : Outlet). side_passes t.terminal.side t.stand) (flat_map (line_outlets l) lines) ≡ true
unfolding line_outlets
lines_stand l [] = refl
lines_stand l (line ∷ lines) =
    let pass : Outlet → Bool = λ t. side_passes t.terminal.side t.stand in
    let one = end_outlets l line.id 1 line.end1 in
    let two = end_outlets l line.id 2 line.end2 in
    list_all-append pass (one ++ two) (flat_map (line_outlets l) lines)
    ∙ and_from _ _ (list_all-append pass one two ∙ and_from _ _ (end_stands l line.id 1 line.end1) (end_stands l line.id 2 line.end2)) (lines_stand l lines)

-- ---- levels

module _ (n : ConfiguredNetwork) (l : ConfiguredLevel) (fit : PlacesFit (placed_level n l)) (well : LevelWell l) (kept : LevelKept l (line_ends n.lines)) where
  nodes_are : nodes (shape n l) ≡ range_with_len 0 (next_node (placed_level n l))
  unfolding places
  nodes_are = level_nodes (placed_level n l) fit

  few_nodes : next_node (placed_level n l) ≤ max_nodes
  few_nodes = let count = node_count n l in let few = kept.nodes in omega (arith, count, few)

  few_edges : length (edges (shape n l)) ≤ max_edges
  unfolding translated_level
  few_edges = let count = length-edges (shape n l) in let own = edge_count n l in let few = kept.edges in omega (arith, count, own, few)

  all_differ : list_all ends_differ (edges (shape n l)) ≡ true
  unfolding edges translated_level placed_level outlets_at
  all_differ =
      let joints = map joint_breaker (map (joint_of l) l.switches) in
      let breakers = map outlet_breaker (enumerate_from (length l.buses) (outlets n l)) in
      ap (list_all ends_differ) (append-nil (map switch_edge (joints ++ breakers)) ∙ map-append switch_edge joints breakers)
      ∙ list_all-append ends_differ (map switch_edge joints) (map switch_edge breakers)
      ∙ and_from _ _ (joints_differ l l.switches well.switches) (outlets_differ (length l.buses) (length l.buses) (outlets n l) (omega arith) fit.outlets)

  all_stand : stand_well (shape n l).placed
  unfolding translated_level placed_level outlets_at outlets
  all_stand =
      let sections = map bus_section (enumerate_from 0 l.buses) in
      let terminals = map outlet_placed (enumerate_from (length l.buses) (outlets n l)) in
      list_all-append stand_passes sections terminals
      ∙ and_from _ _ (buses_stand 0 l.buses)
      (outlets_stand (length l.buses) (outlets n l)
      (list_all-append (λ (t : Outlet). side_passes t.terminal.side t.stand) (map (item_outlet l) l.items) (flat_map (line_outlets l) n.lines)
      ∙ and_from _ _ (items_stand l l.items well.items) (lines_stand l n.lines)))

  all_rise : is_rising (map (λ (p : Placed). p.node) (shape n l).placed) ≡ true
  all_rise = ap is_rising (node_numbers (placed_level n l)) ∙ places_rise (next_node (placed_level n l))

  no_fault : is_none (level_fault (shape n l).nominal_v (shape n l).low_v (shape n l).high_v) ≡ true
  unfolding translated_level placed_level
  no_fault = ap is_none well.fault

  level_sound : level_passes (shape n l) ≡ true
  unfolding level_passes
  level_sound =
      let small = ap (list_all (λ m. nat_le m max_node)) nodes_are ∙ range_small 0 (next_node (placed_level n l)) max_node (let few = few_nodes in omega (arith, few)) in
      let count : length (nodes (shape n l)) ≤ max_nodes = (let e = ap length nodes_are in let f = length-range_with_len 0 (next_node (placed_level n l)) in let few = few_nodes in omega (arith, e, f, few)) in
      and_from _ _ small
      (and_from _ _ (le-leb (length (nodes (shape n l))) max_nodes count)
      (and_from _ _ (le-leb (length (edges (shape n l))) max_edges few_edges) (and_from _ _ all_differ (and_from _ _ all_rise (and_from _ _ all_stand no_fault)))))

pub levels_pass : (n : ConfiguredNetwork) → network_check n ≡ Ok tt → list_all level_passes (levels (translated n)) ≡ true
unfolding placed_levels
levels_pass n h =
    let right = network_right n h in
    let fits = (translatable_fits n h).places in
    let well = each_right level_check LevelWell level_well [] 0 n.levels right.levels in
    ap (list_all level_passes) (levels_are n ∙ map_twice translated_level (placed_level n) n.levels)
    ∙ list_all-from_AllPass level_passes (map (shape n) n.levels)
    (All-map (λ v. level_passes v ≡ true) (shape n) n.levels
    (λ i d less.
    let l = get_or n.levels i d in
    let at = slice_get-get_or n.levels i d less in
    level_sound n l (all_got PlacesFit (placed_levels n) i (placed_level n l) fits (map_got (placed_level n) n.levels i l at)) (well i d less) (level_kept n right i l at)))
