-- How much there is in a network in which no fault is found: no limit is passed.
use Rattle.std.proofs.Common.{◌≡◌, refl, sym, ap, ◌∙◌, subst, ℕ, ◌+◌, ◌<◌, ◌≤◌, Bool, true, false, cond, List, [], ◌∷◌, ◌++◌, length, Result, Ok, append_assoc, arith}
use Rattle.std.specs.Prelude.{Some, map, flat_map, slice_get, ⊤, All}
use Rattle.std.proofs.lemmas.List.{length-append, length-map}
use Rattle.std.proofs.lemmas.List.Concat.{flat_map-append}
use Rattle.std.proofs.lemmas.List.Sums.{sum_by_push}
use Rattle.std.proofs.lemmas.Option.{get_or_from_slice_get, slice_get_within}
use Rattle.std.proofs.lemmas.Slice.Eq.{bytes_eq-Decides}
use Rattle.grid_lemmas.proofs.Lists.{map_twice}
use Rattle.grid_ids.specs.Name.{same_id}
use Rattle.grid_level.specs.LevelEdits.{max_nodes, max_edges}
use Rattle.grid_level.specs.VoltageLevel.{VoltageLevel}
use Rattle.grid_structure.specs.Sites.{levels, switches}
use Rattle.grid_structure.specs.Editing.{max_levels, max_switches}
use Rattle.grid_structure.proofs.Counts.{times, times-append}
use Rattle.grid_json.specs.declared.fault.Fault.{Fault}
use Rattle.grid_json.specs.declared.buses.BusSwitch.{BusSwitch}
use Rattle.grid_json.specs.declared.buses.BusEnd.{BusEnd}
use Rattle.grid_configured.specs.declared.network.ConfiguredLine.{ConfiguredLine}
use Rattle.grid_configured.specs.declared.network.ConfiguredLevel.{ConfiguredLevel}
use Rattle.grid_configured.specs.declared.network.ConfiguredNetwork.{ConfiguredNetwork}
use Rattle.grid_configured.specs.Checks as checks
use Rattle.grid_configured.specs.Checks.{each_check, ids_of, level_nodes, level_edges, ends_in, line_ends, level_check, bus_check, switch_check, item_check, line_check, IsTranslatable}
use Rattle.grid_configured.specs.Levels.{placed_level, placed_levels}
use Rattle.grid_placed.specs.Translation.{translated_level}
use Rattle.grid_configured.specs.Translation.{translated}
use Rattle.grid_configured.proofs.FaultlessNetworks.{level_right, NetworkRight, network_right, network_once, times_levels, one_level}
use Rattle.grid_configured.proofs.RightParts.{each_right, each_keeps, level_few, bus_few, switch_right, item_right, EndRight, line_right}
use Rattle.grid_configured.proofs.Locations.{levels_are}
use Rattle.grid_configured.proofs.TerminalCounts.{shape, ends_total, ends_most, shape_count}

-- where each thing finds fewer than the most before it, all are no more
each_few : {A : Type 0} (check : List A → A → Result ⊤ Fault) (base most : ℕ) → ((earlier : List A) (x : A) → check earlier x ≡ Ok tt → base + length earlier < most) → (xs : List A) → each_check check [] 0 xs ≡ Ok tt → base ≤ most → base + length xs ≤ most
each_few {A} check base most f xs h few = each_keeps check (λ z. base + length z ≤ most) step [] 0 xs h (omega (arith, few))
  where
    step : (earlier : List A) (x : A) → check earlier x ≡ Ok tt → base + length earlier ≤ most → base + length (earlier ++ x ∷ []) ≤ most
    step earlier x e p = let less = f earlier x e in let longer = length-append earlier (x ∷ []) in omega (arith, less, longer)

pub all_got : {X : Type 0} (P : X → Type 0) (xs : List X) (k : ℕ) (x : X) → All P xs → slice_get xs k ≡ Some x → P x
all_got P xs k x all at = subst P (get_or_from_slice_get xs k x x at) (all k x (slice_get_within xs k x at))

-- ---- levels

-- what stands in a level
pub record LevelFew (switches : ℕ) (l : ConfiguredLevel) : Type 0 where
  pub nodes : level_nodes l ≤ max_nodes
  pub edges : level_edges l ≤ max_edges
  pub switches_few : switches ≤ max_switches → switches + level_edges l ≤ max_switches

parts_few : (earlier : List ConfiguredLevel) (l : ConfiguredLevel) → level_check earlier l ≡ Ok tt → LevelFew (checks.switch_total earlier) l
unfolding level_nodes level_edges
parts_few earlier l h =
    let right = (level_right earlier l h).parts in
    let ids = ids_of earlier ++ l.id ∷ [] in
    let total = checks.switch_total earlier in
    let above = ids ++ (l.buses ++ map (λ (s : BusSwitch). s.id) l.switches) in
    let items = item_check above l.buses (length l.buses) (length l.switches) (total + length l.switches) in
    let switches = switch_check (ids ++ l.buses) l.buses total in
    let buses_most : 0 + length l.buses ≤ max_nodes = each_few (bus_check ids) 0 max_nodes (λ before b e. let less = bus_few ids before b e in omega (arith, less)) l.buses right.buses (omega arith) in
    let edges_most : 0 + length l.switches ≤ max_edges = each_few switches 0 max_edges (λ before s e. let less = (switch_right (ids ++ l.buses) l.buses total before s e).edges_few in omega (arith, less)) l.switches right.switches (omega arith) in
    record {
      nodes = each_few items (length l.buses) max_nodes (λ before t e. (item_right above l.buses (length l.buses) (length l.switches) (total + length l.switches) before t e).few.nodes_few) l.items right.items (omega (arith, buses_most));
      edges = each_few items (length l.switches) max_edges (λ before t e. (item_right above l.buses (length l.buses) (length l.switches) (total + length l.switches) before t e).few.edges_few) l.items right.items (omega (arith, edges_most));
      switches_few = λ few.
          let own = each_few switches total max_switches (λ before s e. (switch_right (ids ++ l.buses) l.buses total before s e).switches_few) l.switches right.switches few in
          let all = each_few items (total + length l.switches) max_switches (λ before t e. (item_right above l.buses (length l.buses) (length l.switches) (total + length l.switches) before t e).few.switches_few) l.items right.items own in
          omega (arith, all);
    }

levels_few : (n : ConfiguredNetwork) → NetworkRight n → length n.levels ≤ max_levels
levels_few n right = let e = each_few level_check 0 max_levels (λ earlier l h. let less = (level_few earlier l h).0 in omega (arith, less)) n.levels right.levels (omega arith) in omega (arith, e)

pub levels_counted : (n : ConfiguredNetwork) → NetworkRight n → length (levels (translated n)) ≤ max_levels
unfolding placed_levels
levels_counted n right =
    let count : length (levels (translated n)) ≡ length n.levels = ap length (levels_are n ∙ map_twice translated_level (placed_level n) n.levels) ∙ length-map n.levels (shape n) in
    let few = levels_few n right in
    omega (arith, count, few)

-- the switches of the levels, and the breakers of their injections
own_switches : (n : ConfiguredNetwork) → NetworkRight n → checks.switch_total n.levels ≤ max_switches
own_switches n right = each_keeps level_check (λ ls. checks.switch_total ls ≤ max_switches) step [] 0 n.levels right.levels (omega arith)
  where
    step : (earlier : List ConfiguredLevel) (l : ConfiguredLevel) → level_check earlier l ≡ Ok tt → checks.switch_total earlier ≤ max_switches → checks.switch_total (earlier ++ l ∷ []) ≤ max_switches
    step earlier l h few = let e = sum_by_push level_edges earlier l in let f = (parts_few earlier l h).switches_few few in omega (arith, e, f)

-- ---- ends of lines

-- what each end leaves as it was, all of them leave
ends_keep : (levels : List ConfiguredLevel) (P : List BusEnd → Type 0) → ((earlier : List BusEnd) (e : BusEnd) → EndRight levels earlier e → P earlier → P (earlier ++ e ∷ []))
    → (lines : List ConfiguredLine) → each_check (line_check levels) [] 0 lines ≡ Ok tt → P [] → P (line_ends lines)
ends_keep levels P f lines h p = each_keeps (line_check levels) (λ z. P (line_ends z)) step [] 0 lines h p
  where
    step : (earlier : List ConfiguredLine) (line : ConfiguredLine) → line_check levels earlier line ≡ Ok tt → P (line_ends earlier) → P (line_ends (earlier ++ line ∷ []))
    step earlier line e q =
        let r = line_right levels earlier line e in
        let one = f (line_ends earlier) line.end1 r.first q in
        let two = f (line_ends earlier ++ line.end1 ∷ []) line.end2 r.second one in
        subst P (append_assoc (line_ends earlier) (line.end1 ∷ []) (line.end2 ∷ []) ∙ sym (flat_map-append (λ (l : ConfiguredLine). l.end1 ∷ l.end2 ∷ []) earlier (line ∷ []))) two

pub once_levels : (n : ConfiguredNetwork) → NetworkRight n → (q : List ℕ) → times q (map (λ (l : ConfiguredLevel). l.id) n.levels) ≤ 1
once_levels n right q =
    let most = (network_once n right).most q in
    let all = times-append q (ids_of n.levels) (map (λ (l : ConfiguredLine). l.id) n.lines) in
    let own = times_levels q n.levels in
    omega (arith, most, all, own)

pub switches_few : (n : ConfiguredNetwork) → NetworkRight n → length (switches (translated n)) ≤ max_switches
unfolding switches placed_levels
switches_few n right =
    let count : length (flat_map (λ (l : VoltageLevel). l.switches) (levels (translated n))) ≡ checks.switch_total n.levels + ends_total n.levels (line_ends n.lines) =
    ap (λ z. length (flat_map (λ (l : VoltageLevel). l.switches) z)) (levels_are n ∙ map_twice translated_level (placed_level n) n.levels) ∙ shape_count n n.levels in
    let most = ends_most n.levels (once_levels n right) (line_ends n.lines) in
    let own = own_switches n right in
    let all = ends_keep n.levels (λ ends. checks.switch_total n.levels + length ends ≤ max_switches)
    (λ earlier e r few. let less = r.few.switches_few in let longer = length-append earlier (e ∷ []) in omega (arith, less, longer)) n.lines right.lines (omega (arith, own)) in
    omega (arith, count, most, all)

-- the nodes and edges of a level with so many ends of lines
pub record LevelKept (l : ConfiguredLevel) (ends : List BusEnd) : Type 0 where
  pub nodes : level_nodes l + ends_in l.id ends ≤ max_nodes
  pub edges : level_edges l + ends_in l.id ends ≤ max_edges

module _ (n : ConfiguredNetwork) (right : NetworkRight n) (k : ℕ) (l : ConfiguredLevel) (at : slice_get n.levels k ≡ Some l) where
  end_kept : (earlier : List BusEnd) (e : BusEnd) → EndRight n.levels earlier e → LevelKept l earlier → LevelKept l (earlier ++ e ∷ [])
  unfolding ends_in
  end_kept earlier e r kept = by (same_id l.id e.level) refl (sum_by_push (λ (e : BusEnd). cond (same_id l.id e.level) 1 0) earlier e)
    where
      by : (t : Bool) → same_id l.id e.level ≡ t → ends_in l.id (earlier ++ e ∷ []) ≡ ends_in l.id earlier + cond t 1 0 → LevelKept l (earlier ++ e ∷ [])
      by true h more =
          let own : l.id ≡ e.level = (bytes_eq-Decides l.id e.level).0 h in
          let same : r.stands.level ≡ l = one_level n right k l at r.stands.level (ap (checks.level_of n.levels) own ∙ r.stands.found) in
          let P : ConfiguredLevel → Type 0 = λ z. (level_nodes z + ends_in e.level earlier < max_nodes) × (level_edges z + ends_in e.level earlier < max_edges) in
          let few = subst P same (r.few.nodes_few, r.few.edges_few) in
          let one : level_nodes l + ends_in e.level earlier < max_nodes = few.0 in
          let two : level_edges l + ends_in e.level earlier < max_edges = few.1 in
          let here : ends_in l.id earlier ≡ ends_in e.level earlier = ap (λ z. ends_in z earlier) own in
          record { nodes = omega (arith, more, one, here); edges = omega (arith, more, two, here) }
      by false h more = let one = kept.nodes in let two = kept.edges in record { nodes = omega (arith, more, one); edges = omega (arith, more, two) }

  pub level_kept : LevelKept l (line_ends n.lines)
  unfolding ends_in
  level_kept =
      let own = each_right level_check (λ m. (level_nodes m ≤ max_nodes) × (level_edges m ≤ max_edges)) (λ earlier m h. let few = parts_few earlier m h in (few.nodes, few.edges)) [] 0 n.levels right.levels in
      let few = all_got (λ m. (level_nodes m ≤ max_nodes) × (level_edges m ≤ max_edges)) n.levels k l own at in
      let nodes : level_nodes l ≤ max_nodes = few.0 in
      let edges : level_edges l ≤ max_edges = few.1 in
      ends_keep n.levels (LevelKept l) end_kept n.lines right.lines (record { nodes = omega (arith, nodes); edges = omega (arith, edges) })

pub few_levels : (n : ConfiguredNetwork) → IsTranslatable n → length n.levels ≤ max_levels
few_levels n h = levels_few n (network_right n h.1)
