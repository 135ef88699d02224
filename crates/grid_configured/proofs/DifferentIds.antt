-- The ids of a network in node/breaker form differ: those of the network with configured buses, and those that are added.
use Rattle.std.proofs.Common.{◌≡◌, refl, ap, ◌∙◌, ℕ, ◌+◌, ◌≤◌, Bool, true, false, cond, List, [], ◌∷◌, ◌++◌, length, arith}
use Rattle.std.specs.Prelude.{map, flat_map, codes}
use Rattle.std.specs.List.{enumerate_from}
use Rattle.std.proofs.lemmas.List.{map-append}
use Rattle.grid_lemmas.proofs.Lists.{map_twice}
use Rattle.grid_ids.specs.Name.{same_id, ids_differ}
use Rattle.grid_level.specs.declared.Switch.{Switch}
use Rattle.grid_level.specs.VoltageLevel.{VoltageLevel}
use Rattle.grid_structure.specs.declared.NamedBranch.{NamedBranch}
use Rattle.grid_structure.specs.Network.{Substation}
use Rattle.grid_structure.specs.Sites as sites
use Rattle.grid_structure.specs.Sites.{levels, switches, branches, all_ids, equipment_ids}
use Rattle.grid_structure.proofs.Counts.{times, times-append, not_there, times-differ}
use Rattle.grid_json.specs.declared.buses.BusSwitch.{BusSwitch}
use Rattle.grid_json.specs.declared.buses.BusInjection.{BusInjection}
use Rattle.grid_configured.specs.declared.network.ConfiguredLine.{ConfiguredLine}
use Rattle.grid_configured.specs.declared.network.ConfiguredLevel.{ConfiguredLevel}
use Rattle.grid_configured.specs.declared.network.ConfiguredNetwork.{ConfiguredNetwork}
use Rattle.grid_configured.specs.Checks.{level_ids, ids_of}
use Rattle.grid_placed.specs.Places.{Outlet}
use Rattle.grid_placed.specs.Translation.{joint_breaker, breaker_id, outlet_breaker, outlets_at, translated_level}
use Rattle.grid_placed.proofs.Nodes.{enumerated}
use Rattle.grid_configured.specs.Levels.{joint_of, item_outlet, line_outlets, outlets, placed_level, placed_levels}
use Rattle.grid_configured.specs.Translation.{substation_id, substation_of, translated_line, translated}
use Rattle.grid_configured.proofs.Locations.{is_marked, own_ids, levels_are, single_ids_are, branches_are}
use Rattle.grid_configured.proofs.FaultlessNetworks.{NetworkRight, network_once}
use Rattle.grid_configured.proofs.PlainNetworks.{Each, each_join, Unmarked, tagged_marked, plain_apart, none_marked, home_tagged, PlainLevel, PlainNetwork}
use Rattle.grid_configured.proofs.TerminalCounts.{shape}
use Rattle.grid_configured.proofs.Limits.{once_levels}
use Rattle.grid_configured.proofs.AddedIds.{spread, never, front, each_tagged, breakers, unmarked_none, breakers_join, lines_breakers, items_breakers}

joint_ids : (l : ConfiguredLevel) (ss : List BusSwitch) → map (λ (s : Switch). s.id) (map joint_breaker (map (joint_of l) ss)) ≡ map (λ (s : BusSwitch). s.id) ss
unfolding joint_breaker joint_of
joint_ids l [] = refl
joint_ids l (s ∷ ss) = ap (λ z. s.id ∷ z) (joint_ids l ss)

line_ids_are : (n : ConfiguredNetwork) (lines : List ConfiguredLine) → map (λ (b : NamedBranch). b.id) (map (translated_line n) lines) ≡ map (λ (l : ConfiguredLine). l.id) lines
unfolding translated_line
line_ids_are n [] = refl
line_ids_are n (l ∷ lines) = ap (λ z. l.id ∷ z) (line_ids_are n lines)

module _ (n : ConfiguredNetwork) where
  abbrev homes : List (List ℕ)
  homes = map (λ (l : ConfiguredLevel). substation_id l.id) n.levels

  abbrev added : List (List ℕ)
  added = flat_map (λ l. breakers (outlets n l)) n.levels

  abbrev plain_ids : List (List ℕ)
  plain_ids = ids_of n.levels ++ map (λ (l : ConfiguredLine). l.id) n.lines

  homes_are : map (λ (s : Substation). s.id) (translated n).substations ≡ homes
  unfolding translated substation_of
  homes_are = map_twice (λ (s : Substation). s.id) (substation_of n) n.levels

  level_ids_are : sites.level_ids (translated n) ≡ map (λ (l : ConfiguredLevel). l.id) n.levels
  unfolding sites.level_ids placed_levels translated_level placed_level
  level_ids_are =
      ap (map (λ (v : VoltageLevel). v.id)) (levels_are n ∙ map_twice translated_level (placed_level n) n.levels) ∙ map_twice (λ (v : VoltageLevel). v.id) (shape n) n.levels

  switch_ids_of : (l : ConfiguredLevel) → map (λ (s : Switch). s.id) (shape n l).switches ≡ map (λ (s : BusSwitch). s.id) l.switches ++ breakers (outlets n l)
  unfolding translated_level placed_level outlets_at outlet_breaker
  switch_ids_of l =
      let es = enumerate_from (length l.buses) (outlets n l) in
      map-append (λ (s : Switch). s.id) (map joint_breaker (map (joint_of l) l.switches)) (map outlet_breaker es)
      ∙ ap (λ z. z ++ map (λ (s : Switch). s.id) (map outlet_breaker es)) (joint_ids l l.switches)
      ∙ ap (λ z. map (λ (s : BusSwitch). s.id) l.switches ++ z) (map_twice (λ (s : Switch). s.id) outlet_breaker es ∙ enumerated (λ (t : Outlet). breaker_id t.terminal) (length l.buses) (outlets n l))

  switch_ids_from : (ls : List ConfiguredLevel) → map (λ (s : Switch). s.id) (flat_map (λ (v : VoltageLevel). v.switches) (map (shape n) ls)) ≡ flat_map (λ l. map (λ (s : BusSwitch). s.id) l.switches ++ breakers (outlets n l)) ls
  switch_ids_from [] = refl
  switch_ids_from (l ∷ ls) =
      map-append (λ (s : Switch). s.id) (shape n l).switches (flat_map (λ (v : VoltageLevel). v.switches) (map (shape n) ls))
      ∙ ap (λ z. z ++ map (λ (s : Switch). s.id) (flat_map (λ (v : VoltageLevel). v.switches) (map (shape n) ls))) (switch_ids_of l)
      ∙ ap (λ z. (map (λ (s : BusSwitch). s.id) l.switches ++ breakers (outlets n l)) ++ z) (switch_ids_from ls)

  switch_ids_are : sites.switch_ids (translated n) ≡ flat_map (λ l. map (λ (s : BusSwitch). s.id) l.switches ++ breakers (outlets n l)) n.levels
  unfolding sites.switch_ids switches placed_levels
  switch_ids_are =
      ap (λ z. map (λ (s : Switch). s.id) (flat_map (λ (v : VoltageLevel). v.switches) z)) (levels_are n ∙ map_twice translated_level (placed_level n) n.levels) ∙ switch_ids_from n.levels

  branch_ids_are : sites.branch_ids (translated n) ≡ map (λ (l : ConfiguredLine). l.id) n.lines
  unfolding sites.branch_ids
  branch_ids_are = ap (map (λ (b : NamedBranch). b.id)) (branches_are n) ∙ line_ids_are n n.lines

  own_times : (q : List ℕ) (ls : List ConfiguredLevel)
      → times q (ids_of ls) ≡ times q (map (λ (l : ConfiguredLevel). l.id) ls) + (times q (flat_map (λ l. map (λ (s : BusSwitch). s.id) l.switches) ls) + times q (flat_map own_ids ls))
  unfolding level_ids own_ids
  own_times q [] = omega arith
  own_times q (l ∷ ls) =
      let switch_ids = map (λ (s : BusSwitch). s.id) l.switches in
      let item_ids = map (λ (t : BusInjection). t.id) l.items in
      let a = times-append q (l.id ∷ (l.buses ++ (switch_ids ++ item_ids))) (ids_of ls) in
      let b = times-append q l.buses (switch_ids ++ item_ids) in
      let c = times-append q switch_ids item_ids in
      let d = times-append q switch_ids (flat_map (λ l. map (λ (s : BusSwitch). s.id) l.switches) ls) in
      let e = times-append q (l.buses ++ item_ids) (flat_map own_ids ls) in
      let f = times-append q l.buses item_ids in
      let g = own_times q ls in
      omega (arith, a, b, c, d, e, f, g)

  -- each id is one of the network with configured buses, or added
  times_all : (q : List ℕ) → times q (all_ids (translated n)) ≡ times q plain_ids + (times q homes + times q added)
  unfolding all_ids equipment_ids
  times_all q =
      let subs = map (λ (s : Substation). s.id) (translated n).substations in
      let a = times-append q ((subs ++ sites.level_ids (translated n)) ++ sites.switch_ids (translated n)) (sites.single_ids (translated n) ++ sites.branch_ids (translated n)) in
      let b = times-append q (subs ++ sites.level_ids (translated n)) (sites.switch_ids (translated n)) in
      let c = times-append q subs (sites.level_ids (translated n)) in
      let d = times-append q (sites.single_ids (translated n)) (sites.branch_ids (translated n)) in
      let e = ap (times q) homes_are in
      let f = ap (times q) level_ids_are in
      let g = ap (times q) switch_ids_are ∙ spread q (λ l. map (λ (s : BusSwitch). s.id) l.switches ++ breakers (outlets n l)) (λ l. map (λ (s : BusSwitch). s.id) l.switches) (λ l. breakers (outlets n l))
      (λ l. times-append q (map (λ (s : BusSwitch). s.id) l.switches) (breakers (outlets n l))) n.levels in
      let h = ap (times q) (single_ids_are n) in
      let i = ap (times q) branch_ids_are in
      let j = own_times q n.levels in
      let k = times-append q (ids_of n.levels) (map (λ (l : ConfiguredLine). l.id) n.lines) in
      omega (arith, a, b, c, d, e, f, g, h, i, j, k)

module _ (n : ConfiguredNetwork) (right : NetworkRight n) (plain : PlainNetwork n) where
  level_plain : (l : ConfiguredLevel) → PlainLevel l → Each Unmarked (level_ids l)
  unfolding level_ids
  level_plain l p = (p.own, each_join Unmarked l.buses (map (λ (s : BusSwitch). s.id) l.switches ++ map (λ (t : BusInjection). t.id) l.items) p.buses (each_join Unmarked (map (λ (s : BusSwitch). s.id) l.switches) (map (λ (t : BusInjection). t.id) l.items) p.switches p.items))

  levels_plain : (ls : List ConfiguredLevel) → Each PlainLevel ls → Each Unmarked (ids_of ls)
  levels_plain [] h = tt
  levels_plain (l ∷ ls) h = each_join Unmarked (level_ids l) (ids_of ls) (level_plain l h.0) (levels_plain ls h.1)

  own_ids_plain : (ls : List ConfiguredLevel) → Each PlainLevel ls → Each Unmarked (map (λ (l : ConfiguredLevel). l.id) ls)
  own_ids_plain [] h = tt
  own_ids_plain (l ∷ ls) h = (h.0.own, own_ids_plain ls h.1)

  -- an id with the byte is none of the network with configured buses
  marked_added : (q : List ℕ) → is_marked q ≡ true → times q (plain_ids n) ≡ 0
  marked_added q m = not_there q (plain_ids n) (none_marked q (plain_ids n) m (each_join Unmarked (ids_of n.levels) (map (λ (l : ConfiguredLine). l.id) n.lines) (levels_plain n.levels plain.levels) plain.lines))

  homes_marked : (q : List ℕ) (ls : List ConfiguredLevel) → Unmarked q → times q (map (λ (l : ConfiguredLevel). substation_id l.id) ls) ≡ 0
  homes_marked q [] p = refl
  homes_marked q (l ∷ ls) p =
      let none : ◌≡◌ {A = ℕ} (cond (same_id q (substation_id l.id)) 1 0) 0 = ap (λ t. cond t 1 0) (plain_apart q (substation_id l.id) p (ap is_marked (home_tagged l.id) ∙ tagged_marked l.id (codes "S"))) in
      let rest = homes_marked q ls p in
      omega (arith, none, rest)

  -- what is added is added once
  added_once : (q : List ℕ) → times q (homes n) + times q (added n) ≤ 1
  unfolding outlets own_ids
  added_once q =
      let a = each_tagged q (codes "S") (λ (l : ConfiguredLevel). substation_id l.id) (λ l. l.id) (λ l. home_tagged l.id) n.levels (own_ids_plain n.levels plain.levels) in
      let b = spread q (λ l. breakers (outlets n l)) (λ l. breakers (map (item_outlet l) l.items)) (λ l. breakers (flat_map (line_outlets l) n.lines)) (λ l. breakers_join q (map (item_outlet l) l.items) (flat_map (line_outlets l) n.lines)) n.levels in
      let c = items_breakers q n.levels plain.levels in
      let d = lines_breakers q n.levels (once_levels n right) n.lines plain.lines in
      let e = own_times n (front q) n.levels in
      let f = spread (front q) own_ids (λ l. l.buses) (λ l. map (λ (t : BusInjection). t.id) l.items) (λ l. times-append (front q) l.buses (map (λ (t : BusInjection). t.id) l.items)) n.levels in
      let g = times-append (front q) (ids_of n.levels) (map (λ (l : ConfiguredLine). l.id) n.lines) in
      let most = (network_once n right).most (front q) in
      omega (arith, a, b, c, d, e, f, g, most)

  each_once : (q : List ℕ) → times q (all_ids (translated n)) ≤ 1
  each_once q = by (is_marked q) refl
    where
      all : times q (all_ids (translated n)) ≡ times q (plain_ids n) + (times q (homes n) + times q (added n))
      all = times_all n q

      by : (t : Bool) → is_marked q ≡ t → times q (all_ids (translated n)) ≤ 1
      by true m = let none = marked_added q m in let once = added_once q in omega (arith, all, none, once)
      by false p =
          let none = homes_marked q n.levels p in
          let no_breakers = never q (λ l. breakers (outlets n l)) (λ l. unmarked_none q (outlets n l) p) n.levels in
          let once = (network_once n right).most q in
          omega (arith, all, none, no_breakers, once)

  pub all_differ : ids_differ (all_ids (translated n)) ≡ true
  all_differ = times-differ (all_ids (translated n)) each_once
