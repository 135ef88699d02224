-- The ends of lines in one level stand where the lines' records say, and no others do.
use Rattle.std.proofs.Common.{◌≡◌, refl, sym, ap, ◌∙◌, ℕ, pos, zero, suc, ◌+◌, Bool, true, false, cond, ◌&&◌, ◌||◌, List, [], ◌∷◌, ◌++◌, length, Ok, append_assoc, arith}
use Rattle.std.specs.Prelude.{eqb, Some, None, map, filter, find, flat_map, position, option_map, unwrap_or, slice_get, decimal}
use Rattle.std.specs.List.{list_any, enumerate_from}
use Rattle.std.proofs.lemmas.Bool.{and_from, or_parts, eq-eqb}
use Rattle.std.proofs.lemmas.List.{append-nil, map-append, length-append}
use Rattle.std.proofs.lemmas.List.Concat.{flat_map-append}
use Rattle.std.proofs.lemmas.List.Elements.{filter-append}
use Rattle.std.proofs.lemmas.List.Folds.{list_any-append}
use Rattle.std.proofs.lemmas.Slice.Eq.{bytes_eq-Decides}
use Rattle.grid_lemmas.proofs.Bools.{neither, and_false}
use Rattle.grid_lemmas.proofs.Lists.{position-cons, position_behind}
use Rattle.grid_ids.specs.Name.{same_id, has_id}
use Rattle.grid_ids.proofs.Alike.{has_join, same_itself}
use Rattle.grid_level.specs.declared.Placed.{Placed}
use Rattle.grid_level.specs.declared.Stand.TheVariants.{BranchEnd}
use Rattle.grid_level.specs.Passing.{is_branch_end}
use Rattle.grid_structure.specs.declared.NamedBranch.{NamedBranch}
use Rattle.grid_structure.specs.Sites.{branch_ends}
use Rattle.grid_structure.specs.Soundness.{sides_from, record_sides}
use Rattle.grid_structure.proofs.Sides.{Side, sides_at, sides_of}
use Rattle.grid_paths.proofs.Least.{some_same, some_none}
use Rattle.grid_json.specs.Reading.{under}
use Rattle.grid_json.proofs.Results.{bound, inside}
use Rattle.grid_json.specs.declared.buses.BusSwitch.{BusSwitch}
use Rattle.grid_json.specs.declared.buses.BusInjection.{BusInjection}
use Rattle.grid_json.specs.declared.buses.BusEnd.{BusEnd}
use Rattle.grid_configured.specs.declared.network.ConfiguredLine.{ConfiguredLine}
use Rattle.grid_configured.specs.declared.network.ConfiguredLevel.{ConfiguredLevel}
use Rattle.grid_configured.specs.declared.network.ConfiguredNetwork.{ConfiguredNetwork}
use Rattle.grid_configured.specs.Checks as checks
use Rattle.grid_configured.specs.Checks.{each_check, level_ids, ids_of, line_check}
use Rattle.grid_placed.specs.Places.{Outlet, PlacedLevel}
use Rattle.grid_placed.specs.Translation.{bus_section, outlet_placed, outlets_at, translated_level}
use Rattle.grid_configured.specs.Levels.{bus_place, item_outlet, end_outlets, line_outlets, outlets, placed_level, placed_levels}
use Rattle.grid_configured.specs.Sites.{is_outlet}
use Rattle.grid_configured.specs.Translation.{terminal_node, node_in, translated_end, translated_line, translated}
use Rattle.grid_configured.proofs.Locations.{branches_are}
use Rattle.grid_configured.proofs.FaultlessNetworks.{NetworkRight, fresh_line, one_level}
use Rattle.grid_configured.proofs.RightParts.{line_stands}
use Rattle.grid_configured.proofs.TerminalCounts.{shape}

-- ---- terminals of other equipment

no_items : (l : ConfiguredLevel) (id : List ℕ) (side : ℕ) (items : List BusInjection) → has_id (map (λ (t : BusInjection). t.id) items) id ≡ false → list_any (is_outlet id side) (map (item_outlet l) items) ≡ false
unfolding has_id is_outlet item_outlet
no_items l id side [] h = refl
no_items l id side (t ∷ items) h =
    let parts = or_parts (same_id id t.id) (has_id (map (λ (t : BusInjection). t.id) items) id) h in
    ap (λ z. (z && eqb 1 side) || list_any (is_outlet id side) (map (item_outlet l) items)) parts.0 ∙ no_items l id side items parts.1

pub no_end : (l : ConfiguredLevel) (id : List ℕ) (side : ℕ) (line : List ℕ) (of : ℕ) (e : BusEnd) → (same_id id line && eqb of side) ≡ false → list_any (is_outlet id side) (end_outlets l line of e) ≡ false
unfolding is_outlet end_outlets
no_end l id side line of e h = by (same_id l.id e.level)
  where
    by : (t : Bool) → list_any (λ (o : Outlet). same_id id o.terminal.equipment && eqb o.terminal.side side) (cond t (record { terminal = record { equipment = line; side = of }; place = bus_place l.buses e.bus; connected = e.connected; stand = BranchEnd } ∷ []) []) ≡ false
    by true = ap (λ z. z || false) h
    by false = refl

no_lines : (l : ConfiguredLevel) (id : List ℕ) (side : ℕ) (lines : List ConfiguredLine) → has_id (map (λ (l : ConfiguredLine). l.id) lines) id ≡ false → list_any (is_outlet id side) (flat_map (line_outlets l) lines) ≡ false
unfolding has_id line_outlets
no_lines l id side [] h = refl
no_lines l id side (line ∷ lines) h =
    let parts = or_parts (same_id id line.id) (has_id (map (λ (l : ConfiguredLine). l.id) lines) id) h in
    let one = end_outlets l line.id 1 line.end1 in
    let two = end_outlets l line.id 2 line.end2 in
    list_any-append (is_outlet id side) (one ++ two) (flat_map (line_outlets l) lines)
    ∙ neither _ _
    (list_any-append (is_outlet id side) one two ∙ neither _ _ (no_end l id side line.id 1 line.end1 (ap (λ z. z && eqb 1 side) parts.0)) (no_end l id side line.id 2 line.end2 (ap (λ z. z && eqb 2 side) parts.0)))
    (no_lines l id side lines parts.1)

join_parts : (xs ys : List (List ℕ)) (id : List ℕ) → has_id (xs ++ ys) id ≡ false → (has_id xs id ≡ false) × (has_id ys id ≡ false)
join_parts xs ys id h = or_parts (has_id xs id) (has_id ys id) (sym (has_join xs ys id) ∙ h)

-- an id that nothing in the levels has is that of no injection of one
other_items : (ls : List ConfiguredLevel) (k : ℕ) (l : ConfiguredLevel) (id : List ℕ) → slice_get ls k ≡ Some l → has_id (ids_of ls) id ≡ false → has_id (map (λ (t : BusInjection). t.id) l.items) id ≡ false
unfolding level_ids
other_items [] k l id at h = absurd (some_none l at)
other_items (m ∷ ls) zero l id at h =
    let all = join_parts (m.id ∷ []) (m.buses ++ (map (λ (s : BusSwitch). s.id) m.switches ++ map (λ (t : BusInjection). t.id) m.items)) id (join_parts (level_ids m) (ids_of ls) id h).0 in
    let parts = join_parts m.buses (map (λ (s : BusSwitch). s.id) m.switches ++ map (λ (t : BusInjection). t.id) m.items) id all.1 in
    ap (λ (z : ConfiguredLevel). has_id (map (λ (t : BusInjection). t.id) z.items) id) (sym (some_same m l at)) ∙ (join_parts (map (λ (s : BusSwitch). s.id) m.switches) (map (λ (t : BusInjection). t.id) m.items) id parts.1).1
other_items (m ∷ ls) (suc k) l id at h = other_items ls k l id at (join_parts (level_ids m) (ids_of ls) id h).1

-- ---- sides

sides_join : (id : List ℕ) (xs ys : List Placed) → sides_at id (xs ++ ys) ≡ sides_at id xs ++ sides_at id ys
sides_join id xs ys =
    ap (map (λ (p : Placed). (p.terminal.equipment, p.terminal.side, id, pos p.node))) (filter-append (λ (p : Placed). is_branch_end p.stand) xs ys)
    ∙ map-append (λ (p : Placed). (p.terminal.equipment, p.terminal.side, id, pos p.node)) (filter (λ (p : Placed). is_branch_end p.stand) xs) (filter (λ (p : Placed). is_branch_end p.stand) ys)

no_sections : (id : List ℕ) (at : ℕ) (buses : List (List ℕ)) → sides_at id (map bus_section (enumerate_from at buses)) ≡ []
unfolding bus_section is_branch_end
no_sections id at [] = refl
no_sections id at (b ∷ buses) = no_sections id (at + 1) buses

past_items : (l : ConfiguredLevel) (at : ℕ) (items : List BusInjection) (ts : List Outlet)
    → sides_at l.id (map outlet_placed (enumerate_from at (map (item_outlet l) items ++ ts))) ≡ sides_at l.id (map outlet_placed (enumerate_from (at + length (map (item_outlet l) items)) ts))
unfolding outlet_placed item_outlet is_branch_end
past_items l at [] ts = let e : at ≡ at + 0 = omega arith in ap (λ z. sides_at l.id (map outlet_placed (enumerate_from z ts))) e
past_items l at (t ∷ items) ts =
    let e : at + 1 + length (map (item_outlet l) items) ≡ at + suc (length (map (item_outlet l) items)) = omega arith in
    past_items l (at + 1) items ts ∙ ap (λ z. sides_at l.id (map outlet_placed (enumerate_from z ts))) e

module _ (n : ConfiguredNetwork) where
  -- an end's side as in its line's record
  abbrev pub end_side : List ℕ → ℕ → BusEnd → Side
  end_side id side e = (id, side, e.level, pos (node_in n e.level id side))

  abbrev pub line_sides : List ConfiguredLine → List Side
  line_sides lines = flat_map (λ line. end_side line.id 1 line.end1 ∷ end_side line.id 2 line.end2 ∷ []) lines

  records_from : (lines : List ConfiguredLine) → flat_map (λ (b : NamedBranch). sides_from b.id 1 (branch_ends b.shape)) (map (translated_line n) lines) ≡ line_sides lines
  unfolding sides_from branch_ends translated_line translated_end
  records_from [] = refl
  records_from (line ∷ lines) = ap (λ z. end_side line.id 1 line.end1 ∷ end_side line.id 2 line.end2 ∷ z) (records_from lines)

  pub records_are : record_sides (translated n) ≡ line_sides n.lines
  unfolding record_sides
  records_are = ap (flat_map (λ (b : NamedBranch). sides_from b.id 1 (branch_ends b.shape))) (branches_are n) ∙ records_from n.lines

  find_placed : (id : List ℕ) (ls : List ConfiguredLevel) → find (λ (w : PlacedLevel). same_id id w.id) (map (placed_level n) ls) ≡ option_map (placed_level n) (find (λ (m : ConfiguredLevel). same_id id m.id) ls)
  unfolding placed_level
  find_placed id [] = refl
  find_placed id (m ∷ ls) =
      ap (λ z. cond (same_id id m.id) (Some (placed_level n m)) z) (find_placed id ls)
      ∙ by (same_id id m.id)
    where
      by : (t : Bool) → cond t (Some (placed_level n m)) (option_map (placed_level n) (find (λ (m : ConfiguredLevel). same_id id m.id) ls)) ≡ option_map (placed_level n) (cond t (Some m) (find (λ (m : ConfiguredLevel). same_id id m.id) ls))
      by true = refl
      by false = refl

-- ---- in one level

module _ (n : ConfiguredNetwork) (right : NetworkRight n) (k : ℕ) (l : ConfiguredLevel) (at : slice_get n.levels k ≡ Some l) where
  -- of sides, those in the level
  abbrev here : List Side → List Side
  here sides = filter (λ (x : Side). same_id l.id x.2) sides

  -- the sides of terminals that stand from a node on
  abbrev stood : ℕ → List Outlet → List Side
  stood node ts = sides_at l.id (map outlet_placed (enumerate_from node ts))

  pub node_found : (id : List ℕ) (side : ℕ) (e : BusEnd) (m : ConfiguredLevel) → checks.level_of n.levels e.level ≡ Some m → l.id ≡ e.level
      → (xs ys : List Outlet) (t : Outlet) → outlets n l ≡ xs ++ t ∷ ys → list_any (is_outlet id side) xs ≡ false → is_outlet id side t ≡ true → node_in n e.level id side ≡ length l.buses + length xs
  unfolding node_in terminal_node placed_levels placed_level checks.level_of
  node_found id side e m found own xs ys t is none own_outlet =
      let same : m ≡ l = one_level n right k l at m (ap (checks.level_of n.levels) own ∙ found) in
      let there : find (λ (w : PlacedLevel). same_id e.level w.id) (placed_levels n) ≡ Some (placed_level n l) = find_placed n e.level n.levels ∙ ap (option_map (placed_level n)) (found ∙ ap Some same) in
      let first : position (is_outlet id side) (t ∷ ys) ≡ Some 0 = position-cons (is_outlet id side) t ys ∙ ap (λ z. cond z (Some 0) (option_map suc (position (is_outlet id side) ys))) own_outlet in
      let place = ap (position (is_outlet id side)) is ∙ position_behind (is_outlet id side) xs (t ∷ ys) none ∙ ap (option_map (λ j. length xs + j)) first in
      let sum : length l.buses + (length xs + 0) ≡ length l.buses + length xs = omega arith in
      ap (λ z. elim z [ None ↦ 0 | Some w ↦ terminal_node w id side ]) there ∙ ap (λ z. length l.buses + unwrap_or z 0) place ∙ sum

  -- an end that is in the level stands at the node that its line's record says
  end_step : (id : List ℕ) (side : ℕ) (e : BusEnd) (m : ConfiguredLevel) → checks.level_of n.levels e.level ≡ Some m → (xs ts : List Outlet) (sides : List Side)
      → outlets n l ≡ xs ++ (end_outlets l id side e ++ ts) → list_any (is_outlet id side) xs ≡ false → stood (length l.buses + length (xs ++ end_outlets l id side e)) ts ≡ here sides
      → stood (length l.buses + length xs) (end_outlets l id side e ++ ts) ≡ here (end_side n id side e ∷ sides)
  unfolding end_outlets outlet_placed is_branch_end is_outlet
  end_step id side e m found xs ts sides is none rest = by (same_id l.id e.level) refl is rest
    where
      o : Outlet
      o = record { terminal = record { equipment = id; side = side }; place = bus_place l.buses e.bus; connected = e.connected; stand = BranchEnd }

      by : (t : Bool) → same_id l.id e.level ≡ t → outlets n l ≡ xs ++ (cond t (o ∷ []) [] ++ ts) → stood (length l.buses + length (xs ++ cond t (o ∷ []) [])) ts ≡ here sides
          → stood (length l.buses + length xs) (cond t (o ∷ []) [] ++ ts) ≡ cond t (end_side n id side e ∷ here sides) (here sides)
      by true h is rest =
          let own : l.id ≡ e.level = (bytes_eq-Decides l.id e.level).0 h in
          let node = node_found id side e m found own xs ts o is none (and_from (same_id id id) (eqb side side) (same_itself id) (eq-eqb side side refl)) in
          let next : length l.buses + length xs + 1 ≡ length l.buses + length (xs ++ o ∷ []) = (let longer = length-append xs (o ∷ []) in omega (arith, longer)) in
          let same : ◌≡◌ {A = Side} (id, side, l.id, pos (length l.buses + length xs)) (end_side n id side e) = ap (λ z. (id, side, z, pos (length l.buses + length xs))) own ∙ ap (λ z. (id, side, e.level, pos z)) (sym node) in
          ap (λ z. z ∷ stood (length l.buses + length xs + 1) ts) same ∙ ap (λ z. end_side n id side e ∷ z) (ap (λ z. stood z ts) next ∙ rest)
      by false h is rest = ap (λ z. stood (length l.buses + length z) ts) (sym (append-nil xs)) ∙ rest

  -- the terminals before those of further lines
  abbrev earlier : List ConfiguredLine → List Outlet
  earlier before = map (item_outlet l) l.items ++ flat_map (line_outlets l) before

  earlier_more : (before : List ConfiguredLine) (line : ConfiguredLine) → earlier (before ++ line ∷ []) ≡ earlier before ++ line_outlets l line
  earlier_more before line =
      ap (λ z. map (item_outlet l) l.items ++ z) (flat_map-append (line_outlets l) before (line ∷ []) ∙ ap (λ z. flat_map (line_outlets l) before ++ z) (append-nil (line_outlets l line)))
      ∙ sym (append_assoc (map (item_outlet l) l.items) (flat_map (line_outlets l) before) (line_outlets l line))

  pub none_earlier : (id : List ℕ) (side : ℕ) (before : List ConfiguredLine) → has_id (ids_of n.levels ++ map (λ (l : ConfiguredLine). l.id) before) id ≡ false → list_any (is_outlet id side) (earlier before) ≡ false
  none_earlier id side before fresh =
      let parts = join_parts (ids_of n.levels) (map (λ (l : ConfiguredLine). l.id) before) id fresh in
      list_any-append (is_outlet id side) (map (item_outlet l) l.items) (flat_map (line_outlets l) before)
      ∙ neither _ _ (no_items l id side l.items (other_items n.levels k l id at parts.0)) (no_lines l id side before parts.1)

  lines_stand : (before : List ConfiguredLine) (i : ℕ) (lines : List ConfiguredLine) → each_check (line_check n.levels) before i lines ≡ Ok tt → outlets n l ≡ earlier before ++ flat_map (line_outlets l) lines
      → stood (length l.buses + length (earlier before)) (flat_map (line_outlets l) lines) ≡ here (line_sides n lines)
  unfolding each_check line_outlets
  lines_stand before i [] h is = refl
  lines_stand before i (line ∷ lines) h is =
      let r = bound (under (decimal i) (line_check n.levels before line)) (λ _. each_check (line_check n.levels) (before ++ line ∷ []) (suc i) lines) tt h in
      let own = inside (decimal i) (line_check n.levels before line) tt r.1 in
      let stands = line_stands n.levels before line own in
      let fresh = fresh_line n.levels before line own in
      let xs = earlier before in
      let one = end_outlets l line.id 1 line.end1 in
      let two = end_outlets l line.id 2 line.end2 in
      let rest = flat_map (line_outlets l) lines in
      let is1 : outlets n l ≡ xs ++ (one ++ (two ++ rest)) = is ∙ ap (λ z. xs ++ z) (append_assoc one two rest) in
      let is2 : outlets n l ≡ (xs ++ one) ++ (two ++ rest) = is1 ∙ sym (append_assoc xs one (two ++ rest)) in
      let joined : earlier (before ++ line ∷ []) ≡ (xs ++ one) ++ two = earlier_more before line ∙ sym (append_assoc xs one two) in
      let is3 : outlets n l ≡ earlier (before ++ line ∷ []) ++ rest = is2 ∙ sym (append_assoc (xs ++ one) two rest) ∙ ap (λ z. z ++ rest) (sym joined) in
      let none2 = list_any-append (is_outlet line.id 2) xs one ∙ neither _ _ (none_earlier line.id 2 before fresh) (no_end l line.id 2 line.id 1 line.end1 (and_false (same_id line.id line.id))) in
      let again = ap (λ z. stood (length l.buses + length z) rest) (sym joined) ∙ lines_stand (before ++ line ∷ []) (suc i) lines r.2 is3 in
      let second = end_step line.id 2 line.end2 stands.second.level stands.second.found (xs ++ one) rest (line_sides n lines) is2 none2 again in
      ap (stood (length l.buses + length xs)) (append_assoc one two rest)
      ∙ end_step line.id 1 line.end1 stands.first.level stands.first.found xs (two ++ rest) (end_side n line.id 2 line.end2 ∷ line_sides n lines) is1 (none_earlier line.id 1 before fresh) second

  pub level_sides : sides_of (shape n l) ≡ here (line_sides n n.lines)
  unfolding translated_level placed_level outlets_at outlets
  level_sides =
      let items = map (item_outlet l) l.items in
      let ends = flat_map (line_outlets l) n.lines in
      sides_join l.id (map bus_section (enumerate_from 0 l.buses)) (map outlet_placed (enumerate_from (length l.buses) (items ++ ends)))
      ∙ ap (λ z. z ++ stood (length l.buses) (items ++ ends)) (no_sections l.id 0 l.buses)
      ∙ past_items l (length l.buses) l.items ends
      ∙ ap (λ z. stood (length l.buses + length z) ends) (sym (append-nil items))
      ∙ lines_stand [] 0 n.lines right.lines (ap (λ z. z ++ ends) (sym (append-nil items)))
