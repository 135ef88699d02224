-- How many nodes, edges and switches the levels of a network have in node/breaker form.
use Rattle.std.proofs.Common.{◌≡◌, refl, ap, ℕ, ◌+◌, ◌≤◌, Bool, true, false, cond, List, [], ◌∷◌, ◌++◌, length, arith}
use Rattle.std.specs.Prelude.{map, flat_map}
use Rattle.std.specs.List.{enumerate_from}
use Rattle.std.proofs.lemmas.List.{length-append, length-map}
use Rattle.std.proofs.lemmas.List.Sums.{sum_by-cons}
use Rattle.std.proofs.lemmas.List.FromFn.{length-enumerate_from}
use Rattle.grid_lemmas.proofs.Counts.{count_cons}
use Rattle.grid_ids.specs.Name.{same_id}
use Rattle.grid_level.specs.declared.Stand.TheVariants.{BranchEnd}
use Rattle.grid_level.specs.VoltageLevel.{VoltageLevel}
use Rattle.grid_structure.proofs.Counts.{times}
use Rattle.grid_json.specs.declared.buses.BusEnd.{BusEnd}
use Rattle.grid_configured.specs.declared.network.ConfiguredLine.{ConfiguredLine}
use Rattle.grid_configured.specs.declared.network.ConfiguredLevel.{ConfiguredLevel}
use Rattle.grid_configured.specs.declared.network.ConfiguredNetwork.{ConfiguredNetwork}
use Rattle.grid_configured.specs.Checks as checks
use Rattle.grid_configured.specs.Checks.{level_nodes, level_edges, ends_in, line_ends}
use Rattle.grid_placed.specs.Places.{Outlet, PlacedLevel}
use Rattle.grid_configured.specs.Levels.{bus_place, joint_of, item_outlet, end_outlets, line_outlets, outlets, placed_level}
use Rattle.grid_placed.specs.Translation.{joint_breaker, outlet_breaker, outlets_at, translated_level}
use Rattle.grid_configured.proofs.PlainNetworks.{same_back}

-- a level in node/breaker form
abbrev pub shape : ConfiguredNetwork → ConfiguredLevel → VoltageLevel
shape n l = translated_level (placed_level n l)

-- the next node
abbrev pub next_node : PlacedLevel → ℕ
next_node level = length level.buses + length level.outlets

pub end_count : (l : ConfiguredLevel) (id : List ℕ) (side : ℕ) (e : BusEnd) → length (end_outlets l id side e) ≡ cond (same_id l.id e.level) 1 0
unfolding end_outlets
end_count l id side e = by (same_id l.id e.level)
  where
    by : (t : Bool) → length {A = Outlet} (cond t (record { terminal = record { equipment = id; side = side }; place = bus_place l.buses e.bus; connected = e.connected; stand = BranchEnd } ∷ []) []) ≡ cond t 1 0
    by true = refl
    by false = refl

line_count : (l : ConfiguredLevel) (lines : List ConfiguredLine) → length (flat_map (line_outlets l) lines) ≡ ends_in l.id (line_ends lines)
unfolding ends_in line_outlets
line_count l [] = refl
line_count l (line ∷ lines) =
    let a = length-append (end_outlets l line.id 1 line.end1 ++ end_outlets l line.id 2 line.end2) (flat_map (line_outlets l) lines) in
    let b = length-append (end_outlets l line.id 1 line.end1) (end_outlets l line.id 2 line.end2) in
    let c = end_count l line.id 1 line.end1 in
    let d = end_count l line.id 2 line.end2 in
    let e = count_cons (λ (e : BusEnd). same_id l.id e.level) line.end1 (line.end2 ∷ line_ends lines) in
    let f = count_cons (λ (e : BusEnd). same_id l.id e.level) line.end2 (line_ends lines) in
    let g = line_count l lines in
    omega (arith, a, b, c, d, e, f, g)

pub outlet_count : (n : ConfiguredNetwork) (l : ConfiguredLevel) → length (outlets n l) ≡ length l.items + ends_in l.id (line_ends n.lines)
unfolding outlets
outlet_count n l =
    let a = length-append (map (item_outlet l) l.items) (flat_map (line_outlets l) n.lines) in
    let b = length-map l.items (item_outlet l) in
    let c = line_count l n.lines in
    omega (arith, a, b, c)

pub node_count : (n : ConfiguredNetwork) (l : ConfiguredLevel) → next_node (placed_level n l) ≡ level_nodes l + ends_in l.id (line_ends n.lines)
unfolding placed_level level_nodes
node_count n l = let e = outlet_count n l in omega (arith, e)

pub edge_count : (n : ConfiguredNetwork) (l : ConfiguredLevel) → length (shape n l).switches ≡ level_edges l + ends_in l.id (line_ends n.lines)
unfolding translated_level outlets_at placed_level level_edges
edge_count n l =
    let a = length-append (map joint_breaker (map (joint_of l) l.switches)) (map outlet_breaker (enumerate_from (length l.buses) (outlets n l))) in
    let b = length-map (map (joint_of l) l.switches) joint_breaker in
    let c = length-map l.switches (joint_of l) in
    let d = length-map (enumerate_from (length l.buses) (outlets n l)) outlet_breaker in
    let e = length-enumerate_from (length l.buses) (outlets n l) in
    let f = outlet_count n l in
    omega (arith, a, b, c, d, e, f)

-- of each end at most one level is the one
pub ends_total : List ConfiguredLevel → List BusEnd → ℕ
ends_total [] ends = 0
ends_total (l ∷ ls) ends = ends_in l.id ends + ends_total ls ends

ends_cons : (ls : List ConfiguredLevel) (e : BusEnd) (ends : List BusEnd) → ends_total ls (e ∷ ends) ≡ times e.level (map (λ (l : ConfiguredLevel). l.id) ls) + ends_total ls ends
unfolding ends_total ends_in
ends_cons [] e ends = refl
ends_cons (l ∷ ls) e ends =
    let a = count_cons (λ (e : BusEnd). same_id l.id e.level) e ends in
    let b = ends_cons ls e ends in
    let c : ◌≡◌ {A = ℕ} (cond (same_id l.id e.level) 1 0) (cond (same_id e.level l.id) 1 0) = ap (λ t. cond t 1 0) (same_back l.id e.level) in
    omega (arith, a, b, c)

ends_none : (ls : List ConfiguredLevel) → ends_total ls [] ≡ 0
unfolding ends_total ends_in
ends_none [] = refl
ends_none (l ∷ ls) = let e = ends_none ls in omega (arith, e)

pub ends_most : (ls : List ConfiguredLevel) → ((q : List ℕ) → times q (map (λ (l : ConfiguredLevel). l.id) ls) ≤ 1) → (ends : List BusEnd) → ends_total ls ends ≤ length ends
ends_most ls once [] = let e = ends_none ls in omega (arith, e)
ends_most ls once (e ∷ ends) = let a = ends_cons ls e ends in let b = once e.level in let c = ends_most ls once ends in omega (arith, a, b, c)

pub shape_count : (n : ConfiguredNetwork) (ls : List ConfiguredLevel) → length (flat_map (λ (v : VoltageLevel). v.switches) (map (shape n) ls)) ≡ checks.switch_total ls + ends_total ls (line_ends n.lines)
unfolding ends_total
shape_count n [] = refl
shape_count n (l ∷ ls) =
    let a = length-append (shape n l).switches (flat_map (λ (v : VoltageLevel). v.switches) (map (shape n) ls)) in
    let b = edge_count n l in
    let c = shape_count n ls in
    let d = sum_by-cons level_edges l ls in
    omega (arith, a, b, c, d)
