-- What a network in which no fault is found keeps: its ids differ, and what names a bus names one that is there.
use Rattle.std.proofs.Common.{◌≡◌, refl, sym, ap, ◌∙◌, subst, ℕ, zero, suc, ◌+◌, ◌<◌, ◌≤◌, Bool, true, false, cond, List, [], ◌∷◌, ◌++◌, length, get_or, Result, Ok, append_assoc, arith}
use Rattle.std.specs.Prelude.{Option, Some, None, map, find, flat_map, position, unwrap_or, slice_get, codes, ⊤, All}
use Rattle.std.proofs.lemmas.Bool.{true≢false}
use Rattle.std.proofs.lemmas.List.{append-nil, map-append, map-id}
use Rattle.std.proofs.lemmas.List.Concat.{flat_map-append}
use Rattle.std.proofs.lemmas.List.Elements.{All-append, All-map, All-nil, All-cons, All-head, All-tail}
use Rattle.std.proofs.lemmas.Option.{slice_get-get_or}
use Rattle.std.proofs.lemmas.Slice.Eq.{bytes_eq-Decides}
use Rattle.grid_ids.specs.Name.{same_id, has_id}
use Rattle.grid_ids.specs.Refusing.{refuse_if}
use Rattle.grid_level.specs.declared.Stand.TheVariants.{BranchEnd}
use Rattle.grid_level.specs.Passing.{is_busbar}
use Rattle.grid_structure.proofs.Counts.{times, times-append, not_there, there}
use Rattle.grid_structure.proofs.Places.{position_none, position_found}
use Rattle.grid_structure.proofs.LevelHomes.{none_there}
use Rattle.grid_paths.proofs.Least.{some_same, some_none}
use Rattle.grid_json.specs.declared.fault.Fault.{Fault}
use Rattle.grid_json.proofs.Results.{bound, inside}
use Rattle.grid_json.specs.declared.buses.BusSwitch.{BusSwitch}
use Rattle.grid_json.specs.declared.buses.BusInjection.{BusInjection}
use Rattle.grid_json.specs.declared.buses.BusEnd.{BusEnd}
use Rattle.grid_configured.specs.declared.network.ConfiguredLine.{ConfiguredLine}
use Rattle.grid_configured.specs.declared.network.ConfiguredLevel.{ConfiguredLevel}
use Rattle.grid_configured.specs.declared.network.ConfiguredNetwork.{ConfiguredNetwork}
use Rattle.grid_configured.specs.Checks as checks
use Rattle.grid_configured.specs.Checks.{each_check, list_check, level_ids, ids_of, level_check, parts_check, bus_check, switch_check, item_check, line_check, end_check, level_reasons, bus_reasons, buses_reasons, switch_reasons, item_reasons, end_reasons, id_reasons, network_check}
use Rattle.grid_placed.specs.Places.{Joint, PlacesFit}
use Rattle.grid_configured.specs.Levels.{bus_place, joint_of, item_outlet, end_outlets, line_outlets, outlets, placed_level, placed_levels}
use Rattle.grid_configured.specs.Sites.{bus_ids, item_ids, line_ids, sides}
use Rattle.grid_configured.specs.Partial.{LevelStands}
use Rattle.grid_placed.proofs.Nodes.{StandsWell}
use Rattle.grid_configured.proofs.Mirrors.{NetworkFits}
use Rattle.grid_configured.proofs.RightParts.{not_refused, each_right, each_keeps, switch_right, item_right, EndStands, LineStands, line_stands}

-- ---- ids that differ

-- each id stands there at most once
pub record Once (ids : List (List ℕ)) : Type 0 where
  pub most : (q : List ℕ) → times q ids ≤ 1

once_by : (q x : List ℕ) (ids : List (List ℕ)) → Once ids → has_id ids x ≡ false → (t : Bool) → same_id q x ≡ t → times q ids + cond t 1 0 ≤ 1
once_by q x ids once fresh true e =
    let same : q ≡ x = (bytes_eq-Decides q x).0 e in
    let none : times q ids ≡ 0 = ap (λ z. times z ids) same ∙ not_there x ids fresh in
    omega (arith, none)
once_by q x ids once fresh false e = let most = once.most q in omega (arith, most)

pub once_more : (ids : List (List ℕ)) (x : List ℕ) → Once ids → has_id ids x ≡ false → Once (ids ++ x ∷ [])
once_more ids x once fresh = record {
  most = λ q.
      let all = times-append q ids (x ∷ []) in
      let one : times q (x ∷ []) ≡ cond (same_id q x) 1 0 = (let none : times q [] ≡ 0 = refl in omega (arith, none)) in
      let r = once_by q x ids once fresh (same_id q x) refl in
      omega (arith, all, one, r);
}

once_moved : (xs ys : List (List ℕ)) → ((q : List ℕ) → times q ys ≡ times q xs) → Once xs → Once ys
once_moved xs ys same once = record { most = λ q. let e = same q in let m = once.most q in omega (arith, e, m) }

-- of things with an id each
each_once : {A : Type 0} (check : List A → A → Result ⊤ Fault) (key : A → List ℕ) (base : List (List ℕ)) → ((earlier : List A) (x : A) → check earlier x ≡ Ok tt → has_id (base ++ map key earlier) (key x) ≡ false)
    → (earlier : List A) (i : ℕ) (xs : List A) → each_check check earlier i xs ≡ Ok tt → Once (base ++ map key earlier) → Once (base ++ map key (earlier ++ xs))
each_once {A} check key base fresh earlier i xs h once = each_keeps check (λ z. Once (base ++ map key z)) step earlier i xs h once
  where
    step : (before : List A) (x : A) → check before x ≡ Ok tt → Once (base ++ map key before) → Once (base ++ map key (before ++ x ∷ []))
    step before x e some = subst Once (append_assoc base (map key before) (key x ∷ []) ∙ ap (λ z. base ++ z) (sym (map-append key before (x ∷ [])))) (once_more (base ++ map key before) (key x) some (fresh before x e))

-- ---- what each check says

pub fresh_bus : (ids earlier : List (List ℕ)) (bus : List ℕ) → bus_check ids earlier bus ≡ Ok tt → has_id (ids ++ map (λ b. b) earlier) bus ≡ false
unfolding bus_check bus_reasons id_reasons
fresh_bus ids earlier bus h = ap (λ z. has_id (ids ++ z) bus) (map-id earlier) ∙ not_refused (has_id (ids ++ earlier) bus) _ _ (bound (refuse_if (has_id (ids ++ earlier) bus) _) _ tt h).1

pub fresh_switch : (ids buses : List (List ℕ)) (count : ℕ) (earlier : List BusSwitch) (s : BusSwitch) → switch_check ids buses count earlier s ≡ Ok tt → has_id (ids ++ map (λ s. s.id) earlier) s.id ≡ false
unfolding switch_check switch_reasons id_reasons
fresh_switch ids buses count earlier s h = not_refused (has_id (ids ++ map (λ s. s.id) earlier) s.id) _ _ (bound (refuse_if (has_id (ids ++ map (λ s. s.id) earlier) s.id) _) _ tt h).1

pub fresh_item : (ids buses : List (List ℕ)) (nodes edges count : ℕ) (earlier : List BusInjection) (t : BusInjection) → item_check ids buses nodes edges count earlier t ≡ Ok tt → has_id (ids ++ map (λ t. t.id) earlier) t.id ≡ false
unfolding item_check item_reasons id_reasons
fresh_item ids buses nodes edges count earlier t h = not_refused (has_id (ids ++ map (λ t. t.id) earlier) t.id) _ _ (bound (refuse_if (has_id (ids ++ map (λ t. t.id) earlier) t.id) _) _ tt h).1

pub fresh_line : (levels : List ConfiguredLevel) (earlier : List ConfiguredLine) (line : ConfiguredLine) → line_check levels earlier line ≡ Ok tt → has_id (ids_of levels ++ map (λ l. l.id) earlier) line.id ≡ false
unfolding line_check id_reasons
fresh_line levels earlier line h = not_refused (has_id (ids_of levels ++ map (λ l. l.id) earlier) line.id) _ _ (bound (refuse_if (has_id (ids_of levels ++ map (λ l. l.id) earlier) line.id) _) _ tt h).1

-- the parts of a level that are right
pub record PartsRight (ids : List (List ℕ)) (count : ℕ) (l : ConfiguredLevel) : Type 0 where
  pub buses : each_check (bus_check ids) [] 0 l.buses ≡ Ok tt
  pub switches : each_check (switch_check (ids ++ l.buses) l.buses count) [] 0 l.switches ≡ Ok tt
  pub items : each_check (item_check (ids ++ (l.buses ++ map (λ s. s.id) l.switches)) l.buses (length l.buses) (length l.switches) (count + length l.switches)) [] 0 l.items ≡ Ok tt

pub parts_right : (ids : List (List ℕ)) (count : ℕ) (l : ConfiguredLevel) → parts_check ids count l ≡ Ok tt → PartsRight ids count l
unfolding parts_check
parts_right ids count l h =
    let one = bound (list_check (bus_check ids) (codes "buses") l.buses) _ tt h in
    let two = bound (list_check (switch_check (ids ++ l.buses) l.buses count) (codes "switches") l.switches) _ tt one.2 in
    record {
      buses = inside (codes "buses") (each_check (bus_check ids) [] 0 l.buses) tt one.1;
      switches = inside (codes "switches") (each_check (switch_check (ids ++ l.buses) l.buses count) [] 0 l.switches) tt two.1;
      items = inside (codes "injections") (each_check (item_check (ids ++ (l.buses ++ map (λ s. s.id) l.switches)) l.buses (length l.buses) (length l.switches) (count + length l.switches)) [] 0 l.items) tt two.2;
    }

-- a level that is right behind some earlier ones
pub record LevelRight (earlier : List ConfiguredLevel) (l : ConfiguredLevel) : Type 0 where
  pub fresh : has_id (ids_of earlier) l.id ≡ false
  pub parts : PartsRight (ids_of earlier ++ l.id ∷ []) (checks.switch_total earlier) l

pub level_right : (earlier : List ConfiguredLevel) (l : ConfiguredLevel) → level_check earlier l ≡ Ok tt → LevelRight earlier l
unfolding level_check level_reasons id_reasons
level_right earlier l h =
    let one = bound (level_reasons (has_id (ids_of earlier) l.id) (length earlier) _) _ tt h in
    record {
      fresh = not_refused (has_id (ids_of earlier) l.id) _ _ (bound (refuse_if (has_id (ids_of earlier) l.id) _) _ tt one.1).1;
      parts = parts_right (ids_of earlier ++ l.id ∷ []) (checks.switch_total earlier) l one.2;
    }

-- ---- all ids differ

parts_once : (ids : List (List ℕ)) (count : ℕ) (l : ConfiguredLevel) → PartsRight ids count l → Once ids → Once ((ids ++ (l.buses ++ map (λ s. s.id) l.switches)) ++ map (λ t. t.id) l.items)
parts_once ids count l right once =
    let buses : Once (ids ++ l.buses) = subst (λ (z : List (List ℕ)). Once (ids ++ z)) (map-id l.buses) (each_once (bus_check ids) (λ b. b) ids (fresh_bus ids) [] 0 l.buses right.buses (subst Once (sym (append-nil ids)) once)) in
    let switches : Once ((ids ++ l.buses) ++ map (λ s. s.id) l.switches)
    = each_once (switch_check (ids ++ l.buses) l.buses count) (λ s. s.id) (ids ++ l.buses) (fresh_switch (ids ++ l.buses) l.buses count) [] 0 l.switches right.switches (subst Once (sym (append-nil (ids ++ l.buses))) buses) in
    let base = ids ++ (l.buses ++ map (λ s. s.id) l.switches) in
    each_once (item_check base l.buses (length l.buses) (length l.switches) (count + length l.switches)) (λ t. t.id) base (fresh_item base l.buses (length l.buses) (length l.switches) (count + length l.switches)) [] 0 l.items right.items
    (subst Once (append_assoc ids l.buses (map (λ s. s.id) l.switches) ∙ sym (append-nil base)) switches)

ids_more : (earlier : List ConfiguredLevel) (l : ConfiguredLevel) → ids_of (earlier ++ l ∷ []) ≡ ids_of earlier ++ level_ids l
ids_more earlier l = flat_map-append level_ids earlier (l ∷ []) ∙ ap (λ z. ids_of earlier ++ z) (append-nil (level_ids l))

level_once : (earlier : List ConfiguredLevel) (l : ConfiguredLevel) → LevelRight earlier l → Once (ids_of earlier) → Once (ids_of (earlier ++ l ∷ []))
unfolding level_ids
level_once earlier l right once =
    let parts = parts_once (ids_of earlier ++ l.id ∷ []) (checks.switch_total earlier) l right.parts (once_more (ids_of earlier) l.id once right.fresh) in
    subst Once (sym (ids_more earlier l)) (once_moved (((ids_of earlier ++ l.id ∷ []) ++ (l.buses ++ map (λ s. s.id) l.switches)) ++ map (λ t. t.id) l.items) (ids_of earlier ++ level_ids l)
    (λ q.
    let a = times-append q ((ids_of earlier ++ l.id ∷ []) ++ (l.buses ++ map (λ s. s.id) l.switches)) (map (λ t. t.id) l.items) in
    let b = times-append q (ids_of earlier ++ l.id ∷ []) (l.buses ++ map (λ s. s.id) l.switches) in
    let c = times-append q (ids_of earlier) (l.id ∷ []) in
    let d = times-append q l.buses (map (λ s. s.id) l.switches) in
    let e = times-append q (ids_of earlier) (l.id ∷ (l.buses ++ (map (λ s. s.id) l.switches ++ map (λ t. t.id) l.items))) in
    let f = times-append q l.buses (map (λ s. s.id) l.switches ++ map (λ t. t.id) l.items) in
    let g = times-append q (map (λ s. s.id) l.switches) (map (λ t. t.id) l.items) in
    omega (arith, a, b, c, d, e, f, g)) parts)

-- both parts of the check
pub record NetworkRight (n : ConfiguredNetwork) : Type 0 where
  pub levels : each_check level_check [] 0 n.levels ≡ Ok tt
  pub lines : each_check (line_check n.levels) [] 0 n.lines ≡ Ok tt

pub network_right : (n : ConfiguredNetwork) → network_check n ≡ Ok tt → NetworkRight n
unfolding network_check
network_right n h =
    let r = bound (list_check level_check (codes "levels") n.levels) _ tt h in
    record {
      levels = inside (codes "levels") (each_check level_check [] 0 n.levels) tt r.1;
      lines = inside (codes "lines") (each_check (line_check n.levels) [] 0 n.lines) tt r.2;
    }

none_once : Once []
none_once = record { most = λ q. omega arith }

-- the ids of levels, of what stands in them, and of lines
pub network_once : (n : ConfiguredNetwork) → NetworkRight n → Once (ids_of n.levels ++ map (λ l. l.id) n.lines)
network_once n right =
    each_once (line_check n.levels) (λ l. l.id) (ids_of n.levels) (fresh_line n.levels) [] 0 n.lines right.lines
    (subst Once (sym (append-nil (ids_of n.levels))) (each_keeps level_check (λ z. Once (ids_of z)) (λ earlier l h once. level_once earlier l (level_right earlier l h) once) [] 0 n.levels right.levels none_once))

-- ---- buses, injections and lines

times_spread : (q : List ℕ) (ls : List ConfiguredLevel) → times q (flat_map (λ l. l.buses) ls) + times q (flat_map (λ l. map (λ i. i.id) l.items) ls) ≤ times q (ids_of ls)
unfolding level_ids
times_spread q [] = omega arith
times_spread q (l ∷ ls) =
    let rest = times_spread q ls in
    let a = times-append q l.buses (flat_map (λ l. l.buses) ls) in
    let b = times-append q (map (λ i. i.id) l.items) (flat_map (λ l. map (λ i. i.id) l.items) ls) in
    let c = times-append q (l.id ∷ (l.buses ++ (map (λ s. s.id) l.switches ++ map (λ t. t.id) l.items))) (ids_of ls) in
    let d = times-append q l.buses (map (λ s. s.id) l.switches ++ map (λ t. t.id) l.items) in
    let e = times-append q (map (λ s. s.id) l.switches) (map (λ t. t.id) l.items) in
    omega (arith, rest, a, b, c, d, e)

-- no injection and no line has the id of a bus
pub buses_apart : (n : ConfiguredNetwork) → NetworkRight n → (id : List ℕ) → has_id (bus_ids n) id ≡ true → sides n id ≡ None
unfolding sides bus_ids item_ids line_ids
buses_apart n right id h =
    let most = (network_once n right).most id in
    let all = times-append id (ids_of n.levels) (map (λ l. l.id) n.lines) in
    let spread = times_spread id n.levels in
    let some = there id (flat_map (λ l. l.buses) n.levels) h in
    let no_items = none_there id (flat_map (λ l. map (λ i. i.id) l.items) n.levels) (omega (arith, most, all, spread, some)) in
    let no_lines = none_there id (map (λ l. l.id) n.lines) (omega (arith, most, all, spread, some)) in
    rw (no_items, no_lines) refl

-- ---- places of buses

pub bus_there : (buses : List (List ℕ)) (id : List ℕ) → has_id buses id ≡ true → bus_place buses id < length buses
unfolding bus_place has_id
bus_there buses id h = by (position (same_id id) buses) refl
  where
    by : (o : Option ℕ) → position (same_id id) buses ≡ o → unwrap_or o 0 < length buses
    by None e = absurd (true≢false (sym h ∙ position_none (same_id id) buses e))
    by (Some k) e = (position_found (same_id id) buses k e).0

-- both buses of a switch are there
abbrev SwitchStands : List (List ℕ) → BusSwitch → Type 0
SwitchStands buses s = (has_id buses s.bus1 ≡ true) × (has_id buses s.bus2 ≡ true)

abbrev ItemStands : List (List ℕ) → BusInjection → Type 0
ItemStands buses t = has_id buses t.bus ≡ true

pub level_stands : (earlier : List ConfiguredLevel) (l : ConfiguredLevel) → level_check earlier l ≡ Ok tt → LevelStands l
level_stands earlier l h =
    let right = (level_right earlier l h).parts in
    let ids = ids_of earlier ++ l.id ∷ [] in
    let count = checks.switch_total earlier in
    record {
      switches = each_right (switch_check (ids ++ l.buses) l.buses count) (SwitchStands l.buses) (λ before s e. let r = switch_right (ids ++ l.buses) l.buses count before s e in (r.one, r.two)) [] 0 l.switches right.switches;
      items = each_right (item_check (ids ++ (l.buses ++ map (λ s. s.id) l.switches)) l.buses (length l.buses) (length l.switches) (count + length l.switches)) (ItemStands l.buses)
          (λ before t e. (item_right (ids ++ (l.buses ++ map (λ s. s.id) l.switches)) l.buses (length l.buses) (length l.switches) (count + length l.switches) before t e).there) [] 0 l.items right.items;
    }

-- ---- one level of an id

pub times_levels : (q : List ℕ) (ls : List ConfiguredLevel) → times q (map (λ l. l.id) ls) ≤ times q (ids_of ls)
unfolding level_ids
times_levels q [] = omega arith
times_levels q (l ∷ ls) =
    let rest = times_levels q ls in
    let a = times-append q (l.id ∷ (l.buses ++ (map (λ s. s.id) l.switches ++ map (λ t. t.id) l.items))) (ids_of ls) in
    omega (arith, rest, a)

there_at : (ls : List ConfiguredLevel) (k : ℕ) (l : ConfiguredLevel) → slice_get ls k ≡ Some l → 1 ≤ times l.id (map (λ l. l.id) ls)
there_at [] k l e = absurd (some_none l e)
there_at (x ∷ ls) zero l e =
    let same : x ≡ l = some_same x l e in
    let here : same_id l.id x.id ≡ true = (bytes_eq-Decides l.id x.id).1 (ap (λ (z : ConfiguredLevel). z.id) (sym same)) in
    let one : ◌≡◌ {A = ℕ} (cond (same_id l.id x.id) 1 0) 1 = ap (λ t. cond t 1 0) here in
    omega (arith, one)
there_at (x ∷ ls) (suc k) l e = let rest = there_at ls k l e in omega (arith, rest)

found_by : (x l m : ConfiguredLevel) (rest : Option ConfiguredLevel) (count : ℕ) (t : Bool) → cond t 1 0 + count ≤ 1 → 1 ≤ count → cond t (Some x) rest ≡ Some m → (count ≤ 1 → rest ≡ Some m → m ≡ l) → m ≡ l
found_by x l m rest count true most some f next = absurd (omega (arith, most, some))
found_by x l m rest count false most some f next = next (omega (arith, most)) f

found_at : (ls : List ConfiguredLevel) (k : ℕ) (l m : ConfiguredLevel) → times l.id (map (λ l. l.id) ls) ≤ 1 → slice_get ls k ≡ Some l → find (λ x. same_id l.id x.id) ls ≡ Some m → m ≡ l
found_at [] k l m once e f = absurd (some_none l e)
found_at (x ∷ ls) zero l m once e f =
    let same : x ≡ l = some_same x l e in
    let here : same_id l.id x.id ≡ true = (bytes_eq-Decides l.id x.id).1 (ap (λ (z : ConfiguredLevel). z.id) (sym same)) in
    some_same m l (sym f ∙ ap (λ t. cond t (Some x) (find (λ x. same_id l.id x.id) ls)) here ∙ ap Some same)
found_at (x ∷ ls) (suc k) l m once e f =
    found_by x l m (find (λ x. same_id l.id x.id) ls) (times l.id (map (λ l. l.id) ls)) (same_id l.id x.id) once (there_at ls k l e) f (λ few g. found_at ls k l m few e g)

-- ---- all places fit

joints_well : (l : ConfiguredLevel) (ss : List BusSwitch) → All (SwitchStands l.buses) ss → All (λ (s : Joint). (s.place1 < length l.buses) × (s.place2 < length l.buses)) (map (joint_of l) ss)
unfolding joint_of
joints_well l [] h = All-nil (λ (s : Joint). (s.place1 < length l.buses) × (s.place2 < length l.buses))
joints_well l (s ∷ ss) h =
    let here = All-head (SwitchStands l.buses) s ss h in
    All-cons (λ (s : Joint). (s.place1 < length l.buses) × (s.place2 < length l.buses)) (joint_of l s) (map (joint_of l) ss) (bus_there l.buses s.bus1 here.0, bus_there l.buses s.bus2 here.1) (joints_well l ss (All-tail (SwitchStands l.buses) s ss h))

items_well : (l : ConfiguredLevel) (ts : List BusInjection) → All (ItemStands l.buses) ts → All (StandsWell (length l.buses)) (map (item_outlet l) ts)
unfolding item_outlet is_busbar
items_well l [] h = All-nil (StandsWell (length l.buses))
items_well l (t ∷ ts) h = All-cons (StandsWell (length l.buses)) (item_outlet l t) (map (item_outlet l) ts) (bus_there l.buses t.bus (All-head (ItemStands l.buses) t ts h), refl) (items_well l ts (All-tail (ItemStands l.buses) t ts h))

module _ (n : ConfiguredNetwork) (right : NetworkRight n) (k : ℕ) (l : ConfiguredLevel) (at : slice_get n.levels k ≡ Some l) where
  pub one_level : (m : ConfiguredLevel) → checks.level_of n.levels l.id ≡ Some m → m ≡ l
  unfolding checks.level_of
  one_level m f =
      let most = (network_once n right).most l.id in
      let all = times-append l.id (ids_of n.levels) (map (λ l. l.id) n.lines) in
      let levels = times_levels l.id n.levels in
      found_at n.levels k l m (omega (arith, most, all, levels)) at f

  end_well : (id : List ℕ) (side : ℕ) (e : BusEnd) → EndStands n.levels e → All (StandsWell (length l.buses)) (end_outlets l id side e)
  unfolding end_outlets is_busbar
  end_well id side e stands = by (same_id l.id e.level) refl
    where
      by : (t : Bool) → same_id l.id e.level ≡ t → All (StandsWell (length l.buses)) (cond t (record { terminal = record { equipment = id; side = side }; place = bus_place l.buses e.bus; connected = e.connected; stand = BranchEnd } ∷ []) [])
      by true h =
          let own : l.id ≡ e.level = (bytes_eq-Decides l.id e.level).0 h in
          let same : stands.level ≡ l = one_level stands.level (ap (checks.level_of n.levels) own ∙ stands.found) in
          let there : has_id l.buses e.bus ≡ true = (let P : ConfiguredLevel → Type 0 = λ z. has_id z.buses e.bus ≡ true in subst P same stands.there) in
          All-cons (StandsWell (length l.buses)) _ [] (bus_there l.buses e.bus there, refl) (All-nil (StandsWell (length l.buses)))
      by false h = All-nil (StandsWell (length l.buses))

  lines_well : (lines : List ConfiguredLine) → All (LineStands n.levels) lines → All (StandsWell (length l.buses)) (flat_map (line_outlets l) lines)
  unfolding line_outlets
  lines_well [] h = All-nil (StandsWell (length l.buses))
  lines_well (line ∷ lines) h =
      let here = All-head (LineStands n.levels) line lines h in
      All-append (StandsWell (length l.buses)) (end_outlets l line.id 1 line.end1 ++ end_outlets l line.id 2 line.end2) (flat_map (line_outlets l) lines)
      (All-append (StandsWell (length l.buses)) (end_outlets l line.id 1 line.end1) (end_outlets l line.id 2 line.end2) (end_well line.id 1 line.end1 here.first) (end_well line.id 2 line.end2 here.second))
      (lines_well lines (All-tail (LineStands n.levels) line lines h))

  level_fits : LevelStands l → PlacesFit (placed_level n l)
  unfolding placed_level outlets
  level_fits stands = record {
    joints = joints_well l l.switches stands.switches;
    outlets = All-append (StandsWell (length l.buses)) (map (item_outlet l) l.items) (flat_map (line_outlets l) n.lines) (items_well l l.items stands.items)
        (lines_well n.lines (each_right (line_check n.levels) (LineStands n.levels) (line_stands n.levels) [] 0 n.lines right.lines));
  }

-- what each network that can be translated keeps
pub translatable_fits : (n : ConfiguredNetwork) → network_check n ≡ Ok tt → NetworkFits n
unfolding placed_levels
translatable_fits n h =
    let right = network_right n h in
    let stand = each_right level_check LevelStands level_stands [] 0 n.levels right.levels in
    record {
      places = All-map PlacesFit (placed_level n) n.levels (λ i d lt. level_fits n right i (get_or n.levels i d) (slice_get-get_or n.levels i d lt) (stand i d lt));
      apart = buses_apart n right;
    }
