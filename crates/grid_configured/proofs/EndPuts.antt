-- Where the ends of a line are put into the lists of levels.
use Rattle.std.proofs.Common.{◌≡◌, refl, sym, ap, ◌∙◌, subst, ℕ, zero, suc, ◌+◌, ◌<◌, Bool, true, false, cond, List, [], ◌∷◌, ◌++◌, length, get_or, pos, take, drop, Ok, append_assoc, arith}
use Rattle.std.specs.Prelude.{eqb, Option, Some, None, IsSome, find, map, flat_map, slice_get, slice_set}
use Rattle.std.specs.List.{list_any}
use Rattle.std.proofs.lemmas.Bool.{and_from, eq-eqb}
use Rattle.std.proofs.lemmas.List.{append-nil, length-append, length-map}
use Rattle.std.proofs.lemmas.Option.{get_or_from_slice_get, slice_get_within}
use Rattle.std.proofs.lemmas.List.Concat.{flat_map-append}
use Rattle.std.proofs.lemmas.List.Folds.{list_any-append}
use Rattle.std.proofs.lemmas.List.Sums.{sum_by_push}
use Rattle.std.proofs.lemmas.Slice.Eq.{bytes_eq-Decides}
use Rattle.grid_lemmas.proofs.Bools.{neither, and_false}
use Rattle.grid_lemmas.proofs.Lists.{map_got, map_alike, take_got}
use Rattle.grid_ids.specs.Name.{same_id}
use Rattle.grid_ids.proofs.Alike.{same_itself}
use Rattle.grid_level.specs.declared.Stand.TheVariants.{BranchEnd}
use Rattle.grid_structure.specs.declared.End.{End}
use Rattle.grid_paths.proofs.Least.{some_same, some_none}
use Rattle.grid_json.specs.declared.buses.BusEnd.{BusEnd}
use Rattle.grid_configured.specs.declared.network.ConfiguredLine.{ConfiguredLine}
use Rattle.grid_configured.specs.declared.network.ConfiguredLevel.{ConfiguredLevel}
use Rattle.grid_configured.specs.declared.network.ConfiguredNetwork.{ConfiguredNetwork}
use Rattle.grid_configured.specs.Checks as checks
use Rattle.grid_configured.specs.Checks.{line_check, line_ends, ends_in, level_nodes, IsTranslatable}
use Rattle.grid_placed.specs.Places.{Outlet}
use Rattle.grid_configured.specs.Levels.{bus_place, terminal, item_outlet, end_outlets, line_outlets, outlets}
use Rattle.grid_configured.specs.Sites.{is_outlet}
use Rattle.grid_configured.specs.Numbers.{number_at, HasLevels}
use Rattle.grid_placed.specs.Translation.{breaker_id}
use Rattle.grid_configured.specs.declared.line_lists.GrowingLevel.{GrowingLevel}
use Rattle.grid_configured.specs.Partial.{growing, grown, levels_with}
use Rattle.grid_configured.specs.Translation.{node_in, translated_end}
use Rattle.grid_configured.proofs.Limits.{once_levels}
use Rattle.grid_configured.proofs.ListParts.{end_put}
use Rattle.grid_configured.proofs.FaultlessNetworks.{NetworkRight, network_right, fresh_line}
use Rattle.grid_configured.proofs.RightParts.{check_at, EndStands, LineRight, line_right}
use Rattle.grid_configured.proofs.TerminalCounts.{end_count, outlet_count}
use Rattle.grid_configured.proofs.LineSides.{no_end, node_found, none_earlier}
use Rattle.grid_configured.proofs.PlainNetworks.{same_back}

-- of the first item that passes, its place
found_at : {X : Type 0} (p : X → Bool) (xs : List X) (x : X) → find p xs ≡ Some x → (k : ℕ) × (slice_get xs k ≡ Some x) × (p x ≡ true)
found_at p [] x h = absurd (some_none x h)
found_at {X} p (y ∷ xs) x h = by (λ f. found_at p xs x f) (p y) refl h
  where
    by : (find p xs ≡ Some x → (k : ℕ) × (slice_get xs k ≡ Some x) × (p x ≡ true)) → (t : Bool) → p y ≡ t → cond t (Some y) (find p xs) ≡ Some x → (k : ℕ) × (slice_get (y ∷ xs) k ≡ Some x) × (p x ≡ true)
    by again true e f = (zero, f, ap p (sym (some_same y x f)) ∙ e)
    by again false e f = let r = again f in (suc r.0, r.1, r.2)

split_at : {X : Type 0} (xs : List X) (k : ℕ) (x : X) → slice_get xs k ≡ Some x → xs ≡ take k xs ++ x ∷ drop (suc k) xs
split_at [] k x at = absurd (some_none x at)
split_at (y ∷ xs) zero x at = ap (λ z. z ∷ xs) (some_same y x at)
split_at (y ∷ xs) (suc k) x at = ap (λ z. y ∷ z) (split_at xs k x at)

-- an end of a line, where the terminals of each level are these so far
pub record Spot (n : ConfiguredNetwork) (table : List (List ℕ × ℕ)) (T : ConfiguredLevel → List Outlet) (id : List ℕ) (side : ℕ) (e : BusEnd) : Type 0 where
  pub place : ℕ
  pub level : ConfiguredLevel
  pub at : slice_get n.levels place ≡ Some level
  pub own : same_id e.level level.id ≡ true
  pub numbered : number_at table e.level ≡ Some place
  pub bus : number_at table e.bus ≡ Some (bus_place level.buses e.bus)
  pub few : length level.buses + length (T level) < 1024
  pub node : node_in n e.level id side ≡ length level.buses + length (T level)

module _ (n : ConfiguredNetwork) (h : IsTranslatable n) (table : List (List ℕ × ℕ)) (has : HasLevels table n.levels) (i : ℕ) (line : ConfiguredLine) (line_at : slice_get n.lines i ≡ Some line) where
  abbrev before : List ConfiguredLine
  before = take i n.lines

  -- the terminals of a level before the line's ends, and before the second
  abbrev pub first_terminals : ConfiguredLevel → List Outlet
  first_terminals l = outlets (record n { lines = take i n.lines }) l

  abbrev pub second_terminals : ConfiguredLevel → List Outlet
  second_terminals l = first_terminals l ++ end_outlets l line.id 1 line.end1

  right : NetworkRight n
  right = network_right n h.1

  checked : line_check n.levels before line ≡ Ok tt
  checked = check_at (line_check n.levels) [] 0 n.lines i line right.lines line_at

  r : LineRight n.levels before line
  r = line_right n.levels before line checked

  abbrev rest : ConfiguredLevel → List Outlet
  rest l = flat_map (line_outlets l) (drop (suc i) n.lines)

  first_split : (l : ConfiguredLevel) → outlets n l ≡ first_terminals l ++ (end_outlets l line.id 1 line.end1 ++ (end_outlets l line.id 2 line.end2 ++ rest l))
  unfolding outlets line_outlets
  first_split l =
      ap (λ z. map (item_outlet l) l.items ++ z)
      (ap (flat_map (line_outlets l)) (split_at n.lines i line line_at)
      ∙ flat_map-append (line_outlets l) before (line ∷ drop (suc i) n.lines)
      ∙ ap (λ z. flat_map (line_outlets l) before ++ z) (append_assoc (end_outlets l line.id 1 line.end1) (end_outlets l line.id 2 line.end2) (rest l)))
      ∙ sym (append_assoc (map (item_outlet l) l.items) (flat_map (line_outlets l) before) (end_outlets l line.id 1 line.end1 ++ (end_outlets l line.id 2 line.end2 ++ rest l)))

  end_node : (k : ℕ) (l : ConfiguredLevel) → slice_get n.levels k ≡ Some l → (side : ℕ) (e : BusEnd) → checks.level_of n.levels e.level ≡ Some l → same_id l.id e.level ≡ true → (xs ts : List Outlet)
      → outlets n l ≡ xs ++ (end_outlets l line.id side e ++ ts) → list_any (is_outlet line.id side) xs ≡ false → node_in n e.level line.id side ≡ length l.buses + length xs
  unfolding end_outlets is_outlet
  end_node k l at side e found own xs ts is none =
      let o : Outlet = record { terminal = terminal line.id side; place = bus_place l.buses e.bus; connected = e.connected; stand = BranchEnd } in
      node_found n right k l at line.id side e l found ((bytes_eq-Decides l.id e.level).0 own) xs ts o (is ∙ ap (λ t. xs ++ (cond t (o ∷ []) [] ++ ts)) own) none
      (and_from (same_id line.id line.id) (eqb side side) (same_itself line.id) (eq-eqb side side refl))

  pub first_spot : Spot n table first_terminals line.id 1 line.end1
  unfolding checks.level_of outlets level_nodes
  first_spot =
      let e = line.end1 in
      let l = r.first.stands.level in
      let found = found_at (λ m. same_id e.level m.id) n.levels l r.first.stands.found in
      let own : l.id ≡ e.level = sym ((bytes_eq-Decides e.level l.id).0 found.2) in
      let count = outlet_count (record n { lines = before }) l in
      let few = r.first.few.nodes_few in
      let same : ends_in l.id (line_ends before) ≡ ends_in e.level (line_ends before) = ap (λ z. ends_in z (line_ends before)) own in
      record {
        place = found.0;
        level = l;
        at = found.1;
        own = found.2;
        numbered = ap (number_at table) (sym own) ∙ has.places found.0 l found.1;
        bus = has.buses found.0 l found.1 e.bus r.first.stands.there;
        few = omega (arith, count, few, same);
        node = end_node found.0 l found.1 1 e r.first.stands.found (same_back l.id e.level ∙ found.2) (first_terminals l) (end_outlets l line.id 2 line.end2 ++ rest l) (first_split l)
            (none_earlier n right found.0 l found.1 line.id 1 before (fresh_line n.levels before line checked));
      }

  pub second_spot : Spot n table second_terminals line.id 2 line.end2
  unfolding checks.level_of outlets level_nodes ends_in
  second_spot =
      let e = line.end2 in
      let l = r.second.stands.level in
      let found = found_at (λ m. same_id e.level m.id) n.levels l r.second.stands.found in
      let own : l.id ≡ e.level = sym ((bytes_eq-Decides e.level l.id).0 found.2) in
      let count = outlet_count (record n { lines = before }) l in
      let one = end_count l line.id 1 line.end1 in
      let longer = length-append (first_terminals l) (end_outlets l line.id 1 line.end1) in
      let few = r.second.few.nodes_few in
      let more = sum_by_push (λ (x : BusEnd). cond (same_id l.id x.level) 1 0) (line_ends before) line.end1 in
      let same : ends_in l.id (line_ends before ++ line.end1 ∷ []) ≡ ends_in e.level (line_ends before ++ line.end1 ∷ []) = ap (λ z. ends_in z (line_ends before ++ line.end1 ∷ [])) own in
      record {
        place = found.0;
        level = l;
        at = found.1;
        own = found.2;
        numbered = ap (number_at table) (sym own) ∙ has.places found.0 l found.1;
        bus = has.buses found.0 l found.1 e.bus r.second.stands.there;
        few = omega (arith, count, one, longer, few, more, same);
        node = end_node found.0 l found.1 2 e r.second.stands.found (same_back l.id e.level ∙ found.2) (second_terminals l) (rest l) (first_split l ∙ sym (append_assoc (first_terminals l) (end_outlets l line.id 1 line.end1) (end_outlets l line.id 2 line.end2 ++ rest l)))
            (list_any-append (is_outlet line.id 2) (first_terminals l) (end_outlets l line.id 1 line.end1)
            ∙ neither _ _ (none_earlier n right found.0 l found.1 line.id 2 before (fresh_line n.levels before line checked)) (no_end l line.id 2 line.id 1 line.end1 (and_false (same_id line.id line.id))));
      }

-- ---- the lists

pub is_there : {X : Type 0} (o : Option X) (x : X) → o ≡ Some x → IsSome o
is_there None x e = absurd (some_none x e)
is_there (Some y) x e = refl

-- levels with these terminals
abbrev pub grown_by : ConfiguredNetwork → (ConfiguredLevel → List Outlet) → List GrowingLevel
grown_by n T = map (λ m. growing m (T m)) n.levels

module _ (n : ConfiguredNetwork) (h : IsTranslatable n) (table : List (List ℕ × ℕ)) (T : ConfiguredLevel → List Outlet) (id : List ℕ) (side : ℕ) (e : BusEnd) (spot : Spot n table T id side e)
    (levels : List GrowingLevel) (place : ℕ) (are : levels ≡ grown_by n T) (found : number_at table e.level ≡ Some place) where
  same_place : place ≡ spot.place
  same_place = some_same place spot.place (sym found ∙ spot.numbered)

  there : slice_get n.levels place ≡ Some spot.level
  there = ap (slice_get n.levels) same_place ∙ spot.at

  pub place_inside : place < length levels
  place_inside = let within = slice_get_within n.levels place spot.level there in let count = ap length are ∙ length-map n.levels (λ m. growing m (T m)) in omega (arith, within, count)

  pub level_here : (d : GrowingLevel) → get_or levels place d ≡ growing spot.level (T spot.level)
  level_here d = get_or_from_slice_get levels place (growing spot.level (T spot.level)) d (ap (λ z. slice_get z place) are ∙ map_got (λ m. growing m (T m)) n.levels place spot.level there)

  pub next_few : (d : GrowingLevel) → (get_or levels place d).next < 1024
  unfolding growing
  next_few d = let few = spot.few in let next : (get_or levels place d).next ≡ length spot.level.buses + length (T spot.level) = ap (λ (g : GrowingLevel). g.next) (level_here d) in omega (arith, few, next)

  pub end_is : (d : GrowingLevel) (made : End) → made ≡ record { level = e.level; node = pos (get_or levels place d).next } → made ≡ translated_end n id side e
  unfolding growing translated_end
  end_is d made is = is ∙ ap (λ (z : ℕ). record { level = e.level; node = pos z }) (ap (λ (g : GrowingLevel). g.next) (level_here d) ∙ sym spot.node)

  pub levels_put : (bus : ℕ) (made : List ℕ) (new d : GrowingLevel) → number_at table e.bus ≡ Some bus → made ≡ breaker_id (terminal id side) → new ≡ grown made bus e.connected (get_or levels place d)
      → slice_set levels place new ≡ grown_by n (λ m. T m ++ end_outlets m id side e)
  levels_put bus made new d at_bus named is =
      let same_bus : bus ≡ bus_place spot.level.buses e.bus = some_same bus (bus_place spot.level.buses e.bus) (sym at_bus ∙ spot.bus) in
      ap (slice_set levels place) (is ∙ ap (λ z. grown z bus e.connected (get_or levels place d)) named ∙ ap (λ z. grown (breaker_id (terminal id side)) z e.connected (get_or levels place d)) same_bus ∙ ap (grown (breaker_id (terminal id side)) (bus_place spot.level.buses e.bus) e.connected) (level_here d))
      ∙ ap (λ z. slice_set z place (grown (breaker_id (terminal id side)) (bus_place spot.level.buses e.bus) e.connected (growing spot.level (T spot.level)))) are
      ∙ (end_put T id side e n.levels place spot.level there spot.own (once_levels n (network_right n h.1) e.level)).1

pub both_put : (n : ConfiguredNetwork) (i : ℕ) (line : ConfiguredLine) → slice_get n.lines i ≡ Some line
    → grown_by n (λ m. (outlets (record n { lines = take i n.lines }) m ++ end_outlets m line.id 1 line.end1) ++ end_outlets m line.id 2 line.end2) ≡ levels_with n (take (i + 1) n.lines)
unfolding levels_with outlets line_outlets
both_put n i line at = map_alike _ _ (λ m. ap (growing m) (step m)) n.levels
  where
    step : (m : ConfiguredLevel) → ((map (item_outlet m) m.items ++ flat_map (line_outlets m) (take i n.lines)) ++ end_outlets m line.id 1 line.end1) ++ end_outlets m line.id 2 line.end2 ≡ map (item_outlet m) m.items ++ flat_map (line_outlets m) (take (i + 1) n.lines)
    step m =
        let items = map (item_outlet m) m.items in
        let old = flat_map (line_outlets m) (take i n.lines) in
        let one = end_outlets m line.id 1 line.end1 in
        let two = end_outlets m line.id 2 line.end2 in
        let next : i + 1 ≡ suc i = omega arith in
        append_assoc (items ++ old) one two ∙ append_assoc items old (one ++ two)
        ∙ ap (λ z. items ++ (old ++ z)) (sym (append-nil (one ++ two)))
        ∙ ap (λ z. items ++ z) (sym (flat_map-append (line_outlets m) (take i n.lines) (line ∷ [])) ∙ ap (flat_map (line_outlets m)) (sym (take_got n.lines i line at)) ∙ ap (λ z. flat_map (line_outlets m) (take z n.lines)) (sym next))

pub starts_as : (n : ConfiguredNetwork) (i : ℕ) → levels_with n (take i n.lines) ≡ grown_by n (λ m. outlets (record n { lines = take i n.lines }) m)
unfolding levels_with
starts_as n i = refl
