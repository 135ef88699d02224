-- The lists of a level in node/breaker form, and what one thing more makes of them.
use Rattle.std.proofs.Common.{◌≡◌, refl, sym, ap, ◌∙◌, subst, ℕ, pos, zero, suc, ◌+◌, ◌<◌, ◌≤◌, Bool, true, false, cond, not, List, [], ◌∷◌, ◌++◌, length, get_or, take, append_assoc, arith}
use Rattle.std.specs.Prelude.{codes, None, map, flat_map, slice_get, slice_set, Some}
use Rattle.std.specs.Fmt.{digits}
use Rattle.std.specs.List.{enumerate_from}
use Rattle.std.proofs.lemmas.List.{append-nil, map-append, length-append, length-take-le}
use Rattle.std.proofs.lemmas.List.Concat.{flat_map-append}
use Rattle.std.proofs.lemmas.Slice.Eq.{bytes_eq-Decides}
use Rattle.grid_lemmas.proofs.Lists.{map_twice, take_next}
use Rattle.grid_ids.specs.Name.{same_id, has_id}
use Rattle.grid_level.specs.declared.Placed.{Placed}
use Rattle.grid_level.specs.declared.Stand.TheVariants.{BranchEnd}
use Rattle.grid_structure.proofs.Counts.{times}
use Rattle.grid_paths.proofs.Least.{some_same, some_none}
use Rattle.grid_json.specs.declared.buses.BusSwitch.{BusSwitch}
use Rattle.grid_json.specs.declared.buses.BusInjection.{BusInjection}
use Rattle.grid_json.specs.declared.buses.BusEnd.{BusEnd}
use Rattle.grid_structure.specs.declared.lists.BusbarAt.{BusbarAt}
use Rattle.grid_structure.specs.declared.lists.InjectionAt.{InjectionAt}
use Rattle.grid_structure.specs.declared.lists.LevelLists.{LevelLists}
use Rattle.grid_configured.specs.declared.line_lists.GrowingLevel.{GrowingLevel}
use Rattle.grid_configured.specs.declared.network.ConfiguredLevel.{ConfiguredLevel}
use Rattle.grid_placed.specs.Places.{Outlet}
use Rattle.grid_placed.specs.Translation.{joint_breaker, breaker_id, outlet_breaker, bus_section, outlet_placed, outlets_at, translated_level}
use Rattle.grid_configured.specs.Levels.{bus_place, terminal, joint_of, item_outlet, end_outlets}
use Rattle.grid_configured.specs.Numbers.{HasBuses, number_at}
use Rattle.grid_structure.specs.Lists.{busbar_shown, injection_shown, switch_shown}
use Rattle.grid_configured.specs.Partial.{LevelStands, bus_at, joint_at, item_at, item_breaker, level_with, growing, grown, end_breaker}
use Rattle.grid_configured.proofs.NumberTables.{numbers_more}
use Rattle.grid_configured.proofs.PlainNetworks.{same_back}

-- one item more, with its number
pub made_more : {X Y : Type 0} (f : ℕ × X → Y) (at : ℕ) (xs : List X) (i : ℕ) (x : X) → i < length xs → x ≡ get_or xs i x → map f (enumerate_from at (take (i + 1) xs)) ≡ map f (enumerate_from at (take i xs)) ++ f (at + i, x) ∷ []
made_more f at xs i x less is =
    let count : length (take i xs) ≡ i = length-take-le i xs (omega (arith, less)) in
    ap (λ z. map f (enumerate_from at z)) (take_next xs i x less is)
    ∙ ap (map f) (numbers_more at (take i xs) x)
    ∙ map-append f (enumerate_from at (take i xs)) ((at + length (take i xs), x) ∷ [])
    ∙ ap (λ z. map f (enumerate_from at (take i xs)) ++ f (at + z, x) ∷ []) count

pub joints_more : (l : ConfiguredLevel) (ss : List BusSwitch) (i : ℕ) (s : BusSwitch) → i < length ss → s ≡ get_or ss i s → map (joint_at l) (take (i + 1) ss) ≡ map (joint_at l) (take i ss) ++ joint_at l s ∷ []
joints_more l ss i s less is = ap (map (joint_at l)) (take_next ss i s less is) ∙ map-append (joint_at l) (take i ss) (s ∷ [])

-- the number of a bus that is there
pub numbered_place : (table : List (List ℕ × ℕ)) (buses : List (List ℕ)) (bus : List ℕ) (number : ℕ) → HasBuses table buses → has_id buses bus ≡ true → number_at table bus ≡ Some number → number ≡ bus_place buses bus
numbered_place table buses bus number has there is = some_same number (bus_place buses bus) (sym is ∙ has bus there)

pub joint_stands : (l : ConfiguredLevel) (ss : List BusSwitch) (i : ℕ) (s : BusSwitch) → LevelStands l → ss ≡ l.switches → i < length ss → s ≡ get_or ss i s → (has_id l.buses s.bus1 ≡ true) × (has_id l.buses s.bus2 ≡ true)
joint_stands l ss i s stands same less is =
    let P : BusSwitch → Type 0 = λ z. (has_id l.buses z.bus1 ≡ true) × (has_id l.buses z.bus2 ≡ true) in
    subst P (sym (is ∙ ap (λ z. get_or z i s) same)) (stands.switches i s (let e = ap length same in omega (arith, less, e)))

pub item_stands : (l : ConfiguredLevel) (ts : List BusInjection) (i : ℕ) (t : BusInjection) → LevelStands l → ts ≡ l.items → i < length ts → t ≡ get_or ts i t → has_id l.buses t.bus ≡ true
item_stands l ts i t stands same less is =
    let P : BusInjection → Type 0 = λ z. has_id l.buses z.bus ≡ true in
    subst P (sym (is ∙ ap (λ z. get_or z i t) same)) (stands.items i t (let e = ap length same in omega (arith, less, e)))

-- the breaker of an injection has its side
pub first_side : (id made : List ℕ) → made ≡ id ++ codes "!" ++ codes "1" → made ≡ breaker_id (terminal id 1)
unfolding breaker_id digits
first_side id made is = is

pub second_side : (id made : List ℕ) → made ≡ id ++ codes "!" ++ codes "2" → made ≡ breaker_id (terminal id 2)
unfolding breaker_id digits
second_side id made is = is

-- ---- what of a level's terminals is shown

abbrev busbar_of : Placed → List BusbarAt
busbar_of p = busbar_shown p.terminal.equipment p.node p.stand

abbrev injection_of : Placed → List InjectionAt
injection_of p = injection_shown p.terminal.equipment p.node p.stand

sections_shown : (at : ℕ) (buses : List (List ℕ)) → flat_map busbar_of (map bus_section (enumerate_from at buses)) ≡ map bus_at (enumerate_from at buses)
unfolding bus_section
sections_shown at [] = refl
sections_shown at (b ∷ buses) = ap (λ z. bus_at (at, b) ∷ z) (sections_shown (at + 1) buses)

sections_hidden : (at : ℕ) (buses : List (List ℕ)) → flat_map injection_of (map bus_section (enumerate_from at buses)) ≡ []
unfolding bus_section
sections_hidden at [] = refl
sections_hidden at (b ∷ buses) = sections_hidden (at + 1) buses

items_hidden : (l : ConfiguredLevel) (at : ℕ) (items : List BusInjection) → flat_map busbar_of (map outlet_placed (enumerate_from at (map (item_outlet l) items))) ≡ []
unfolding outlet_placed item_outlet
items_hidden l at [] = refl
items_hidden l at (t ∷ items) = items_hidden l (at + 1) items

items_shown : (l : ConfiguredLevel) (at : ℕ) (items : List BusInjection) → flat_map injection_of (map outlet_placed (enumerate_from at (map (item_outlet l) items))) ≡ map item_at (enumerate_from at items)
unfolding outlet_placed item_outlet
items_shown l at [] = refl
items_shown l at (t ∷ items) = ap (λ z. item_at (at, t) ∷ z) (items_shown l (at + 1) items)

breakers_shown : (l : ConfiguredLevel) (at : ℕ) (items : List BusInjection) → map switch_shown (map outlet_breaker (enumerate_from at (map (item_outlet l) items))) ≡ map (item_breaker l) (enumerate_from at items)
breakers_shown l at [] = refl
breakers_shown l at (t ∷ items) = ap (λ z. item_breaker l (at, t) ∷ z) (breakers_shown l (at + 1) items)

-- a level without the ends of lines
pub level_first : (l : ConfiguredLevel) → level_with l (map (item_outlet l) l.items) ≡ record {
  id = l.id;
  nominal_v = l.nominal_v;
  low_v = None;
  high_v = None;
  busbars = map bus_at (enumerate_from 0 l.buses);
  switches = map (joint_at l) l.switches ++ map (item_breaker l) (enumerate_from (length l.buses) l.items);
  internals = [];
  injections = map item_at (enumerate_from (length l.buses) l.items);
}
unfolding level_with translated_level outlets_at
level_first l =
    let sections = map bus_section (enumerate_from 0 l.buses) in
    let terminals = map outlet_placed (enumerate_from (length l.buses) (map (item_outlet l) l.items)) in
    let joints = map joint_breaker (map (joint_of l) l.switches) in
    let breakers = map outlet_breaker (enumerate_from (length l.buses) (map (item_outlet l) l.items)) in
    let busbars = flat_map-append busbar_of sections terminals ∙ ap (λ z. z ++ flat_map busbar_of terminals) (sections_shown 0 l.buses) ∙ ap (λ z. map bus_at (enumerate_from 0 l.buses) ++ z) (items_hidden l (length l.buses) l.items) ∙ append-nil (map bus_at (enumerate_from 0 l.buses)) in
    let injections = flat_map-append injection_of sections terminals ∙ ap (λ z. z ++ flat_map injection_of terminals) (sections_hidden 0 l.buses) ∙ items_shown l (length l.buses) l.items in
    let own = map_twice switch_shown joint_breaker (map (joint_of l) l.switches) ∙ map_twice (λ j. switch_shown (joint_breaker j)) (joint_of l) l.switches in
    let switches = map-append switch_shown joints breakers ∙ ap (λ z. z ++ map switch_shown breakers) own ∙ ap (λ z. map (joint_at l) l.switches ++ z) (breakers_shown l (length l.buses) l.items) in
    rw (busbars, switches, injections) refl

-- ---- one end more

ends_hidden : (at : ℕ) (ts : List Outlet) (o : Outlet) → o.stand ≡ BranchEnd → flat_map busbar_of (map outlet_placed (enumerate_from at (ts ++ o ∷ []))) ≡ flat_map busbar_of (map outlet_placed (enumerate_from at ts))
unfolding outlet_placed
ends_hidden at [] o e = ap (λ z. busbar_shown o.terminal.equipment at z ++ []) e
ends_hidden at (t ∷ ts) o e = ap (λ z. busbar_of (outlet_placed (at, t)) ++ z) (ends_hidden (at + 1) ts o e)

ends_unshown : (at : ℕ) (ts : List Outlet) (o : Outlet) → o.stand ≡ BranchEnd → flat_map injection_of (map outlet_placed (enumerate_from at (ts ++ o ∷ []))) ≡ flat_map injection_of (map outlet_placed (enumerate_from at ts))
unfolding outlet_placed
ends_unshown at [] o e = ap (λ z. injection_shown o.terminal.equipment at z ++ []) e
ends_unshown at (t ∷ ts) o e = ap (λ z. injection_of (outlet_placed (at, t)) ++ z) (ends_unshown (at + 1) ts o e)

level_more : (l : ConfiguredLevel) (ts : List Outlet) (o : Outlet) → o.stand ≡ BranchEnd
    → level_with l (ts ++ o ∷ []) ≡ record (level_with l ts) { switches = (level_with l ts).switches ++ switch_shown (outlet_breaker (length l.buses + length ts, o)) ∷ [] }
unfolding level_with translated_level outlets_at
level_more l ts o e =
    let sections = map bus_section (enumerate_from 0 l.buses) in
    let joints = map joint_breaker (map (joint_of l) l.switches) in
    let es = enumerate_from (length l.buses) ts in
    let busbars = flat_map-append busbar_of sections (map outlet_placed (enumerate_from (length l.buses) (ts ++ o ∷ []))) ∙ ap (λ z. flat_map busbar_of sections ++ z) (ends_hidden (length l.buses) ts o e) ∙ sym (flat_map-append busbar_of sections (map outlet_placed es)) in
    let injections = flat_map-append injection_of sections (map outlet_placed (enumerate_from (length l.buses) (ts ++ o ∷ []))) ∙ ap (λ z. flat_map injection_of sections ++ z) (ends_unshown (length l.buses) ts o e) ∙ sym (flat_map-append injection_of sections (map outlet_placed es)) in
    let breakers = ap (map outlet_breaker) (numbers_more (length l.buses) ts o) ∙ map-append outlet_breaker es ((length l.buses + length ts, o) ∷ []) in
    let switches = ap (λ z. map switch_shown (joints ++ z)) breakers ∙ ap (map switch_shown) (sym (append_assoc joints (map outlet_breaker es) (outlet_breaker (length l.buses + length ts, o) ∷ []))) ∙ map-append switch_shown (joints ++ map outlet_breaker es) (outlet_breaker (length l.buses + length ts, o) ∷ []) in
    rw (busbars, switches, injections) refl

abbrev end_outlet : ConfiguredLevel → List ℕ → ℕ → BusEnd → Outlet
end_outlet l id side e = record { terminal = terminal id side; place = bus_place l.buses e.bus; connected = e.connected; stand = BranchEnd }

growing_more : (l : ConfiguredLevel) (ts : List Outlet) (id : List ℕ) (side : ℕ) (e : BusEnd) → growing l (ts ++ end_outlet l id side e ∷ []) ≡ grown (breaker_id (terminal id side)) (bus_place l.buses e.bus) e.connected (growing l ts)
unfolding growing grown outlet_breaker
growing_more l ts id side e =
    let longer : length l.buses + length (ts ++ end_outlet l id side e ∷ []) ≡ length l.buses + length ts + 1 = (let f = length-append ts (end_outlet l id side e ∷ []) in omega (arith, f)) in
    ap (λ z. record { lists = z; next = length l.buses + length (ts ++ end_outlet l id side e ∷ []) }) (level_more l ts (end_outlet l id side e) refl)
    ∙ ap (λ z. record { lists = record (level_with l ts) { switches = (level_with l ts).switches ++ end_breaker (breaker_id (terminal id side)) (bus_place l.buses e.bus) (length l.buses + length ts) e.connected ∷ [] }; next = z }) longer

module _ (T : ConfiguredLevel → List Outlet) (id : List ℕ) (side : ℕ) (e : BusEnd) where
  -- a level, before the end and with it
  abbrev before : ConfiguredLevel → GrowingLevel
  before m = growing m (T m)

  abbrev after : ConfiguredLevel → GrowingLevel
  after m = growing m (T m ++ end_outlets m id side e)

  other : (m : ConfiguredLevel) → same_id e.level m.id ≡ false → before m ≡ after m
  unfolding end_outlets
  other m h = by (same_id m.id e.level) (same_back m.id e.level ∙ h)
    where
      by : (t : Bool) → t ≡ false → growing m (T m) ≡ growing m (T m ++ cond t (end_outlet m id side e ∷ []) [])
      by true f = absurd (let g : true ≡ false = f in cc)
      by false f = ap (growing m) (sym (append-nil (T m)))

  others : (ls : List ConfiguredLevel) → times e.level (map (λ (l : ConfiguredLevel). l.id) ls) ≡ 0 → map before ls ≡ map after ls
  others [] h = refl
  others (m ∷ ls) h = by (same_id e.level m.id) refl h (others ls)
    where
      by : (t : Bool) → same_id e.level m.id ≡ t → cond t 1 0 + times e.level (map (λ (l : ConfiguredLevel). l.id) ls) ≡ 0 → (times e.level (map (λ (l : ConfiguredLevel). l.id) ls) ≡ 0 → map before ls ≡ map after ls) → before m ∷ map before ls ≡ after m ∷ map after ls
      by true f g again = absurd (omega (arith, g))
      by false f g again = ap (λ z. z ∷ map before ls) (other m f) ∙ ap (λ z. after m ∷ z) (again (omega (arith, g)))

  -- the one level of the end, grown
  own : (m : ConfiguredLevel) → same_id e.level m.id ≡ true → grown (breaker_id (terminal id side)) (bus_place m.buses e.bus) e.connected (before m) ≡ after m
  unfolding end_outlets
  own m h = sym (growing_more m (T m) id side e) ∙ ap (λ t. growing m (T m ++ cond t (end_outlet m id side e ∷ []) [])) (sym (same_back m.id e.level ∙ h))

  pub end_put : (ls : List ConfiguredLevel) (k : ℕ) (l : ConfiguredLevel) → slice_get ls k ≡ Some l → same_id e.level l.id ≡ true → times e.level (map (λ (l : ConfiguredLevel). l.id) ls) ≤ 1
      → (1 ≤ times e.level (map (λ (l : ConfiguredLevel). l.id) ls)) × (slice_set (map before ls) k (grown (breaker_id (terminal id side)) (bus_place l.buses e.bus) e.connected (before l)) ≡ map after ls)
  end_put [] k l at h few = absurd (some_none l at)
  end_put (m ∷ ls) zero l at h few =
      let same : m ≡ l = some_same m l at in
      let here : same_id e.level m.id ≡ true = ap (λ (z : ConfiguredLevel). same_id e.level z.id) same ∙ h in
      let one : ◌≡◌ {A = ℕ} (cond (same_id e.level m.id) 1 0) 1 = ap (λ t. cond t 1 0) here in (
        omega (arith, one),
        ap (λ (z : ConfiguredLevel). grown (breaker_id (terminal id side)) (bus_place z.buses e.bus) e.connected (before z) ∷ map before ls) (sym same) ∙ ap (λ z. z ∷ map before ls) (own m here) ∙ ap (λ z. after m ∷ z) (others ls (omega (arith, few, one))),
      )
  end_put (m ∷ ls) (suc k) l at h few =
      let rest = end_put ls k l at h (omega (arith, few)) in
      let some : 1 ≤ times e.level (map (λ (l : ConfiguredLevel). l.id) ls) = rest.0 in
      let apart : same_id e.level m.id ≡ false = none_here (same_id e.level m.id) (omega (arith, few, some)) in
      (omega (arith, some), ap (λ z. z ∷ slice_set (map before ls) k (grown (breaker_id (terminal id side)) (bus_place l.buses e.bus) e.connected (before l))) (other m apart) ∙ ap (λ z. after m ∷ z) rest.1)
    where
      none_here : (t : Bool) → ◌≡◌ {A = ℕ} (cond t 1 0) 0 → t ≡ false
      none_here true g = absurd (omega (arith, g))
      none_here false g = refl
