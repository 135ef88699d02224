-- What loading a level makes of itself, where it has configured buses, and that it leaves the levels before it.
use Rattle.std.proofs.Common.{◌≡◌, refl, sym, ap, ◌∙◌, subst, ℕ, ℤ, pos, suc, ◌+◌, ◌<◌, Bool, true, false, List, [], ◌∷◌, ◌++◌, length, Some, None, Result, Ok}
use Rattle.std.specs.Prelude.{map, codes, decimal}
use Rattle.std.specs.List.{enumerate_from}
use Rattle.std.proofs.lemmas.List.{append-nil}
use Rattle.std.proofs.lemmas.List.Concat.{flat_map_single}
use Rattle.std.proofs.lemmas.List.Elements.{All-append, All-cons, All-nil}
use Rattle.grid_ids.specs.Name.{same_id}
use Rattle.grid_ids.proofs.Alike.{same_is}
use Rattle.grid_kinds.specs.declared.SwitchKind.TheVariants.{Breaker}
use Rattle.grid_level.specs.declared.Stand.TheVariants.{Feeder}
use Rattle.grid_level.specs.VoltageLevel.{VoltageLevel}
use Rattle.grid_level.specs.LevelEdits.{Unfit, level_with_switch, level_with_terminal}
use Rattle.grid_level.specs.Passing.{is_busbar}
use Rattle.grid_structure.specs.declared.Edit.TheVariants as edits
use Rattle.grid_structure.specs.Network.{Network}
use Rattle.grid_structure.specs.Sites.{level_named}
use Rattle.grid_structure.specs.Editing.{apply}
use Rattle.grid_structure.proofs.Substations.{bare_level}
use Rattle.grid_placed.specs.Places.{Joint, Outlet, PlacesFit}
use Rattle.grid_placed.specs.Translation.{bus_section}
use Rattle.grid_placed.proofs.Nodes.{StandsWell}
use Rattle.grid_json.specs.declared.network.BusbarDraft.{BusbarDraft}
use Rattle.grid_json.specs.declared.network.SwitchDraft.{SwitchDraft}
use Rattle.grid_json.specs.declared.network.InternalDraft.{InternalDraft}
use Rattle.grid_json.specs.declared.network.InjectionDraft.{InjectionDraft}
use Rattle.grid_json.specs.declared.network.LevelDraft.{LevelDraft}
use Rattle.grid_json.specs.declared.buses.BusSwitch.{BusSwitch}
use Rattle.grid_json.specs.declared.buses.BusInjection.{BusInjection}
use Rattle.grid_json.specs.declared.buses.BusLevelDraft.{BusLevelDraft}
use Rattle.grid_json.specs.declared.fault.Fault.{Fault}
use Rattle.grid_json.specs.Reading.{under}
use Rattle.grid_json.specs.Loading.{bus_at, bus_injection_load, bus_level_load, bus_switch_load, busbar_load, buses_load, differing, edited, injection_load, internal_load, level_load, load_items, load_member, next_node, short_id, switch_load}
use Rattle.grid_json.proofs.BusLoops.{accepted}
use Rattle.grid_json.proofs.BusSections.{buses_are_sections}
use Rattle.grid_json.proofs.Results.{bound, inside}
use Rattle.grid_shaped.specs.Drafts.{injection_outlet, joint_of, place_among, placed_with}
use Rattle.grid_shaped.proofs.LevelChanges.{Changed, SameHomes, Stays, busbar_changed, changed_homes, changed_stays, injection_changed, internal_changed, stays_then, switch_changed}
use Rattle.grid_shaped.proofs.Additions.{home_stays, level_opened}
use Rattle.grid_shaped.proofs.Items.{items_add, items_keep}
use Rattle.grid_shaped.proofs.Parts.{IsAt, breaker_edit, breaker_more, bus_is_at, joint_edit, joint_more, next_is, part, plain_of, terminal_more}
use Rattle.grid_shaped.proofs.Ends.{PartAt, breaker_changed, switch_edit}
use Rattle.grid_shaped.proofs.Branches.{joints_of}

-- ---- edits of one level

pub record Within (level : List ℕ) (net new : Network) : Type 0 where
  pub homes : (q : List ℕ) → SameHomes net new q
  pub others : (q : List ℕ) → same_id q level ≡ false → Stays q net new

within_itself : (level : List ℕ) (net : Network) → Within level net net
within_itself level net = record { homes = λ q o. refl; others = λ q other. record { named = refl; homes = λ o. refl } }

within_then : (level : List ℕ) (a b c : Network) → Within level a b → Within level b c → Within level a c
within_then level a b c s t = record { homes = λ q o. t.homes q o ∙ s.homes q o; others = λ q other. stays_then q a b c (s.others q other) (t.others q other) }

within : (net new : Network) (level : List ℕ) (change : VoltageLevel → Result VoltageLevel Unfit) → Changed net new level change → Within level net new
within net new level change c = record { homes = λ q. changed_homes net new level change c q; others = λ q other. changed_stays net new level change c q other }

-- the parts of a member
module _ {A : Type 0} (f : A → List ℕ → Network → Result Network Fault) (level : List ℕ) (each : (x : A) (net new : Network) → f x level net ≡ Ok new → Within level net new) where
  member_within : (name : List ℕ) (xs : List A) (net new : Network) → load_member f name xs level net ≡ Ok new → Within level net new
  member_within name xs net new h =
      items_keep f level (λ (z : Network). Within level net z) (λ x s t p k. within_then level net s t p (each x s t k)) 0 xs net new (within_itself level net) (inside name (load_items f 0 xs level net) new h)

-- ---- a level of nodes

module _ (level : List ℕ) where
  busbar_within : (b : BusbarDraft) (net new : Network) → busbar_load b level net ≡ Ok new → Within level net new
  unfolding busbar_load
  busbar_within b net new h = within net new level _ (busbar_changed net new b.id level b.node (accepted (apply net (edits.AddBusbar b.id level b.node)) new h))

  switch_within : (s : SwitchDraft) (net new : Network) → switch_load s level net ≡ Ok new → Within level net new
  unfolding switch_load
  switch_within s net new h =
      within net new level _ (switch_changed net new s.id level s.kind s.node1 s.node2 s.opened s.retained s.fictitious (accepted (apply net (edits.AddSwitch s.id level s.kind s.node1 s.node2 s.opened s.retained s.fictitious)) new h))

  internal_within : (i : InternalDraft) (net new : Network) → internal_load i level net ≡ Ok new → Within level net new
  unfolding internal_load
  internal_within i net new h = within net new level _ (internal_changed net new level i.node1 i.node2 (accepted (apply net (edits.AddInternal level i.node1 i.node2)) new h))

  injection_within : (i : InjectionDraft) (net new : Network) → injection_load i level net ≡ Ok new → Within level net new
  unfolding injection_load
  injection_within i net new h = within net new level _ (injection_changed net new i.id level i.node i.item (accepted (apply net (edits.AddInjection i.id level i.node i.item)) new h))

-- a level that is there has another id than a new one
apart : (net : Network) (q id : List ℕ) (there : VoltageLevel) → level_named net q ≡ Some there → level_named net id ≡ None → same_id q id ≡ false
apart net q id there named free = by (same_id q id) refl
  where
    by : (t : Bool) → same_id q id ≡ t → t ≡ false
    by true is = let none : level_named net q ≡ None = ap (level_named net) (same_is q id is) ∙ free in absurd (cc (none, named))
    by false is = refl

pub level_stays : (l : LevelDraft) (substation : List ℕ) (net new : Network) (q : List ℕ) (there : VoltageLevel) → level_named net q ≡ Some there → level_load l substation net ≡ Ok new → Stays q net new
unfolding level_load
level_stays l substation net new q there named h =
    let made = bound (edited (edits.AddLevel l.id substation l.nominal_v l.low_v l.high_v) net) _ new h in
    let opened = level_opened net made.0 l.id substation l.nominal_v l.low_v l.high_v (accepted (apply net (edits.AddLevel l.id substation l.nominal_v l.low_v l.high_v)) made.0 made.1) in
    let other = apart net q l.id there named opened.free in
    let busbars = bound (load_member busbar_load (codes "busbars") l.busbars l.id made.0) _ new made.2 in
    let switches = bound (load_member switch_load (codes "switches") l.switches l.id busbars.0) _ new busbars.2 in
    let internals = bound (load_member internal_load (codes "internal") l.internals l.id switches.0) _ new switches.2 in
    let a = member_within busbar_load l.id (busbar_within l.id) (codes "busbars") l.busbars made.0 busbars.0 busbars.1 in
    let b = member_within switch_load l.id (switch_within l.id) (codes "switches") l.switches busbars.0 switches.0 switches.1 in
    let c = member_within internal_load l.id (internal_within l.id) (codes "internal") l.internals switches.0 internals.0 internals.1 in
    let d = member_within injection_load l.id (injection_within l.id) (codes "injections") l.injections internals.0 new internals.2 in
    let all = within_then l.id made.0 busbars.0 new a (within_then l.id busbars.0 switches.0 new b (within_then l.id switches.0 internals.0 new c d)) in
    stays_then q net made.0 new (opened.others q other) (all.others q other)

-- ---- the parts of a level with configured buses

buses_within : (level : List ℕ) (place : ℕ) (buses : List (List ℕ)) (net new : Network) → buses_load place buses level net ≡ Ok new → Within level net new
unfolding buses_load
buses_within level place [] net new h = let same : net ≡ new = cc in subst (λ (z : Network). Within level net z) same (within_itself level net)
buses_within level place (bus ∷ buses) net new h =
    let one = bound (under (decimal place) (edited (edits.AddBusbar bus level (pos place)) net)) (buses_load (suc place) buses level) new h in
    let done = accepted (apply net (edits.AddBusbar bus level (pos place))) one.0 (inside (decimal place) (edited (edits.AddBusbar bus level (pos place)) net) one.0 one.1) in
    within_then level net one.0 new (within net one.0 level _ (busbar_changed net one.0 bus level (pos place) done)) (buses_within level (suc place) buses one.0 new one.2)

record Switched (s : BusSwitch) (level : List ℕ) (net new : Network) : Type 0 where
  place1 : ℕ
  place2 : ℕ
  at1 : bus_at net level s.bus1 ≡ Ok place1
  at2 : bus_at net level s.bus2 ≡ Ok place2
  changed : Changed net new level (λ v. level_with_switch v s.id Breaker (pos place1) (pos place2) s.opened true false)

switched : (s : BusSwitch) (level : List ℕ) (net new : Network) → bus_switch_load s level net ≡ Ok new → Switched s level net new
unfolding bus_switch_load
switched s level net new h =
    let a = bound (bus_at net level s.bus1) _ new h in
    let b = bound (bus_at net level s.bus2) _ new a.2 in
    let d = bound (differing s.bus1 s.bus2) _ new b.2 in
    record {
      place1 = a.0;
      place2 = b.0;
      at1 = a.1;
      at2 = b.1;
      changed = switch_changed net new s.id level Breaker (pos a.0) (pos b.0) s.opened true false (accepted (apply net (edits.AddSwitch s.id level Breaker (pos a.0) (pos b.0) s.opened true false)) new d.2);
    }

record Injected (i : BusInjection) (level : List ℕ) (net new : Network) : Type 0 where
  bus : ℕ
  mid : Network
  at : bus_at net level i.bus ≡ Ok bus
  added : Changed net mid level (λ v. level_with_terminal v (pos (next_node net level)) (record { equipment = i.id; side = 1 }) (Feeder i.item))
  breaker : Changed mid new level (switch_edit i.id 1 bus (pos (next_node net level)) i.connected)

injected : (i : BusInjection) (level : List ℕ) (net new : Network) → bus_injection_load i level net ≡ Ok new → Injected i level net new
unfolding bus_injection_load
injected i level net new h =
    let node : ℤ = pos (next_node net level) in
    let a = bound (bus_at net level i.bus) _ new h in
    let b = bound (short_id i.id) _ new a.2 in
    let d = bound (edited (edits.AddInjection i.id level node i.item) net) _ new b.2 in
    record {
      bus = a.0;
      mid = d.0;
      at = a.1;
      added = injection_changed net d.0 i.id level node i.item (accepted (apply net (edits.AddInjection i.id level node i.item)) d.0 d.1);
      breaker = breaker_changed i.id 1 level a.0 node i.connected d.0 new d.2;
    }

bus_switch_within : (level : List ℕ) (s : BusSwitch) (net new : Network) → bus_switch_load s level net ≡ Ok new → Within level net new
bus_switch_within level s net new h = let k = switched s level net new h in within net new level _ k.changed

bus_injection_within : (level : List ℕ) (i : BusInjection) (net new : Network) → bus_injection_load i level net ≡ Ok new → Within level net new
bus_injection_within level i net new h =
    let k = injected i level net new h in
    within_then level net k.mid new (within net k.mid level _ k.added) (within k.mid new level _ k.breaker)

-- ---- what they make of the level

-- with these switches and terminals, each at its bus
pub record Growing (l : BusLevelDraft) (home : List ℕ) (js : List Joint) (ts : List Outlet) (net : Network) : Type 0 where
  pub whole : PartAt l home js ts ts net
  pub fits : PlacesFit (placed_with l js ts)

abbrev JoinsWell : ℕ → Joint → Type 0
JoinsWell most s = (s.place1 < most) × (s.place2 < most)

module _ (l : BusLevelDraft) (home : List ℕ) where
  switch_grows : (s : BusSwitch) (js : List Joint) (net new : Network) → Growing l home js [] net → bus_switch_load s l.id net ≡ Ok new → Growing l home (js ++ joint_of l.buses s ∷ []) [] new
  switch_grows s js net new g h =
      let k = switched s l.id net new h in
      let a : IsAt l.buses s.bus1 k.place1 = bus_is_at l net js [] [] s.bus1 k.place1 g.whole.named refl k.at1 in
      let b : IsAt l.buses s.bus2 k.place2 = bus_is_at l net js [] [] s.bus2 k.place2 g.whole.named refl k.at2 in
      let changed : Changed net new l.id (joint_edit (joint_of l.buses s)) =
      subst (λ (y : ℕ). Changed net new l.id (λ v. level_with_switch v s.id Breaker (pos (place_among l.buses s.bus1)) (pos y) s.opened true false)) (sym b.place_is)
      (subst (λ (x : ℕ). Changed net new l.id (λ v. level_with_switch v s.id Breaker (pos x) (pos k.place2) s.opened true false)) (sym a.place_is) k.changed) in
      let P : Joint → Type 0 = JoinsWell (length l.buses) in
      record {
        whole = record {
          named = joint_more l net new js (joint_of l.buses s) g.whole.named changed;
          at_home = home_stays net new home l.id g.whole.at_home (changed_homes net new l.id _ k.changed l.id);
        };
        fits = record { joints = All-append P js (joint_of l.buses s ∷ []) g.fits.joints (All-cons P (joint_of l.buses s) [] (a.below, b.below) (All-nil P)); outlets = g.fits.outlets };
      }

  injection_grows : (js : List Joint) (i : BusInjection) (ts : List Outlet) (net new : Network) → Growing l home js ts net → bus_injection_load i l.id net ≡ Ok new → Growing l home js (ts ++ injection_outlet l.buses i ∷ []) new
  unfolding is_busbar
  injection_grows js i ts net new g h =
      let k = injected i l.id net new h in
      let t = injection_outlet l.buses i in
      let n = next_node net l.id in
      let behind : n ≡ length l.buses + length ts = next_is l net js ts g.whole.named g.fits in
      let a : IsAt l.buses i.bus k.bus = bus_is_at l net js ts ts i.bus k.bus g.whole.named (plain_of (length l.buses) ts g.fits.outlets) k.at in
      let mid : level_named k.mid l.id ≡ Some (part l js ts (ts ++ t ∷ [])) = terminal_more l net k.mid js ts ts g.whole.named n t behind k.added in
      let broken : Changed k.mid new l.id (breaker_edit n t) =
      subst (λ (x : ℕ). Changed k.mid new l.id (switch_edit i.id 1 x (pos n) i.connected)) (sym a.place_is) k.breaker in
      let P : Outlet → Type 0 = StandsWell (length l.buses) in
      record {
        whole = record {
          named = breaker_more l k.mid new js ts (ts ++ t ∷ []) mid n t behind broken;
          at_home = home_stays k.mid new home l.id (home_stays net k.mid home l.id g.whole.at_home (changed_homes net k.mid l.id _ k.added l.id)) (changed_homes k.mid new l.id _ k.breaker l.id);
        };
        fits = record { joints = g.fits.joints; outlets = All-append P ts (t ∷ []) g.fits.outlets (All-cons P t [] (a.below, refl) (All-nil P)) };
      }

abbrev pub injections_of : BusLevelDraft → List Outlet
injections_of l = map (injection_outlet l.buses) l.injections

-- what loading a level with configured buses did
pub record Loading (l : BusLevelDraft) (substation : List ℕ) (net new : Network) : Type 0 where
  pub grown : Growing l substation (joints_of l) (injections_of l) new
  pub others : (q : List ℕ) (there : VoltageLevel) → level_named net q ≡ Some there → Stays q net new

pub bus_level_loaded : (l : BusLevelDraft) (substation : List ℕ) (net new : Network) → bus_level_load l substation net ≡ Ok new → Loading l substation net new
unfolding bus_level_load
bus_level_loaded l substation net new h =
    let made = bound (edited (edits.AddLevel l.id substation l.nominal_v l.low_v l.high_v) net) _ new h in
    let opened = level_opened net made.0 l.id substation l.nominal_v l.low_v l.high_v (accepted (apply net (edits.AddLevel l.id substation l.nominal_v l.low_v l.high_v)) made.0 made.1) in
    let buses = bound (under (codes "buses") (buses_load 0 l.buses l.id made.0)) _ new made.2 in
    let listed = inside (codes "buses") (buses_load 0 l.buses l.id made.0) buses.0 buses.1 in
    let switches = bound (load_member bus_switch_load (codes "switches") l.switches l.id buses.0) _ new buses.2 in
    let a = buses_within l.id 0 l.buses made.0 buses.0 listed in
    let b = member_within bus_switch_load l.id (bus_switch_within l.id) (codes "switches") l.switches buses.0 switches.0 switches.1 in
    let c = member_within bus_injection_load l.id (bus_injection_within l.id) (codes "injections") l.injections switches.0 new switches.2 in
    let all = within_then l.id made.0 buses.0 new a (within_then l.id buses.0 switches.0 new b c) in
    let bare = bare_level l.id l.nominal_v l.low_v l.high_v in
    let sections : map bus_section (enumerate_from 0 l.buses) ≡ map bus_section (enumerate_from 0 l.buses) ++ [] = sym (append-nil (map bus_section (enumerate_from 0 l.buses))) in
    let first : Growing l substation [] [] buses.0 = record {
      whole = record {
        named = buses_are_sections made.0 buses.0 l.id bare l.buses opened.named refl listed ∙ ap (λ z. Some (record bare { placed = z })) sections;
        at_home = home_stays made.0 buses.0 substation l.id opened.home (a.homes l.id);
      };
      fits = record { joints = All-nil (JoinsWell (length l.buses)); outlets = All-nil (StandsWell (length l.buses)) };
    } in
    let joined = items_add bus_switch_load l.id (λ js z. Growing l substation js [] z) (λ (s : BusSwitch). joint_of l.buses s ∷ []) (switch_grows l substation) 0 l.switches [] buses.0 switches.0 first
    (inside (codes "switches") (load_items bus_switch_load 0 l.switches l.id buses.0) switches.0 switches.1) in
    let second : Growing l substation (joints_of l) [] switches.0 = subst (λ js. Growing l substation js [] switches.0) (flat_map_single (joint_of l.buses) l.switches) joined in
    let filled = items_add bus_injection_load l.id (λ ts z. Growing l substation (joints_of l) ts z) (λ (i : BusInjection). injection_outlet l.buses i ∷ []) (injection_grows l substation (joints_of l)) 0 l.injections [] switches.0 new second
    (inside (codes "injections") (load_items bus_injection_load 0 l.injections l.id switches.0) new switches.2) in
    record {
      grown = subst (λ ts. Growing l substation (joints_of l) ts new) (flat_map_single (injection_outlet l.buses) l.injections) filled;
      others = λ q there named. let other = apart net q l.id there named opened.free in stays_then q net made.0 new (opened.others q other) (all.others q other);
    }
