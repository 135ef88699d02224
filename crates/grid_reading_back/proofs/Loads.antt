-- A network that is loaded from a draft is sound, and keeps the rule that the draft's ids and numbers keep.
use Rattle.std.proofs.Common.{◌≡◌, ◌≤◌, ◌||◌, ℕ, ℤ, pos, suc, Bool, true, false, not, List, [], ◌∷◌, Result, Ok, Err, refl, ap, arith, subst}
use Rattle.std.specs.Prelude.{IfSome, codes, decimal, ⊤}
use Rattle.std.specs.List.{AllByRecursion}
use Rattle.grid_ids.specs.Name.{same_id}
use Rattle.grid_kinds.specs.declared.SwitchKind.TheVariants.{Breaker}
use Rattle.grid_level.specs.LevelEdits.{max_node}
use Rattle.grid_structure.specs.Network.{Network, empty_of}
use Rattle.grid_structure.specs.declared.Branch.{Branch}
use Rattle.grid_structure.specs.declared.End.{End}
use Rattle.grid_structure.specs.declared.Edit.TheVariants as edits
use Rattle.grid_structure.specs.declared.EditFault.{EditFault}
use Rattle.grid_structure.specs.Soundness.{IsSound}
use Rattle.grid_structure.specs.Editing.{apply}
use Rattle.grid_structure.proofs.Sound.{empty_sound}
use Rattle.grid_structure.proofs.Soundly.{apply_sound}
use Rattle.grid_requests.specs.RequestParts.{item_numbers, shape_ids}
use Rattle.grid_placed.specs.Translation.{breaker_id}
use Rattle.grid_json.specs.declared.fault.Fault.{Fault}
use Rattle.grid_json.specs.declared.buses.BusSwitch.{BusSwitch}
use Rattle.grid_json.specs.declared.buses.BusInjection.{BusInjection}
use Rattle.grid_json.specs.declared.buses.BusLevelDraft.{BusLevelDraft}
use Rattle.grid_json.specs.declared.buses.EndDraft.{EndDraft}
use Rattle.grid_json.specs.declared.buses.EndDraft.TheVariants as ends
use Rattle.grid_json.specs.declared.ends.Two.{Two}
use Rattle.grid_json.specs.declared.ends.Three.{Three}
use Rattle.grid_json.specs.declared.network.BusbarDraft.{BusbarDraft}
use Rattle.grid_json.specs.declared.network.SwitchDraft.{SwitchDraft}
use Rattle.grid_json.specs.declared.network.InternalDraft.{InternalDraft}
use Rattle.grid_json.specs.declared.network.InjectionDraft.{InjectionDraft}
use Rattle.grid_json.specs.declared.network.LevelDraft.{LevelDraft}
use Rattle.grid_json.specs.declared.network.AnyLevelDraft.{AnyLevelDraft}
use Rattle.grid_json.specs.declared.network.AnyLevelDraft.TheVariants as levels
use Rattle.grid_json.specs.declared.network.TransformerDraft.{TransformerDraft}
use Rattle.grid_json.specs.declared.network.Windings.{Windings}
use Rattle.grid_json.specs.declared.network.Windings.TheVariants as shapes
use Rattle.grid_json.specs.declared.network.LineDraft.{LineDraft}
use Rattle.grid_json.specs.declared.network.SubstationDraft.{SubstationDraft}
use Rattle.grid_json.specs.declared.network.NetworkDraft.{NetworkDraft}
use Rattle.grid_json.specs.Reading.{under}
use Rattle.grid_json.specs.Command.{line_of, two_windings_of, three_windings_of}
use Rattle.grid_json.specs.Loading.{load_items, load_member, refused, edited, busbar_load, switch_load, internal_load, injection_load, level_load, buses_load, bus_at, next_node, differing, bus_switch_load, short_id, breaker_told, breaker_load, bus_injection_load, bus_level_load}
use Rattle.grid_json.specs.Loading.{Loaded, nothing_of, with_network, with_bus_level, any_level_load, level_of, end_check, is_by_bus, short_where, two_check, three_check, placed_end, two_placed, three_placed, two_nodes, three_nodes, end_breaker, two_breakers, three_breakers, two_load, three_load, transformer_load, line_load, substation_load, parts_load, network_load}
use Rattle.grid_json.proofs.Results.{bound, inside}
use Rattle.grid_reading_back.proofs.Networks.{NetworkKeeps, rated_numbers}
use Rattle.grid_reading_back.proofs.Options.{same_read}
use Rattle.grid_reading_back.proofs.EditRules.{substation_added, level_added, busbar_added, switch_added, internal_added, injection_added, branch_added}

-- ---- what went well

applied : (read : Result Network EditFault) (net : Network) → refused read ≡ Ok net → read ≡ Ok net
applied (Ok made) net is = cc
applied (Err fault) net is = cc

breaker_applied : (side : ℕ) (read : Result Network EditFault) (net : Network) → breaker_told side read ≡ Ok net → read ≡ Ok net
breaker_applied side (Ok made) net is = cc
breaker_applied side (Err fault) net is = cc

network_put : (old : Loaded) (read : Result Network Fault) (new : Loaded) → with_network old read ≡ Ok new → read ≡ Ok new.network
network_put old (Ok net) new is =
    let made : Loaded = record { network = net; bus_levels = old.bus_levels } in
    ap (λ (z : Loaded). Ok z.network) (same_read made new is)
network_put old (Err fault) new is = cc

bus_level_put : (id : List ℕ) (old : Loaded) (read : Result Network Fault) (new : Loaded) → with_bus_level id old read ≡ Ok new → read ≡ Ok new.network
bus_level_put id old (Ok net) new is =
    let made : Loaded = record { network = net; bus_levels = λ q. old.bus_levels q || same_id q id } in
    ap (λ (z : Loaded). Ok z.network) (same_read made new is)
bus_level_put id old (Err fault) new is = cc

-- where an end is by bus the id is short
short_from : (by_bus : Bool) (id : List ℕ) → short_where by_bus id ≡ Ok tt → by_bus ≡ true → short_id id ≡ Ok tt
short_from true id is e = is
short_from false id is e = cc

first_by : (a b : Bool) → a ≡ true → (a || b) ≡ true
first_by a b e = rw e refl

second_by : (a b : Bool) → b ≡ true → (a || b) ≡ true
second_by true b e = refl
second_by false b e = e

-- ---- drafts whose ids and numbers keep a rule

module _ (P : List ℕ → Type 0) (Q : ℤ → Type 0) where
  abbrev pub BusbarKeeps : BusbarDraft → Type 0
  BusbarKeeps b = P b.id

  abbrev pub SwitchDraftKeeps : SwitchDraft → Type 0
  SwitchDraftKeeps s = P s.id

  abbrev pub InjectionKeeps : InjectionDraft → Type 0
  InjectionKeeps i = P i.id × AllByRecursion Q (item_numbers i.item)

  pub record LevelDraftKeeps (l : LevelDraft) : Type 0 where
    pub id : P l.id
    pub nominal : Q l.nominal_v
    pub low : IfSome l.low_v Q
    pub high : IfSome l.high_v Q
    pub busbars : AllByRecursion BusbarKeeps l.busbars
    pub switches : AllByRecursion SwitchDraftKeeps l.switches
    pub injections : AllByRecursion InjectionKeeps l.injections

  abbrev pub BusSwitchKeeps : BusSwitch → Type 0
  BusSwitchKeeps s = P s.id

  abbrev pub BusInjectionKeeps : BusInjection → Type 0
  BusInjectionKeeps i = P i.id × AllByRecursion Q (item_numbers i.item)

  pub record BusLevelKeeps (l : BusLevelDraft) : Type 0 where
    pub id : P l.id
    pub nominal : Q l.nominal_v
    pub low : IfSome l.low_v Q
    pub high : IfSome l.high_v Q
    pub buses : AllByRecursion P l.buses
    pub switches : AllByRecursion BusSwitchKeeps l.switches
    pub injections : AllByRecursion BusInjectionKeeps l.injections

  abbrev pub AnyLevelKeeps : AnyLevelDraft → Type 0
  AnyLevelKeeps (levels.Nodes l) = LevelDraftKeeps l
  AnyLevelKeeps (levels.Buses l) = BusLevelKeeps l

  abbrev pub EndDraftKeeps : EndDraft → Type 0
  EndDraftKeeps e = P (level_of e)

  abbrev pub WindingsKeep : Windings → Type 0
  WindingsKeep (shapes.Two two rated) = EndDraftKeeps two.first × EndDraftKeeps two.second × Q rated.first × Q rated.second
  WindingsKeep (shapes.Three three rated) =
      EndDraftKeeps three.first × EndDraftKeeps three.second × EndDraftKeeps three.third × Q rated.first × Q rated.second × Q rated.third

  abbrev pub TransformerKeeps : TransformerDraft → Type 0
  TransformerKeeps t = P t.id × WindingsKeep t.windings

  abbrev pub LineKeeps : LineDraft → Type 0
  LineKeeps l = P l.id × EndDraftKeeps l.ends.first × EndDraftKeeps l.ends.second

  pub record SubstationDraftKeeps (s : SubstationDraft) : Type 0 where
    pub id : P s.id
    pub levels : AllByRecursion AnyLevelKeeps s.levels
    pub transformers : AllByRecursion TransformerKeeps s.transformers

  pub record NetworkDraftKeeps (n : NetworkDraft) : Type 0 where
    pub id : P n.id
    pub substations : AllByRecursion SubstationDraftKeeps n.substations
    pub lines : AllByRecursion LineKeeps n.lines

  abbrev pub IsFine : Network → Type 0
  IsFine net = NetworkKeeps P Q net × IsSound net

-- the id of the breaker of each side of a short id keeps the rule too
abbrev pub BreakersKeep : (List ℕ → Type 0) → Type 0
BreakersKeep P = (id : List ℕ) (side : ℕ) → side ≤ 3 → short_id id ≡ Ok tt → P id → P (breaker_id (record { equipment = id; side = side }))

-- ---- loading

any_of : {A : Type 0} (xs : List A) → AllByRecursion (λ x. ⊤) xs
any_of [] = tt
any_of (x ∷ xs) = (tt, any_of xs)

module _ (P : List ℕ → Type 0) (Q : ℤ → Type 0) (low : (n : ℕ) → n ≤ max_node → Q (pos n)) (breakers : BreakersKeep P) where
  abbrev Fine : Network → Type 0
  Fine net = IsFine P Q net

  abbrev FineSoFar : Loaded → Type 0
  FineSoFar s = IsFine P Q s.network

  -- loading such a part within a thing whose id keeps the rule leaves a fine network fine
  abbrev IsLoaded : {A S : Type 0} → (S → Type 0) → (A → Type 0) → (A → List ℕ → S → Result S Fault) → Type 0
  IsLoaded {A} {S} F R load = (x : A) (owner : List ℕ) (s new : S) → load x owner s ≡ Ok new → R x → P owner → F s → F new

  module _ {A S : Type 0} (F : S → Type 0) (R : A → Type 0) (load : A → List ℕ → S → Result S Fault) (loaded : IsLoaded F R load) where
    items_loaded : (n : ℕ) (xs : List A) (owner : List ℕ) (s new : S) → load_items load n xs owner s ≡ Ok new → AllByRecursion R xs → P owner → F s → F new
    unfolding load_items
    items_loaded n [] owner s new is all valid fine = let same : s ≡ new = cc in subst F same fine
    items_loaded n (x ∷ xs) owner s new is all valid fine =
        let a = bound (under (decimal n) (load x owner s)) (load_items load (suc n) xs owner) new is in
        items_loaded (suc n) xs owner a.0 new a.2 all.1 valid (loaded x owner s a.0 (inside (decimal n) (load x owner s) a.0 a.1) all.0 valid fine)

    member_loaded : (name : List ℕ) (xs : List A) (owner : List ℕ) (s new : S) → load_member load name xs owner s ≡ Ok new → AllByRecursion R xs → P owner → F s → F new
    member_loaded name xs owner s new is all valid fine = items_loaded 0 xs owner s new (inside name (load_items load 0 xs owner s) new is) all valid fine

  -- ---- levels of nodes

  busbar_loaded : IsLoaded Fine (BusbarKeeps P Q) busbar_load
  unfolding busbar_load
  busbar_loaded b owner net new is kept valid fine =
      let h = applied (apply net (edits.AddBusbar b.id owner b.node)) new is in
      (busbar_added P Q low net new fine.0 b.id owner b.node h kept, apply_sound net new _ h fine.1)

  switch_loaded : IsLoaded Fine (SwitchDraftKeeps P Q) switch_load
  unfolding switch_load
  switch_loaded s owner net new is kept valid fine =
      let h = applied (apply net (edits.AddSwitch s.id owner s.kind s.node1 s.node2 s.opened s.retained s.fictitious)) new is in
      (switch_added P Q low net new fine.0 s.id owner s.kind s.node1 s.node2 s.opened s.retained s.fictitious h kept, apply_sound net new _ h fine.1)

  internal_loaded : IsLoaded Fine (λ (i : InternalDraft). ⊤) internal_load
  unfolding internal_load
  internal_loaded i owner net new is kept valid fine =
      let h = applied (apply net (edits.AddInternal owner i.node1 i.node2)) new is in
      (internal_added P Q low net new fine.0 owner i.node1 i.node2 h, apply_sound net new _ h fine.1)

  injection_loaded : IsLoaded Fine (InjectionKeeps P Q) injection_load
  unfolding injection_load
  injection_loaded i owner net new is kept valid fine =
      let h = applied (apply net (edits.AddInjection i.id owner i.node i.item)) new is in
      (injection_added P Q low net new fine.0 i.id owner i.node i.item h kept.0 kept.1, apply_sound net new _ h fine.1)

  level_loaded : IsLoaded Fine (LevelDraftKeeps P Q) level_load
  unfolding level_load
  level_loaded l owner net new is kept valid fine =
      let a = bound (edited (edits.AddLevel l.id owner l.nominal_v l.low_v l.high_v) net) _ new is in
      let h = applied (apply net (edits.AddLevel l.id owner l.nominal_v l.low_v l.high_v)) a.0 a.1 in
      let b = bound (load_member busbar_load (codes "busbars") l.busbars l.id a.0) _ new a.2 in
      let c = bound (load_member switch_load (codes "switches") l.switches l.id b.0) _ new b.2 in
      let d = bound (load_member internal_load (codes "internal") l.internals l.id c.0) _ new c.2 in
      let made : Fine a.0 = (level_added P Q low net a.0 fine.0 l.id owner l.nominal_v l.low_v l.high_v h kept.id kept.nominal kept.low kept.high, apply_sound net a.0 _ h fine.1) in
      let with_busbars = member_loaded Fine (BusbarKeeps P Q) busbar_load busbar_loaded (codes "busbars") l.busbars l.id a.0 b.0 b.1 kept.busbars kept.id made in
      let with_switches = member_loaded Fine (SwitchDraftKeeps P Q) switch_load switch_loaded (codes "switches") l.switches l.id b.0 c.0 c.1 kept.switches kept.id with_busbars in
      let with_internals = member_loaded Fine (λ (i : InternalDraft). ⊤) internal_load internal_loaded (codes "internal") l.internals l.id c.0 d.0 d.1 (any_of l.internals) kept.id with_switches in
      member_loaded Fine (InjectionKeeps P Q) injection_load injection_loaded (codes "injections") l.injections l.id d.0 new d.2 kept.injections kept.id with_internals

  -- ---- levels with configured buses

  buses_loaded : (place : ℕ) (buses : List (List ℕ)) (level : List ℕ) (net new : Network) → buses_load place buses level net ≡ Ok new → AllByRecursion P buses → Fine net → Fine new
  unfolding buses_load
  buses_loaded place [] level net new is kept fine = let same : net ≡ new = cc in subst (IsFine P Q) same fine
  buses_loaded place (bus ∷ buses) level net new is kept fine =
      let a = bound (under (decimal place) (edited (edits.AddBusbar bus level (pos place)) net)) (buses_load (suc place) buses level) new is in
      let h = applied (apply net (edits.AddBusbar bus level (pos place))) a.0 (inside (decimal place) (edited (edits.AddBusbar bus level (pos place)) net) a.0 a.1) in
      buses_loaded (suc place) buses level a.0 new a.2 kept.1 (busbar_added P Q low net a.0 fine.0 bus level (pos place) h kept.0, apply_sound net a.0 _ h fine.1)

  bus_switch_loaded : IsLoaded Fine (BusSwitchKeeps P Q) bus_switch_load
  unfolding bus_switch_load
  bus_switch_loaded s owner net new is kept valid fine =
      let a = bound (bus_at net owner s.bus1) _ new is in
      let b = bound (bus_at net owner s.bus2) _ new a.2 in
      let c = bound (differing s.bus1 s.bus2) _ new b.2 in
      let h = applied (apply net (edits.AddSwitch s.id owner Breaker (pos a.0) (pos b.0) s.opened true false)) new c.2 in
      (switch_added P Q low net new fine.0 s.id owner Breaker (pos a.0) (pos b.0) s.opened true false h kept, apply_sound net new _ h fine.1)

  breaker_loaded : (id : List ℕ) (side : ℕ) (level : List ℕ) (bus : ℕ) (node : ℤ) (connected : Bool) (net new : Network) → breaker_load id side level bus node connected net ≡ Ok new
      → side ≤ 3 → short_id id ≡ Ok tt → P id → Fine net → Fine new
  unfolding breaker_load
  breaker_loaded id side level bus node connected net new is few short valid fine =
      let h = breaker_applied side (apply net (edits.AddSwitch (breaker_id (record { equipment = id; side = side })) level Breaker (pos bus) node (not connected) false false)) new is in
      (switch_added P Q low net new fine.0 (breaker_id (record { equipment = id; side = side })) level Breaker (pos bus) node (not connected) false false h (breakers id side few short valid), apply_sound net new _ h fine.1)

  bus_injection_loaded : IsLoaded Fine (BusInjectionKeeps P Q) bus_injection_load
  unfolding bus_injection_load
  bus_injection_loaded i owner net new is kept valid fine =
      let a = bound (bus_at net owner i.bus) _ new is in
      let b = bound (short_id i.id) _ new a.2 in
      let node : ℤ = pos (next_node net owner) in
      let c = bound (edited (edits.AddInjection i.id owner node i.item) net) _ new b.2 in
      let h = applied (apply net (edits.AddInjection i.id owner node i.item)) c.0 c.1 in
      let made : Fine c.0 = (injection_added P Q low net c.0 fine.0 i.id owner node i.item h kept.0 kept.1, apply_sound net c.0 _ h fine.1) in
      breaker_loaded i.id 1 owner a.0 node i.connected c.0 new c.2 (omega arith) b.1 kept.0 made

  bus_level_loaded : IsLoaded Fine (BusLevelKeeps P Q) bus_level_load
  unfolding bus_level_load
  bus_level_loaded l owner net new is kept valid fine =
      let a = bound (edited (edits.AddLevel l.id owner l.nominal_v l.low_v l.high_v) net) _ new is in
      let h = applied (apply net (edits.AddLevel l.id owner l.nominal_v l.low_v l.high_v)) a.0 a.1 in
      let b = bound (under (codes "buses") (buses_load 0 l.buses l.id a.0)) _ new a.2 in
      let c = bound (load_member bus_switch_load (codes "switches") l.switches l.id b.0) _ new b.2 in
      let made : Fine a.0 = (level_added P Q low net a.0 fine.0 l.id owner l.nominal_v l.low_v l.high_v h kept.id kept.nominal kept.low kept.high, apply_sound net a.0 _ h fine.1) in
      let with_buses = buses_loaded 0 l.buses l.id a.0 b.0 (inside (codes "buses") (buses_load 0 l.buses l.id a.0) b.0 b.1) kept.buses made in
      let with_switches = member_loaded Fine (BusSwitchKeeps P Q) bus_switch_load bus_switch_loaded (codes "switches") l.switches l.id b.0 c.0 c.1 kept.switches kept.id with_buses in
      member_loaded Fine (BusInjectionKeeps P Q) bus_injection_load bus_injection_loaded (codes "injections") l.injections l.id c.0 new c.2 kept.injections kept.id with_switches

  any_level_loaded : IsLoaded FineSoFar (AnyLevelKeeps P Q) any_level_load
  unfolding any_level_load
  any_level_loaded (levels.Nodes l) owner s new is kept valid fine =
      level_loaded l owner s.network new.network (network_put s (level_load l owner s.network) new is) kept valid fine
  any_level_loaded (levels.Buses l) owner s new is kept valid fine =
      bus_level_loaded l owner s.network new.network (bus_level_put l.id s (bus_level_load l owner s.network) new is) kept valid fine

  -- ---- branches

  -- an end at its node has the level of its draft
  level_kept : (net : Network) (earlier : ℕ) (e : EndDraft) → EndDraftKeeps P Q e → P (placed_end net earlier e).level
  unfolding placed_end
  level_kept net earlier (ends.Node e) kept = kept
  level_kept net earlier (ends.Bus e) kept = kept

  branch_loaded : (id : List ℕ) (shape : Branch) (net new : Network) → edited (edits.AddBranch id shape) net ≡ Ok new → P id → AllByRecursion P (shape_ids shape) → AllByRecursion Q (rated_numbers shape) → Fine net → Fine new
  branch_loaded id shape net new is valid ids rated fine =
      let h = applied (apply net (edits.AddBranch id shape)) new is in
      (branch_added P Q low net new fine.0 id shape h valid ids rated, apply_sound net new _ h fine.1)

  end_breaker_loaded : (id : List ℕ) (side : ℕ) (e : EndDraft) (node : ℤ) (net new : Network) → end_breaker id side e node net ≡ Ok new → side ≤ 3 → (is_by_bus e ≡ true → short_id id ≡ Ok tt) → P id → Fine net → Fine new
  unfolding end_breaker
  end_breaker_loaded id side (ends.Node e) node net new is few short valid fine = let same : net ≡ new = cc in subst (IsFine P Q) same fine
  end_breaker_loaded id side (ends.Bus e) node net new is few short valid fine =
      let a = bound (bus_at net e.level e.bus) _ new is in
      breaker_loaded id side e.level a.0 node e.connected net new a.2 few (short refl) valid fine

  -- a branch of two ends and of this shape
  two_loaded : (shape : Two End → Branch) (id : List ℕ) (two : Two EndDraft) (s new : Loaded) → two_load shape id two s ≡ Ok new → P id
      → ((placed : Two End) → P placed.first.level → P placed.second.level → AllByRecursion P (shape_ids (shape placed))) → ((placed : Two End) → AllByRecursion Q (rated_numbers (shape placed)))
      → EndDraftKeeps P Q two.first → EndDraftKeeps P Q two.second → FineSoFar s → FineSoFar new
  unfolding two_load two_check two_placed two_breakers
  two_loaded shape id two s new is valid ids rated first second fine =
      let a = bound (two_check s id two) _ new is in
      let b = bound (end_check s two.first) _ a.0 a.1 in
      let c = bound (end_check s two.second) _ a.0 b.2 in
      let short : is_by_bus two.first || is_by_bus two.second ≡ true → short_id id ≡ Ok tt = short_from (is_by_bus two.first || is_by_bus two.second) id c.2 in
      let placed : Two End = two_placed s.network two in
      let e = bound (edited (edits.AddBranch id (shape placed)) s.network) _ new a.2 in
      let added = branch_loaded id (shape placed) s.network e.0 e.1 valid (ids placed (level_kept s.network _ two.first first) (level_kept s.network _ two.second second)) (rated placed) fine in
      let done = network_put s (two_breakers id two (two_nodes placed) e.0) new e.2 in
      let f = bound (end_breaker id 1 two.first placed.first.node e.0) _ new.network done in
      let with_first = end_breaker_loaded id 1 two.first placed.first.node e.0 f.0 f.1 (omega arith) (λ h. short (first_by _ _ h)) valid added in
      end_breaker_loaded id 2 two.second placed.second.node f.0 new.network f.2 (omega arith) (λ h. short (second_by _ _ h)) valid with_first

  three_loaded : (shape : Three End → Branch) (id : List ℕ) (three : Three EndDraft) (s new : Loaded) → three_load shape id three s ≡ Ok new → P id
      → ((placed : Three End) → P placed.first.level → P placed.second.level → P placed.third.level → AllByRecursion P (shape_ids (shape placed))) → ((placed : Three End) → AllByRecursion Q (rated_numbers (shape placed)))
      → EndDraftKeeps P Q three.first → EndDraftKeeps P Q three.second → EndDraftKeeps P Q three.third → FineSoFar s → FineSoFar new
  unfolding three_load three_check three_placed three_breakers
  three_loaded shape id three s new is valid ids rated first second third fine =
      let a = bound (three_check s id three) _ new is in
      let b = bound (end_check s three.first) _ a.0 a.1 in
      let c = bound (end_check s three.second) _ a.0 b.2 in
      let d = bound (end_check s three.third) _ a.0 c.2 in
      let behind : Bool = is_by_bus three.second || is_by_bus three.third in
      let short : is_by_bus three.first || behind ≡ true → short_id id ≡ Ok tt = short_from (is_by_bus three.first || behind) id d.2 in
      let placed : Three End = three_placed s.network three in
      let e = bound (edited (edits.AddBranch id (shape placed)) s.network) _ new a.2 in
      let levels_kept = ids placed (level_kept s.network _ three.first first) (level_kept s.network _ three.second second) (level_kept s.network _ three.third third) in
      let added = branch_loaded id (shape placed) s.network e.0 e.1 valid levels_kept (rated placed) fine in
      let done = network_put s (three_breakers id three (three_nodes placed) e.0) new e.2 in
      let f = bound (end_breaker id 1 three.first placed.first.node e.0) _ new.network done in
      let g = bound (end_breaker id 2 three.second placed.second.node f.0) _ new.network f.2 in
      let with_first = end_breaker_loaded id 1 three.first placed.first.node e.0 f.0 f.1 (omega arith) (λ h. short (first_by _ behind h)) valid added in
      let with_second = end_breaker_loaded id 2 three.second placed.second.node f.0 g.0 g.1 (omega arith) (λ h. short (second_by _ behind (first_by _ (is_by_bus three.third) h))) valid with_first in
      end_breaker_loaded id 3 three.third placed.third.node g.0 new.network g.2 (omega arith) (λ h. short (second_by _ behind (second_by (is_by_bus three.second) _ h))) valid with_second

  transformer_loaded : IsLoaded FineSoFar (TransformerKeeps P Q) transformer_load
  unfolding transformer_load
  transformer_loaded t owner s new is kept valid fine = by t.windings is kept.1
    where
      by : (w : Windings) → transformer_load (record { id = t.id; windings = w }) owner s ≡ Ok new → WindingsKeep P Q w → FineSoFar new
      by (shapes.Two two rated) h w =
          two_loaded (λ placed. two_windings_of owner placed rated) t.id two s new h kept.0 (λ placed first second. (valid, (first, (second, tt)))) (λ placed. (w.2, (w.3, tt))) w.0 w.1 fine
      by (shapes.Three three rated) h w =
          three_loaded (λ placed. three_windings_of owner placed rated) t.id three s new h kept.0 (λ placed first second third. (valid, (first, (second, (third, tt))))) (λ placed. (w.3, (w.4, (w.5, tt)))) w.0 w.1 w.2 fine

  line_loaded : IsLoaded FineSoFar (LineKeeps P Q) line_load
  unfolding line_load
  line_loaded l owner s new is kept valid fine = two_loaded line_of l.id l.ends s new is kept.0 (λ placed first second. (first, (second, tt))) (λ placed. tt) kept.1 kept.2 fine

  -- ---- networks

  substation_loaded : IsLoaded FineSoFar (SubstationDraftKeeps P Q) substation_load
  unfolding substation_load
  substation_loaded s owner old new is kept valid fine =
      let a = bound (with_network old (edited (edits.AddSubstation s.id) old.network)) _ new is in
      let h = applied (apply old.network (edits.AddSubstation s.id)) a.0.network (network_put old (edited (edits.AddSubstation s.id) old.network) a.0 a.1) in
      let b = bound (load_member any_level_load (codes "levels") s.levels s.id a.0) _ new a.2 in
      let made : FineSoFar a.0 = (substation_added P Q low old.network a.0.network fine.0 s.id h kept.id, apply_sound old.network a.0.network _ h fine.1) in
      let with_levels = member_loaded FineSoFar (AnyLevelKeeps P Q) any_level_load any_level_loaded (codes "levels") s.levels s.id a.0 b.0 b.1 kept.levels kept.id made in
      member_loaded FineSoFar (TransformerKeeps P Q) transformer_load transformer_loaded (codes "transformers") s.transformers s.id b.0 new b.2 kept.transformers kept.id with_levels

  parts_loaded : (n : NetworkDraft) (new : Loaded) → parts_load n (nothing_of n.id) ≡ Ok new → NetworkDraftKeeps P Q n → FineSoFar new
  unfolding parts_load
  parts_loaded n new is kept =
      let a = bound (load_member substation_load (codes "substations") n.substations n.id (nothing_of n.id)) _ new is in
      let empty : Fine (empty_of n.id) = (record { id = kept.id; substations = tt; lines = tt }, empty_sound n.id) in
      let with_substations = member_loaded FineSoFar (SubstationDraftKeeps P Q) substation_load substation_loaded (codes "substations") n.substations n.id (nothing_of n.id) a.0 a.1 kept.substations kept.id empty in
      member_loaded FineSoFar (LineKeeps P Q) line_load line_loaded (codes "lines") n.lines n.id a.0 new a.2 kept.lines kept.id with_substations

  pub network_loaded : (n : NetworkDraft) (net : Network) → network_load n ≡ Ok net → NetworkDraftKeeps P Q n → IsFine P Q net
  unfolding network_load
  network_loaded n net is kept =
      let a = bound (under (codes "network") (parts_load n (nothing_of n.id))) _ net is in
      let h = inside (codes "network") (parts_load n (nothing_of n.id)) a.0 a.1 in
      let same : a.0.network ≡ net = same_read a.0.network net a.2 in
      subst (IsFine P Q) same (parts_loaded n a.0 h kept)
