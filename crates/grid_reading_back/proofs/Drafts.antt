-- The draft of a network that was read keeps the rule that ids and numbers keep where they are read.
use Rattle.std.proofs.Common.{◌≡◌, ℕ, ℤ, Bool, true, false, List, [], ◌∷◌, Result, Ok, subst}
use Rattle.std.specs.Prelude.{codes, decimal, is_some, if◌then◌else◌}
use Rattle.std.specs.List.{AllByRecursion}
use Rattle.serde_json.specs.Data.{Data, Items, no_items, item}
use Rattle.serde_json.specs.Find.{get}
use Rattle.grid_kinds.specs.declared.Injection.{Injection}
use Rattle.grid_kinds.specs.declared.Injection.TheVariants as items
use Rattle.grid_structure.specs.declared.End.{End}
use Rattle.grid_requests.specs.RequestParts.{item_numbers}
use Rattle.grid_json.specs.declared.fault.Fault.{Fault}
use Rattle.grid_json.specs.declared.format.Format.{Format}
use Rattle.grid_json.specs.declared.ends.Two.{Two}
use Rattle.grid_json.specs.declared.ends.Three.{Three}
use Rattle.grid_json.specs.declared.kinds.InjectionKind.{InjectionKind}
use Rattle.grid_json.specs.declared.kinds.InjectionKind.TheVariants as injections
use Rattle.grid_json.specs.declared.kinds.WindingsKind.{WindingsKind}
use Rattle.grid_json.specs.declared.kinds.WindingsKind.TheVariants as windings
use Rattle.grid_json.specs.declared.network.BusbarDraft.{BusbarDraft}
use Rattle.grid_json.specs.declared.network.SwitchDraft.{SwitchDraft}
use Rattle.grid_json.specs.declared.network.InjectionDraft.{InjectionDraft}
use Rattle.grid_json.specs.declared.network.LevelDraft.{LevelDraft}
use Rattle.grid_json.specs.declared.network.AnyLevelDraft.{AnyLevelDraft}
use Rattle.grid_json.specs.declared.network.AnyLevelDraft.TheVariants as levels
use Rattle.grid_json.specs.declared.buses.BusSwitch.{BusSwitch}
use Rattle.grid_json.specs.declared.buses.BusInjection.{BusInjection}
use Rattle.grid_json.specs.declared.buses.BusLevelDraft.{BusLevelDraft}
use Rattle.grid_json.specs.declared.buses.BusEnd.{BusEnd}
use Rattle.grid_json.specs.declared.buses.EndDraft.TheVariants as ends
use Rattle.grid_json.specs.declared.kinds.Topology.{Topology}
use Rattle.grid_json.specs.declared.kinds.Topology.TheVariants as topologies
use Rattle.grid_json.specs.declared.network.TransformerDraft.{TransformerDraft}
use Rattle.grid_json.specs.declared.network.Windings.TheVariants as shapes
use Rattle.grid_json.specs.declared.network.LineDraft.{LineDraft}
use Rattle.grid_json.specs.declared.network.SubstationDraft.{SubstationDraft}
use Rattle.grid_json.specs.declared.network.NetworkDraft.{NetworkDraft}
use Rattle.grid_json.specs.Reading.{◌>>=◌, under, whole_at, flag_at, id_at, array_at, member_at, member_or, optional_at, only_at, object_at}
use Rattle.grid_json.specs.Kinds.{switch_kind_at, injection_kind_at, topology_at, windings_kind_at}
use Rattle.grid_json.specs.Network.{both, two_of, two_at, all_three, three_of, three_at, end_at, has_buses, bus_end_at, either_end_at, end_draft_at, busbar_at, switch_names, switch_at, internal_at, item_at, injection_names, injection_at, level_names, level_members_at, level_at}
use Rattle.grid_json.specs.Network.{bus_switch_at, bus_injection_names, bus_injection_at, bus_level_names, bus_level_at, level_by, either_level_at, any_level_at, windings_at, transformer_at, line_at, substation_at, network_at}
use Rattle.grid_json.proofs.Results.{bound, inside}
use Rattle.grid_reading_back.proofs.Networks.{EndKeeps}
use Rattle.grid_reading_back.proofs.Options.{same_read}
use Rattle.grid_reading_back.proofs.Legible.{IsLegible, ItemsAreLegible, Reads, member_reads, either_reads, array_reads, items_of_array, optional_reads}
use Rattle.grid_reading_back.proofs.Loads.{BusbarKeeps, SwitchDraftKeeps, InjectionKeeps, LevelDraftKeeps, BusSwitchKeeps, BusInjectionKeeps, BusLevelKeeps, AnyLevelKeeps, EndDraftKeeps, WindingsKeep, TransformerKeeps, LineKeeps, SubstationDraftKeeps, NetworkDraftKeeps}

-- ---- arrays of two and of three

abbrev pub BothKeep : {A : Type 0} → (A → Type 0) → Two A → Type 0
BothKeep R pair = R pair.first × R pair.second

abbrev pub AllKeep : {A : Type 0} → (A → Type 0) → Three A → Type 0
AllKeep R triple = R triple.first × R triple.second × R triple.third

module _ (T : List ℕ → Type 0) {A : Type 0} (R : A → Type 0) (read : Data → Result A Fault) (reads : Reads T R read) where
  both_read : (a b : Data) (pair : Two A) → IsLegible T a → IsLegible T b → both read a b ≡ Ok pair → BothKeep R pair
  unfolding both
  both_read a b pair fine1 fine2 is =
      let x = bound (under (decimal 0) (read a)) _ pair is in
      let y = bound (under (decimal 1) (read b)) _ pair x.2 in
      let made : Two A = record { first = x.0; second = y.0 } in
      let same : made ≡ pair = cc (y.2) in
      let kept : BothKeep R made = (reads a x.0 fine1 (inside (decimal 0) (read a) x.0 x.1), reads b y.0 fine2 (inside (decimal 1) (read b) y.0 y.1)) in
      subst (BothKeep R) same kept

  two_items : (ds : Items) (pair : Two A) → ItemsAreLegible T ds → two_of read ds ≡ Ok pair → BothKeep R pair
  unfolding two_of
  two_items no_items pair fine is = cc
  two_items (item a no_items) pair fine is = cc
  two_items (item a (item b no_items)) pair fine is = both_read a b pair fine.0 fine.1.0 is
  two_items (item a (item b (item c rest))) pair fine is = cc

  pub two_read : Reads T (BothKeep R) (two_at read)
  two_read d pair fine is = items_of_array T (BothKeep R) (two_of read) two_items d pair fine is

  three_read_of : (a b c : Data) (triple : Three A) → IsLegible T a → IsLegible T b → IsLegible T c → all_three read a b c ≡ Ok triple → AllKeep R triple
  unfolding all_three
  three_read_of a b c triple fine1 fine2 fine3 is =
      let x = bound (under (decimal 0) (read a)) _ triple is in
      let y = bound (under (decimal 1) (read b)) _ triple x.2 in
      let z = bound (under (decimal 2) (read c)) _ triple y.2 in
      let made : Three A = record { first = x.0; second = y.0; third = z.0 } in
      let same : made ≡ triple = cc (z.2) in
      let kept : AllKeep R made = (
        reads a x.0 fine1 (inside (decimal 0) (read a) x.0 x.1),
        reads b y.0 fine2 (inside (decimal 1) (read b) y.0 y.1),
        reads c z.0 fine3 (inside (decimal 2) (read c) z.0 z.1),
      ) in
      subst (AllKeep R) same kept

  three_items : (ds : Items) (triple : Three A) → ItemsAreLegible T ds → three_of read ds ≡ Ok triple → AllKeep R triple
  unfolding three_of
  three_items no_items triple fine is = cc
  three_items (item a no_items) triple fine is = cc
  three_items (item a (item b no_items)) triple fine is = cc
  three_items (item a (item b (item c no_items))) triple fine is = three_read_of a b c triple fine.0 fine.1.0 fine.1.1.0 is
  three_items (item a (item b (item c (item d rest)))) triple fine is = cc

  pub three_read : Reads T (AllKeep R) (three_at read)
  three_read d triple fine is = items_of_array T (AllKeep R) (three_of read) three_items d triple fine is

module _ (T : List ℕ → Type 0) (P : List ℕ → Type 0) (Q : ℤ → Type 0) (ids_read : Reads T P id_at) (numbers_read : Reads T Q whole_at) where
  -- the id and the number of these names
  pub id_of : (name : List ℕ) → Reads T P (member_at id_at name)
  id_of name = member_reads T P id_at ids_read name

  pub number_of : (name : List ℕ) → Reads T Q (member_at whole_at name)
  number_of name = member_reads T Q whole_at numbers_read name

  -- an array that may be absent
  all_of : {A : Type 0} (R : A → Type 0) (read : Data → Result A Fault) → Reads T R read → (name : List ℕ) → Reads T (AllByRecursion R) (member_or [] (array_at read) name)
  all_of R read reads name = either_reads T (AllByRecursion R) (array_at read) (array_reads T R read reads) [] name tt

  -- ---- an end of a branch

  pub end_read : Reads T (EndKeeps P Q) end_at
  unfolding end_at
  end_read d e fine is =
      let a = bound (only_at (codes "level" ∷ codes "node" ∷ []) d) _ e is in
      let b = bound (member_at id_at (codes "level") d) _ e a.2 in
      let c = bound (member_at whole_at (codes "node") d) _ e b.2 in
      let made : End = record { level = b.0; node = c.0 } in
      let same : made ≡ e = cc (c.2) in
      let kept : EndKeeps P Q made = (id_of (codes "level") d b.0 fine b.1, number_of (codes "node") d c.0 fine c.1) in
      subst (EndKeeps P Q) {x = made} same kept

  -- ---- the parts of a level

  busbar_read : Reads T (BusbarKeeps P Q) busbar_at
  unfolding busbar_at
  busbar_read d x fine is =
      let a = bound (only_at (codes "id" ∷ codes "node" ∷ []) d) _ x is in
      let b = bound (member_at id_at (codes "id") d) _ x a.2 in
      let c = bound (member_at whole_at (codes "node") d) _ x b.2 in
      let made : BusbarDraft = record { id = b.0; node = c.0 } in
      let same : made ≡ x = cc (c.2) in
      let kept : BusbarKeeps P Q made = id_of (codes "id") d b.0 fine b.1 in
      subst (BusbarKeeps P Q) {x = made} same kept

  switch_read : (format : Format) → Reads T (SwitchDraftKeeps P Q) (switch_at format)
  unfolding switch_at
  switch_read format d x fine is =
      let a = bound (only_at switch_names d) _ x is in
      let b = bound (member_at id_at (codes "id") d) _ x a.2 in
      let c = bound (member_at (switch_kind_at format) (codes "kind") d) _ x b.2 in
      let e = bound (member_at whole_at (codes "node1") d) _ x c.2 in
      let f = bound (member_at whole_at (codes "node2") d) _ x e.2 in
      let g = bound (member_or false flag_at (codes "open") d) _ x f.2 in
      let h = bound (member_or false flag_at (codes "retained") d) _ x g.2 in
      let i = bound (member_or false flag_at (codes "fictitious") d) _ x h.2 in
      let made : SwitchDraft = record { id = b.0; kind = c.0; node1 = e.0; node2 = f.0; opened = g.0; retained = h.0; fictitious = i.0 } in
      let same : made ≡ x = cc (i.2) in
      let kept : SwitchDraftKeeps P Q made = id_of (codes "id") d b.0 fine b.1 in
      subst (SwitchDraftKeeps P Q) {x = made} same kept

  abbrev ItemKeeps : Injection → Type 0
  ItemKeeps x = AllByRecursion Q (item_numbers x)

  -- the numbers of each kind of injections
  pub item_read : (kind : InjectionKind) → Reads T ItemKeeps (item_at kind)
  unfolding item_at
  item_read injections.Load d x fine is =
      let a = bound (member_at whole_at (codes "p0") d) _ x is in
      let b = bound (member_at whole_at (codes "q0") d) _ x a.2 in
      let same : items.Load a.0 b.0 ≡ x = cc (b.2) in
      subst ItemKeeps same (number_of (codes "p0") d a.0 fine a.1, (number_of (codes "q0") d b.0 fine b.1, tt))
  item_read injections.Generator d x fine is =
      let a = bound (member_at whole_at (codes "target_p") d) _ x is in
      let b = bound (member_at whole_at (codes "target_v") d) _ x a.2 in
      let c = bound (member_at whole_at (codes "min_p") d) _ x b.2 in
      let e = bound (member_at whole_at (codes "max_p") d) _ x c.2 in
      let same : items.Generator a.0 b.0 c.0 e.0 ≡ x = cc (e.2) in
      subst ItemKeeps same (number_of (codes "target_p") d a.0 fine a.1, (number_of (codes "target_v") d b.0 fine b.1, (number_of (codes "min_p") d c.0 fine c.1, (number_of (codes "max_p") d e.0 fine e.1, tt))))
  item_read injections.Battery d x fine is =
      let a = bound (member_at whole_at (codes "target_p") d) _ x is in
      let b = bound (member_at whole_at (codes "target_q") d) _ x a.2 in
      let c = bound (member_at whole_at (codes "min_p") d) _ x b.2 in
      let e = bound (member_at whole_at (codes "max_p") d) _ x c.2 in
      let same : items.Battery a.0 b.0 c.0 e.0 ≡ x = cc (e.2) in
      subst ItemKeeps same (number_of (codes "target_p") d a.0 fine a.1, (number_of (codes "target_q") d b.0 fine b.1, (number_of (codes "min_p") d c.0 fine c.1, (number_of (codes "max_p") d e.0 fine e.1, tt))))
  item_read injections.ShuntCompensator d x fine is =
      let a = bound (member_at whole_at (codes "section_count") d) _ x is in
      let b = bound (member_at whole_at (codes "max_sections") d) _ x a.2 in
      let same : items.ShuntCompensator a.0 b.0 ≡ x = cc (b.2) in
      subst ItemKeeps same (number_of (codes "section_count") d a.0 fine a.1, (number_of (codes "max_sections") d b.0 fine b.1, tt))
  item_read injections.StaticVarCompensator d x fine is =
      let a = bound (member_at whole_at (codes "target_q") d) _ x is in
      let same : items.StaticVarCompensator a.0 ≡ x = cc (a.2) in
      subst ItemKeeps same (number_of (codes "target_q") d a.0 fine a.1, tt)
  item_read injections.ConverterStation d x fine is =
      let a = bound (member_at whole_at (codes "target_q") d) _ x is in
      let same : items.ConverterStation a.0 ≡ x = cc (a.2) in
      subst ItemKeeps same (number_of (codes "target_q") d a.0 fine a.1, tt)

  injection_read : (format : Format) → Reads T (InjectionKeeps P Q) (injection_at format)
  unfolding injection_at
  injection_read format d x fine is =
      let o = bound (object_at d) _ x is in
      let k = bound (member_at (injection_kind_at format) (codes "kind") d) _ x o.2 in
      let a = bound (only_at (injection_names k.0) d) _ x k.2 in
      let b = bound (member_at id_at (codes "id") d) _ x a.2 in
      let c = bound (member_at whole_at (codes "node") d) _ x b.2 in
      let e = bound (item_at k.0 d) _ x c.2 in
      let made : InjectionDraft = record { id = b.0; node = c.0; item = e.0 } in
      let same : made ≡ x = cc (e.2) in
      let kept : InjectionKeeps P Q made = (id_of (codes "id") d b.0 fine b.1, item_read k.0 d e.0 fine e.1) in
      subst (InjectionKeeps P Q) {x = made} same kept

  level_members_read : (format : Format) → Reads T (LevelDraftKeeps P Q) (level_members_at format)
  unfolding level_members_at
  level_members_read format d x fine is =
      let b = bound (member_at id_at (codes "id") d) _ x is in
      let c = bound (member_at whole_at (codes "nominal_v") d) _ x b.2 in
      let e = bound (optional_at whole_at (codes "low_v") d) _ x c.2 in
      let f = bound (optional_at whole_at (codes "high_v") d) _ x e.2 in
      let g = bound (member_or [] (array_at busbar_at) (codes "busbars") d) _ x f.2 in
      let h = bound (member_or [] (array_at (switch_at format)) (codes "switches") d) _ x g.2 in
      let i = bound (member_or [] (array_at internal_at) (codes "internal") d) _ x h.2 in
      let j = bound (member_or [] (array_at (injection_at format)) (codes "injections") d) _ x i.2 in
      let made : LevelDraft = record { id = b.0; nominal_v = c.0; low_v = e.0; high_v = f.0; busbars = g.0; switches = h.0; internals = i.0; injections = j.0 } in
      let same : made ≡ x = same_read made x j.2 in
      let kept : LevelDraftKeeps P Q made = record {
        id = id_of (codes "id") d b.0 fine b.1;
        nominal = number_of (codes "nominal_v") d c.0 fine c.1;
        low = optional_reads T Q whole_at numbers_read (codes "low_v") d e.0 fine e.1;
        high = optional_reads T Q whole_at numbers_read (codes "high_v") d f.0 fine f.1;
        busbars = all_of (BusbarKeeps P Q) busbar_at busbar_read (codes "busbars") d g.0 fine g.1;
        switches = all_of (SwitchDraftKeeps P Q) (switch_at format) (switch_read format) (codes "switches") d h.0 fine h.1;
        injections = all_of (InjectionKeeps P Q) (injection_at format) (injection_read format) (codes "injections") d j.0 fine j.1;
      } in
      subst (LevelDraftKeeps P Q) {x = made} same kept

  -- ---- levels

  bus_switch_read : Reads T (BusSwitchKeeps P Q) bus_switch_at
  unfolding bus_switch_at
  bus_switch_read d x fine is =
      let a = bound (only_at (codes "id" ∷ codes "bus1" ∷ codes "bus2" ∷ codes "open" ∷ []) d) _ x is in
      let b = bound (member_at id_at (codes "id") d) _ x a.2 in
      let c = bound (member_at id_at (codes "bus1") d) _ x b.2 in
      let e = bound (member_at id_at (codes "bus2") d) _ x c.2 in
      let f = bound (member_or false flag_at (codes "open") d) _ x e.2 in
      let made : BusSwitch = record { id = b.0; bus1 = c.0; bus2 = e.0; opened = f.0 } in
      let same : made ≡ x = cc (f.2) in
      let kept : BusSwitchKeeps P Q made = id_of (codes "id") d b.0 fine b.1 in
      subst (BusSwitchKeeps P Q) {x = made} same kept

  bus_injection_read : (format : Format) → Reads T (BusInjectionKeeps P Q) (bus_injection_at format)
  unfolding bus_injection_at
  bus_injection_read format d x fine is =
      let o = bound (object_at d) _ x is in
      let k = bound (member_at (injection_kind_at format) (codes "kind") d) _ x o.2 in
      let a = bound (only_at (bus_injection_names k.0) d) _ x k.2 in
      let b = bound (member_at id_at (codes "id") d) _ x a.2 in
      let c = bound (member_at id_at (codes "bus") d) _ x b.2 in
      let f = bound (member_or true flag_at (codes "connected") d) _ x c.2 in
      let e = bound (item_at k.0 d) _ x f.2 in
      let made : BusInjection = record { id = b.0; bus = c.0; connected = f.0; item = e.0 } in
      let same : made ≡ x = cc (e.2) in
      let kept : BusInjectionKeeps P Q made = (id_of (codes "id") d b.0 fine b.1, item_read k.0 d e.0 fine e.1) in
      subst (BusInjectionKeeps P Q) {x = made} same kept

  bus_level_read : (format : Format) → Reads T (BusLevelKeeps P Q) (bus_level_at format)
  unfolding bus_level_at
  bus_level_read format d x fine is =
      let a = bound (only_at bus_level_names d) _ x is in
      let b = bound (member_at id_at (codes "id") d) _ x a.2 in
      let c = bound (member_at whole_at (codes "nominal_v") d) _ x b.2 in
      let e = bound (optional_at whole_at (codes "low_v") d) _ x c.2 in
      let f = bound (optional_at whole_at (codes "high_v") d) _ x e.2 in
      let g = bound (member_or [] (array_at id_at) (codes "buses") d) _ x f.2 in
      let h = bound (member_or [] (array_at bus_switch_at) (codes "switches") d) _ x g.2 in
      let i = bound (member_or [] (array_at (bus_injection_at format)) (codes "injections") d) _ x h.2 in
      let made : BusLevelDraft = record { id = b.0; nominal_v = c.0; low_v = e.0; high_v = f.0; buses = g.0; switches = h.0; injections = i.0 } in
      let same : made ≡ x = same_read made x i.2 in
      let kept : BusLevelKeeps P Q made = record {
        id = id_of (codes "id") d b.0 fine b.1;
        nominal = number_of (codes "nominal_v") d c.0 fine c.1;
        low = optional_reads T Q whole_at numbers_read (codes "low_v") d e.0 fine e.1;
        high = optional_reads T Q whole_at numbers_read (codes "high_v") d f.0 fine f.1;
        buses = all_of P id_at ids_read (codes "buses") d g.0 fine g.1;
        switches = all_of (BusSwitchKeeps P Q) bus_switch_at bus_switch_read (codes "switches") d h.0 fine h.1;
        injections = all_of (BusInjectionKeeps P Q) (bus_injection_at format) (bus_injection_read format) (codes "injections") d i.0 fine i.1;
      } in
      subst (BusLevelKeeps P Q) {x = made} same kept

  of_nodes : (read : Result LevelDraft Fault) (x : AnyLevelDraft) → ((l : LevelDraft) → read ≡ Ok l → LevelDraftKeeps P Q l)
      → (read >>= λ level. Ok (levels.Nodes level)) ≡ Ok x → AnyLevelKeeps P Q x
  of_nodes read x keeps is =
      let a = bound read _ x is in
      let same : levels.Nodes a.0 ≡ x = same_read (levels.Nodes a.0) x a.2 in
      subst (AnyLevelKeeps P Q) same (keeps a.0 a.1)

  level_by_read : (topology : Topology) (format : Format) → Reads T (AnyLevelKeeps P Q) (level_by topology format)
  unfolding level_by
  level_by_read topologies.Nodes format d x fine is =
      let a = bound (only_at (codes "topology" ∷ level_names) d) _ x is in
      of_nodes (level_members_at format d) x (λ l h. level_members_read format d l fine h) a.2
  level_by_read topologies.Buses format d x fine is =
      let a = bound (bus_level_at format d) _ x is in
      let same : levels.Buses a.0 ≡ x = same_read (levels.Buses a.0) x a.2 in
      subst (AnyLevelKeeps P Q) same (bus_level_read format d a.0 fine a.1)

  level_read : (format : Format) → Reads T (AnyLevelKeeps P Q) (any_level_at format)
  unfolding any_level_at either_level_at level_at
  level_read format d x fine is = by (has_buses format) is
    where
      by : (b : Bool) → (if b then either_level_at format d else (level_at format d >>= λ level. Ok (levels.Nodes level))) ≡ Ok x → AnyLevelKeeps P Q x
      by true h =
          let a = bound (member_or topologies.Nodes (topology_at format) (codes "topology") d) _ x h in
          level_by_read a.0 format d x fine a.2
      by false h =
          of_nodes (level_at format d) x (λ l k. let a = bound (only_at level_names d) _ l k in level_members_read format d l fine a.2) h

  -- ---- branches

  bus_end_read : Reads T (λ (e : BusEnd). P e.level) bus_end_at
  unfolding bus_end_at
  bus_end_read d x fine is =
      let a = bound (only_at (codes "level" ∷ codes "bus" ∷ codes "connected" ∷ []) d) _ x is in
      let b = bound (member_at id_at (codes "level") d) _ x a.2 in
      let c = bound (member_at id_at (codes "bus") d) _ x b.2 in
      let e = bound (member_or true flag_at (codes "connected") d) _ x c.2 in
      let made : BusEnd = record { level = b.0; bus = c.0; connected = e.0 } in
      let same : made ≡ x = cc (e.2) in
      subst (λ (z : BusEnd). P z.level) {x = made} same (id_of (codes "level") d b.0 fine b.1)

  end_draft_read : (format : Format) → Reads T (EndDraftKeeps P Q) (end_draft_at format)
  unfolding end_draft_at either_end_at
  end_draft_read format d x fine is = by (has_buses format) is
    where
      by_node : (end_at d >>= λ end. Ok (ends.Node end)) ≡ Ok x → EndDraftKeeps P Q x
      by_node h =
          let a = bound (end_at d) _ x h in
          subst (EndDraftKeeps P Q) (same_read (ends.Node a.0) x a.2) (end_read d a.0 fine a.1).0

      by_bus : (b : Bool) → (if b then (bus_end_at d >>= λ end. Ok (ends.Bus end)) else (end_at d >>= λ end. Ok (ends.Node end))) ≡ Ok x → EndDraftKeeps P Q x
      by_bus true h =
          let a = bound (bus_end_at d) _ x h in
          subst (EndDraftKeeps P Q) (same_read (ends.Bus a.0) x a.2) (bus_end_read d a.0 fine a.1)
      by_bus false h = by_node h

      by : (b : Bool) → (if b then either_end_at d else (end_at d >>= λ end. Ok (ends.Node end))) ≡ Ok x → EndDraftKeeps P Q x
      by true h = by_bus (is_some (get (codes "bus") d)) h
      by false h = by_node h

  windings_read : (format : Format) (kind : WindingsKind) → Reads T (WindingsKeep P Q) (windings_at format kind)
  unfolding windings_at
  windings_read format windings.Two d x fine is =
      let a = bound (member_at (two_at (end_draft_at format)) (codes "ends") d) _ x is in
      let b = bound (member_at (two_at whole_at) (codes "rated_u") d) _ x a.2 in
      let same : shapes.Two a.0 b.0 ≡ x = cc (b.2) in
      let ends = member_reads T (BothKeep (EndDraftKeeps P Q)) (two_at (end_draft_at format)) (two_read T (EndDraftKeeps P Q) (end_draft_at format) (end_draft_read format)) (codes "ends") d a.0 fine a.1 in
      let rated = member_reads T (BothKeep Q) (two_at whole_at) (two_read T Q whole_at numbers_read) (codes "rated_u") d b.0 fine b.1 in
      subst (WindingsKeep P Q) same (ends.0, ends.1, rated.0, rated.1)
  windings_read format windings.Three d x fine is =
      let a = bound (member_at (three_at (end_draft_at format)) (codes "ends") d) _ x is in
      let b = bound (member_at (three_at whole_at) (codes "rated_u") d) _ x a.2 in
      let same : shapes.Three a.0 b.0 ≡ x = cc (b.2) in
      let ends = member_reads T (AllKeep (EndDraftKeeps P Q)) (three_at (end_draft_at format)) (three_read T (EndDraftKeeps P Q) (end_draft_at format) (end_draft_read format)) (codes "ends") d a.0 fine a.1 in
      let rated = member_reads T (AllKeep Q) (three_at whole_at) (three_read T Q whole_at numbers_read) (codes "rated_u") d b.0 fine b.1 in
      subst (WindingsKeep P Q) same (ends.0, ends.1, ends.2, rated.0, rated.1, rated.2)

  transformer_read : (format : Format) → Reads T (TransformerKeeps P Q) (transformer_at format)
  unfolding transformer_at
  transformer_read format d x fine is =
      let o = bound (object_at d) _ x is in
      let k = bound (member_at (windings_kind_at format) (codes "kind") d) _ x o.2 in
      let a = bound (only_at (codes "kind" ∷ codes "id" ∷ codes "ends" ∷ codes "rated_u" ∷ []) d) _ x k.2 in
      let b = bound (member_at id_at (codes "id") d) _ x a.2 in
      let c = bound (windings_at format k.0 d) _ x b.2 in
      let made : TransformerDraft = record { id = b.0; windings = c.0 } in
      let same : made ≡ x = cc (c.2) in
      let kept : TransformerKeeps P Q made = (id_of (codes "id") d b.0 fine b.1, windings_read format k.0 d c.0 fine c.1) in
      subst (TransformerKeeps P Q) {x = made} same kept

  line_read : (format : Format) → Reads T (LineKeeps P Q) (line_at format)
  unfolding line_at
  line_read format d x fine is =
      let a = bound (only_at (codes "id" ∷ codes "ends" ∷ []) d) _ x is in
      let b = bound (member_at id_at (codes "id") d) _ x a.2 in
      let c = bound (member_at (two_at (end_draft_at format)) (codes "ends") d) _ x b.2 in
      let made : LineDraft = record { id = b.0; ends = c.0 } in
      let same : made ≡ x = cc (c.2) in
      let ends = member_reads T (BothKeep (EndDraftKeeps P Q)) (two_at (end_draft_at format)) (two_read T (EndDraftKeeps P Q) (end_draft_at format) (end_draft_read format)) (codes "ends") d c.0 fine c.1 in
      let kept : LineKeeps P Q made = (id_of (codes "id") d b.0 fine b.1, ends.0, ends.1) in
      subst (LineKeeps P Q) {x = made} same kept

  -- ---- the network

  substation_read : (format : Format) → Reads T (SubstationDraftKeeps P Q) (substation_at format)
  unfolding substation_at
  substation_read format d x fine is =
      let a = bound (only_at (codes "id" ∷ codes "levels" ∷ codes "transformers" ∷ []) d) _ x is in
      let b = bound (member_at id_at (codes "id") d) _ x a.2 in
      let c = bound (member_or [] (array_at (any_level_at format)) (codes "levels") d) _ x b.2 in
      let e = bound (member_or [] (array_at (transformer_at format)) (codes "transformers") d) _ x c.2 in
      let made : SubstationDraft = record { id = b.0; levels = c.0; transformers = e.0 } in
      let same : made ≡ x = cc (e.2) in
      let kept : SubstationDraftKeeps P Q made = record {
        id = id_of (codes "id") d b.0 fine b.1;
        levels = all_of (AnyLevelKeeps P Q) (any_level_at format) (level_read format) (codes "levels") d c.0 fine c.1;
        transformers = all_of (TransformerKeeps P Q) (transformer_at format) (transformer_read format) (codes "transformers") d e.0 fine e.1;
      } in
      subst (SubstationDraftKeeps P Q) {x = made} same kept

  pub network_read : (format : Format) → Reads T (NetworkDraftKeeps P Q) (network_at format)
  unfolding network_at
  network_read format d x fine is =
      let a = bound (only_at (codes "id" ∷ codes "substations" ∷ codes "lines" ∷ []) d) _ x is in
      let b = bound (member_at id_at (codes "id") d) _ x a.2 in
      let c = bound (member_or [] (array_at (substation_at format)) (codes "substations") d) _ x b.2 in
      let e = bound (member_or [] (array_at (line_at format)) (codes "lines") d) _ x c.2 in
      let made : NetworkDraft = record { id = b.0; substations = c.0; lines = e.0 } in
      let same : made ≡ x = cc (e.2) in
      let kept : NetworkDraftKeeps P Q made = record {
        id = id_of (codes "id") d b.0 fine b.1;
        substations = all_of (SubstationDraftKeeps P Q) (substation_at format) (substation_read format) (codes "substations") d c.0 fine c.1;
        lines = all_of (LineKeeps P Q) (line_at format) (line_read format) (codes "lines") d e.0 fine e.1;
      } in
      subst (NetworkDraftKeeps P Q) {x = made} same kept
