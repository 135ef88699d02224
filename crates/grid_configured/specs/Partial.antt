-- A network in node/breaker form as lists, and what they are while its lines are put into them.
use Rattle.std.specs.Prelude.{◌≡◌, ℕ, ◌+◌, ◌<◌, Bool, true, false, pos, not, None, List, [], ◌∷◌, ◌++◌, length, map, slice_get, All}
use Rattle.std.specs.List.{enumerate_from}
use Rattle.grid_ids.specs.Name.{has_id}
use Rattle.grid_kinds.specs.declared.SwitchKind.TheVariants.{Breaker}
use Rattle.grid_structure.specs.declared.End.{End}
use Rattle.grid_json.specs.declared.buses.BusSwitch.{BusSwitch}
use Rattle.grid_json.specs.declared.buses.BusInjection.{BusInjection}
use Rattle.grid_placed.specs.Places.{Outlet}
use Rattle.grid_placed.specs.Translation.{joint_breaker, outlet_breaker, translated_level}
use Rattle.grid_structure.specs.declared.lists.BusbarAt.{BusbarAt}
use Rattle.grid_structure.specs.declared.lists.SwitchBetween.{SwitchBetween}
use Rattle.grid_structure.specs.declared.lists.InjectionAt.{InjectionAt}
use Rattle.grid_structure.specs.declared.lists.LevelLists.{LevelLists}
use Rattle.grid_structure.specs.declared.lists.SubstationLists.{SubstationLists}
use Rattle.grid_structure.specs.Lists.{level_shown, switch_shown}
use Rattle.grid_configured.specs.declared.line_lists.GrowingLevel.{GrowingLevel}
use Rattle.grid_configured.specs.declared.network.ConfiguredLine.{ConfiguredLine}
use Rattle.grid_configured.specs.declared.network.ConfiguredLevel.{ConfiguredLevel}
use Rattle.grid_configured.specs.declared.network.ConfiguredNetwork.{ConfiguredNetwork}
use Rattle.grid_configured.specs.Levels.{joint_of, item_outlet, outlets}
use Rattle.grid_configured.specs.Translation.{substation_id}

-- ---- parts of a level

-- what its switches and injections name is there
pub record LevelStands (l : ConfiguredLevel) : Type 0 where
  pub switches : All (λ (s : BusSwitch). (has_id l.buses s.bus1 ≡ true) × (has_id l.buses s.bus2 ≡ true)) l.switches
  pub items : All (λ (t : BusInjection). has_id l.buses t.bus ≡ true) l.items

-- a bus at its node
abbrev pub bus_at : ℕ × List ℕ → BusbarAt
bus_at e = record { id = e.1; node = pos e.0 }

-- a switch between two buses
abbrev pub joint_at : ConfiguredLevel → BusSwitch → SwitchBetween
joint_at l s = switch_shown (joint_breaker (joint_of l s))

-- an injection at a node, and its breaker
abbrev pub item_at : ℕ × BusInjection → InjectionAt
item_at e = record { id = e.1.id; node = pos e.0; item = e.1.item }

abbrev pub item_breaker : ConfiguredLevel → ℕ × BusInjection → SwitchBetween
item_breaker l e = switch_shown (outlet_breaker (e.0, item_outlet l e.1))

-- the level with these terminals
unfoldable pub level_with : ConfiguredLevel → List Outlet → LevelLists
level_with l ts = level_shown (translated_level (record { id = l.id; nominal_v = l.nominal_v; low_v = None; high_v = None; buses = l.buses; joints = map (joint_of l) l.switches; outlets = ts }))

-- ---- levels that get ends of lines

-- a level with these terminals, and its next node
unfoldable pub growing : ConfiguredLevel → List Outlet → GrowingLevel
growing l ts = record { lists = level_with l ts; next = length l.buses + length ts }

-- all levels, where the terminals are those of their injections and of these lines
unfoldable pub levels_with : ConfiguredNetwork → List ConfiguredLine → List GrowingLevel
levels_with n lines = map (λ l. growing l (outlets (record n { lines = lines }) l)) n.levels

-- the breaker of an end at the next node
abbrev pub end_breaker : List ℕ → ℕ → ℕ → Bool → SwitchBetween
end_breaker id bus node connected = record { id = id; kind = Breaker; node1 = pos bus; node2 = pos node; opened = not connected; retained = false; fictitious = false }

-- a level with one more breaker, at its next node
unfoldable pub grown : List ℕ → ℕ → Bool → GrowingLevel → GrowingLevel
grown id bus connected g = record { lists = record g.lists { switches = g.lists.switches ++ end_breaker id bus g.next connected ∷ [] }; next = g.next + 1 }

-- a level in a substation of its own
abbrev pub housed : GrowingLevel → SubstationLists
housed g = record { id = substation_id g.lists.id; levels = g.lists ∷ []; transformers = [] }
