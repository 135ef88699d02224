-- Edits one after the other, and those that load a network.
use Rattle.std.specs.Prelude.{◌≡◌, ℕ, pos, List, [], ◌∷◌, ◌++◌, map, flat_map, Result, Ok}
use Rattle.grid_ids.specs.Refusing.{◌>>=◌}
use Rattle.grid_level.specs.declared.Stand.{Stand}
use Rattle.grid_level.specs.declared.Stand.TheVariants.{Busbar, Feeder, BranchEnd}
use Rattle.grid_level.specs.declared.Switch.{Switch}
use Rattle.grid_level.specs.declared.Internal.{Internal}
use Rattle.grid_level.specs.VoltageLevel.{VoltageLevel}
use Rattle.grid_structure.specs.declared.NamedBranch.{NamedBranch}
use Rattle.grid_structure.specs.declared.Edit.{Edit}
use Rattle.grid_structure.specs.declared.Edit.TheVariants as edits
use Rattle.grid_structure.specs.declared.EditFault.{EditFault}
use Rattle.grid_structure.specs.Network.{Network, Substation, empty_of}
use Rattle.grid_structure.specs.Editing.{apply}
use Rattle.grid_structure.specs.Soundness.{IsSound}

-- each edit on what the earlier ones made, or the first refusal
unfoldable pub apply_each : Network → List Edit → Result Network EditFault
apply_each net [] = Ok net
apply_each net (edit ∷ later) = apply net edit >>= λ new. apply_each new later

-- ---- the parts of a level

-- the busbar section that stands at a node, where one does
abbrev pub busbar_edits : List ℕ → List ℕ → ℕ → Stand → List Edit
busbar_edits level id node Busbar = edits.AddBusbar id level (pos node) ∷ []
busbar_edits level id node (Feeder item) = []
busbar_edits level id node BranchEnd = []

abbrev pub switch_edit : List ℕ → Switch → Edit
switch_edit level s = edits.AddSwitch s.id level s.kind (pos s.node1) (pos s.node2) s.opened s.retained s.fictitious

abbrev pub internal_edit : List ℕ → Internal → Edit
internal_edit level i = edits.AddInternal level (pos i.node1) (pos i.node2)

-- the injection that stands at a node, where one does
abbrev pub injection_edits : List ℕ → List ℕ → ℕ → Stand → List Edit
injection_edits level id node Busbar = []
injection_edits level id node (Feeder item) = edits.AddInjection id level (pos node) item ∷ []
injection_edits level id node BranchEnd = []

-- ---- networks

-- The level, then its busbar sections, switches, internal connections and injections. The ends of branches come with the branches.
unfoldable pub level_edits : List ℕ → VoltageLevel → List Edit
level_edits substation l =
    edits.AddLevel l.id substation l.nominal_v l.low_v l.high_v
    ∷ (flat_map (λ p. busbar_edits l.id p.terminal.equipment p.node p.stand) l.placed
    ++ (map (switch_edit l.id) l.switches
    ++ (map (internal_edit l.id) l.internals
    ++ flat_map (λ p. injection_edits l.id p.terminal.equipment p.node p.stand) l.placed)))

abbrev pub branch_edit : NamedBranch → Edit
branch_edit b = edits.AddBranch b.id b.shape

-- the substation, then its levels, then its transformers
unfoldable pub substation_edits : Substation → List Edit
substation_edits s = edits.AddSubstation s.id ∷ (flat_map (level_edits s.id) s.levels ++ map branch_edit s.transformers)

-- the substations, then the lines
unfoldable pub loading_edits : Network → List Edit
loading_edits net = flat_map substation_edits net.substations ++ map branch_edit net.lines

-- what the edits of these lists make of nothing, or the first refusal
unfoldable pub loaded : Network → Result Network EditFault
loaded net = apply_each (empty_of net.id) (loading_edits net)

-- ---- what is said of them

-- a sound network's own edits load it
abbrev pub NetworksAreLoaded : Type 0
NetworksAreLoaded = (net : Network) → IsSound net → loaded net ≡ Ok net
