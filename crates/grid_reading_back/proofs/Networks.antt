-- Networks and commands whose ids and whose numbers all keep a rule.
use Rattle.std.proofs.Common.{ℕ, ℤ, pos, List, [], ◌∷◌}
use Rattle.std.specs.Prelude.{IfSome, ⊤}
use Rattle.std.specs.List.{AllByRecursion}
use Rattle.grid_level.specs.declared.Placed.{Placed}
use Rattle.grid_level.specs.declared.Switch.{Switch}
use Rattle.grid_level.specs.declared.Internal.{Internal}
use Rattle.grid_level.specs.declared.Stand.{Stand}
use Rattle.grid_level.specs.declared.Stand.TheVariants.{Busbar, Feeder, BranchEnd}
use Rattle.grid_level.specs.VoltageLevel.{VoltageLevel}
use Rattle.grid_structure.specs.Network.{Network, Substation}
use Rattle.grid_structure.specs.declared.Branch.{Branch}
use Rattle.grid_structure.specs.declared.Branch.TheVariants.{Line, TwoWindings, ThreeWindings}
use Rattle.grid_structure.specs.declared.End.{End}
use Rattle.grid_structure.specs.declared.NamedBranch.{NamedBranch}
use Rattle.grid_structure.specs.declared.Edit.{Edit}
use Rattle.grid_requests.specs.declared.request.Request.{Request}
use Rattle.grid_requests.specs.RequestParts.{edit_ids, edit_numbers, item_numbers, shape_ids, shape_numbers, request_ids, request_numbers}

-- the rated voltages of a branch
abbrev pub rated_numbers : Branch → List ℤ
rated_numbers (Line end1 end2) = []
rated_numbers (TwoWindings substation end1 end2 rated_u1 rated_u2) = rated_u1 ∷ rated_u2 ∷ []
rated_numbers (ThreeWindings substation end1 end2 end3 rated_u1 rated_u2 rated_u3) = rated_u1 ∷ rated_u2 ∷ rated_u3 ∷ []

module _ (P : List ℕ → Type 0) (Q : ℤ → Type 0) where
  abbrev pub SwitchKeeps : Switch → Type 0
  SwitchKeeps s = P s.id × Q (pos s.node1) × Q (pos s.node2)

  abbrev pub InternalKeeps : Internal → Type 0
  InternalKeeps i = Q (pos i.node1) × Q (pos i.node2)

  abbrev pub StandKeeps : Stand → Type 0
  StandKeeps Busbar = ⊤
  StandKeeps (Feeder item) = AllByRecursion Q (item_numbers item)
  StandKeeps BranchEnd = ⊤

  abbrev pub PlacedKeeps : Placed → Type 0
  PlacedKeeps p = P p.terminal.equipment × Q (pos p.node) × StandKeeps p.stand

  pub record LevelKeeps (l : VoltageLevel) : Type 0 where
    pub id : P l.id
    pub nominal : Q l.nominal_v
    pub low : IfSome l.low_v Q
    pub high : IfSome l.high_v Q
    pub switches : AllByRecursion SwitchKeeps l.switches
    pub internals : AllByRecursion InternalKeeps l.internals
    pub placed : AllByRecursion PlacedKeeps l.placed

  abbrev pub EndKeeps : End → Type 0
  EndKeeps e = P e.level × Q e.node

  abbrev pub BranchKeeps : NamedBranch → Type 0
  BranchKeeps b = P b.id × AllByRecursion P (shape_ids b.shape) × AllByRecursion Q (shape_numbers b.shape)

  pub record SubstationKeeps (s : Substation) : Type 0 where
    pub id : P s.id
    pub levels : AllByRecursion LevelKeeps s.levels
    pub transformers : AllByRecursion BranchKeeps s.transformers

  pub record NetworkKeeps (net : Network) : Type 0 where
    pub id : P net.id
    pub substations : AllByRecursion SubstationKeeps net.substations
    pub lines : AllByRecursion BranchKeeps net.lines

  abbrev pub EditKeeps : Edit → Type 0
  EditKeeps edit = AllByRecursion P (edit_ids edit) × AllByRecursion Q (edit_numbers edit)

  abbrev pub RequestKeeps : Request → Type 0
  RequestKeeps r = AllByRecursion P (request_ids r) × AllByRecursion Q (request_numbers r)
