-- What is read back as it was written: its ids are ids, its numbers fit, and its branches stand in their own lists.
use Rattle.std.specs.Prelude.{ℕ, ℤ, pos, ◌^◌, ◌<◌, ◌≡◌, List, int_lt, true, None, ⊤, All, IfSome}
use Rattle.grid_ids.specs.Fault.{id_fault}
use Rattle.grid_kinds.specs.declared.Injection.{Injection}
use Rattle.grid_kinds.specs.declared.Injection.TheVariants as injections
use Rattle.grid_level.specs.VoltageLevel.{VoltageLevel}
use Rattle.grid_level.specs.declared.Placed.{Placed}
use Rattle.grid_level.specs.declared.Stand.{Stand}
use Rattle.grid_level.specs.declared.Stand.TheVariants.{Busbar, Feeder, BranchEnd}
use Rattle.grid_level.specs.declared.Switch.{Switch}
use Rattle.grid_level.specs.declared.Internal.{Internal}
use Rattle.grid_structure.specs.Network.{Network, Substation}
use Rattle.grid_structure.specs.declared.NamedBranch.{NamedBranch}
use Rattle.grid_structure.specs.declared.Branch.{Branch}
use Rattle.grid_structure.specs.declared.Branch.TheVariants.{Line, TwoWindings, ThreeWindings}
use Rattle.grid_structure.specs.declared.End.{End}

-- a text that is an id
abbrev pub IsId : List ℕ → Type 0
IsId id = id_fault id ≡ None

-- a number that 64 bits with a sign hold
abbrev pub IsWhole : ℤ → Type 0
IsWhole z = int_lt z (pos (2 ^ 63)) ≡ true

-- ---- the parts of a level

abbrev pub IsReadableSwitch : Switch → Type 0
IsReadableSwitch s = IsId s.id × (s.node1 < 2 ^ 63) × (s.node2 < 2 ^ 63)

abbrev pub IsReadableInternal : Internal → Type 0
IsReadableInternal i = (i.node1 < 2 ^ 63) × (i.node2 < 2 ^ 63)

-- the numbers of an injection
abbrev pub AreWhole : Injection → Type 0
AreWhole (injections.Load p0 q0) = IsWhole p0 × IsWhole q0
AreWhole (injections.Generator target_p target_v min_p max_p) = IsWhole target_p × IsWhole target_v × IsWhole min_p × IsWhole max_p
AreWhole (injections.Battery target_p target_q min_p max_p) = IsWhole target_p × IsWhole target_q × IsWhole min_p × IsWhole max_p
AreWhole (injections.ShuntCompensator section_count max_sections) = IsWhole section_count × IsWhole max_sections
AreWhole (injections.StaticVarCompensator target_q) = IsWhole target_q
AreWhole (injections.ConverterStation target_q) = IsWhole target_q

-- the busbar section that stands at a node, where one does
abbrev pub IsReadableBusbar : List ℕ → ℕ → Stand → Type 0
IsReadableBusbar id node Busbar = IsId id × (node < 2 ^ 63)
IsReadableBusbar id node (Feeder read) = ⊤
IsReadableBusbar id node BranchEnd = ⊤

-- the injection that stands at a node, where one does
abbrev pub IsReadableInjection : List ℕ → ℕ → Stand → Type 0
IsReadableInjection id node Busbar = ⊤
IsReadableInjection id node (Feeder read) = IsId id × (node < 2 ^ 63) × AreWhole read
IsReadableInjection id node BranchEnd = ⊤

abbrev pub AreReadableBusbars : List Placed → Type 0
AreReadableBusbars placed = All (λ p. IsReadableBusbar p.terminal.equipment p.node p.stand) placed

abbrev pub AreReadableInjections : List Placed → Type 0
AreReadableInjections placed = All (λ p. IsReadableInjection p.terminal.equipment p.node p.stand) placed

pub record IsReadableLevel (l : VoltageLevel) : Type 0 where
  pub id : IsId l.id
  pub nominal : IsWhole l.nominal_v
  pub low : IfSome l.low_v IsWhole
  pub high : IfSome l.high_v IsWhole
  pub busbars : AreReadableBusbars l.placed
  pub switches : All IsReadableSwitch l.switches
  pub internals : All IsReadableInternal l.internals
  pub injections : AreReadableInjections l.placed

-- ---- branches

abbrev pub IsReadableEnd : End → Type 0
IsReadableEnd e = IsId e.level × IsWhole e.node

-- the ends and the rated voltages of a branch
abbrev pub IsReadableShape : Branch → Type 0
IsReadableShape (Line end1 end2) = IsReadableEnd end1 × IsReadableEnd end2
IsReadableShape (TwoWindings substation end1 end2 rated_u1 rated_u2) = IsReadableEnd end1 × (IsReadableEnd end2 × (IsWhole rated_u1 × IsWhole rated_u2))
IsReadableShape (ThreeWindings substation end1 end2 end3 rated_u1 rated_u2 rated_u3) =
    IsReadableEnd end1 × (IsReadableEnd end2 × (IsReadableEnd end3 × (IsWhole rated_u1 × (IsWhole rated_u2 × IsWhole rated_u3))))

abbrev pub IsReadableBranch : NamedBranch → Type 0
IsReadableBranch b = IsId b.id × IsReadableShape b.shape

abbrev pub IsTransformer : Branch → Type 0
IsTransformer (Line end1 end2) = ⊥
IsTransformer (TwoWindings substation end1 end2 rated_u1 rated_u2) = ⊤
IsTransformer (ThreeWindings substation end1 end2 end3 rated_u1 rated_u2 rated_u3) = ⊤

abbrev pub IsLine : Branch → Type 0
IsLine (Line end1 end2) = ⊤
IsLine (TwoWindings substation end1 end2 rated_u1 rated_u2) = ⊥
IsLine (ThreeWindings substation end1 end2 end3 rated_u1 rated_u2 rated_u3) = ⊥

-- ---- networks

pub record IsReadableSubstation (s : Substation) : Type 0 where
  pub id : IsId s.id
  pub levels : All IsReadableLevel s.levels
  pub transformers : All IsReadableBranch s.transformers
  pub are_transformers : All (λ b. IsTransformer b.shape) s.transformers

pub record IsReadable (net : Network) : Type 0 where
  pub id : IsId net.id
  pub substations : All IsReadableSubstation net.substations
  pub lines : All IsReadableBranch net.lines
  pub are_lines : All (λ b. IsLine b.shape) net.lines
