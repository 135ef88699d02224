-- What the types of requests and replies hold.
use Rattle.std.specs.Prelude.{⊤, IsUtf8, All}
use Rattle.grid_structure.specs.declared.EditFault.{EditFault}
use Rattle.grid_structure.specs.declared.EditFault.TheVariants as faults
use Rattle.grid_islands.specs.declared.BusComponent.{BusComponent}
use Rattle.grid_requests.specs.declared.request.Request.{Request}
use Rattle.grid_requests.specs.RequestParts.{request_ids, request_numbers}
use Rattle.grid_told.specs.Held.{IsUnsigned, IsSigned, IsTerminal, IsCheckFault}

abbrev pub IsRequest : Request → Type 0
IsRequest request = All IsUtf8 (request_ids request) × All IsSigned (request_numbers request)

pub record IsComponent (b : BusComponent) : Type 0 where
  pub least : IsUnsigned b.least
  pub component : IsUnsigned b.component
  pub size : IsUnsigned b.size

abbrev pub IsEditFault : EditFault → Type 0
IsEditFault (faults.Check fault) = IsCheckFault fault
IsEditFault (faults.NodeRange node) = IsSigned node
IsEditFault (faults.NodeTaken terminal) = IsTerminal terminal
IsEditFault (faults.SameNode node) = IsSigned node
IsEditFault faults.NoEdge = ⊤
IsEditFault faults.TooManyNodes = ⊤
IsEditFault faults.TooManyEdges = ⊤
IsEditFault faults.IdTaken = ⊤
IsEditFault faults.NoSubstation = ⊤
IsEditFault faults.NoLevel = ⊤
IsEditFault faults.NoSuchId = ⊤
IsEditFault (faults.OtherSubstation side) = IsUnsigned side
IsEditFault faults.TooManyLevels = ⊤
IsEditFault faults.TooManySwitches = ⊤
