-- What a report writes of a refusal: its number, its words, and the values that it names.
use Rattle.std.specs.Prelude.{ℕ, List, ◌++◌, codes, decimal}
use Rattle.grid_kinds.specs.declared.CheckFault.{CheckFault}
use Rattle.grid_kinds.specs.declared.CheckFault.TheVariants as checks
use Rattle.grid_structure.specs.declared.EditFault.{EditFault}
use Rattle.grid_structure.specs.declared.EditFault.TheVariants as faults
use Rattle.grid_core.specs.declared.reply.Refusal.{Refusal}
use Rattle.grid_core.specs.declared.reply.Refusal.TheVariants as refusals
use Rattle.grid_report.specs.Words.{behind}
use Rattle.grid_report.specs.Lines.{terminal_text}

-- ---- numbers

unfoldable pub check_number : CheckFault → ℕ
check_number (checks.NominalNotPositive found bound) = 10
check_number (checks.VoltageLimits found bound) = 11
check_number (checks.PowerLimits found bound) = 12
check_number (checks.Sections found bound) = 13
check_number (checks.RatedNotPositive found bound) = 14

unfoldable pub fault_number : EditFault → ℕ
fault_number (faults.Check fault) = check_number fault
fault_number (faults.NodeRange node) = 20
fault_number (faults.NodeTaken terminal) = 21
fault_number (faults.SameNode node) = 22
fault_number faults.NoEdge = 23
fault_number faults.TooManyNodes = 24
fault_number faults.TooManyEdges = 25
fault_number faults.IdTaken = 30
fault_number faults.NoSubstation = 31
fault_number faults.NoLevel = 32
fault_number faults.NoSuchId = 33
fault_number (faults.OtherSubstation side) = 34
fault_number faults.TooManyLevels = 35
fault_number faults.TooManySwitches = 36

unfoldable pub refusal_number : Refusal → ℕ
refusal_number refusals.NoVariant = 40
refusal_number refusals.NoSwitch = 41
refusal_number refusals.NoEquipment = 42
refusal_number refusals.NoSide = 43
refusal_number refusals.NoLevel = 44
refusal_number refusals.TargetExists = 45
refusal_number refusals.InitialStays = 46
refusal_number refusals.TooManyVariants = 47
refusal_number refusals.NoPower = 48
refusal_number (refusals.Edit fault) = fault_number fault

-- ---- reasons

-- a value that may not stand, and the bound that it breaks
unfoldable pub check_reason : CheckFault → List ℕ
check_reason (checks.NominalNotPositive found bound) = codes "nominal not positive" ++ behind found ++ behind bound
check_reason (checks.VoltageLimits found bound) = codes "voltage limits" ++ behind found ++ behind bound
check_reason (checks.PowerLimits found bound) = codes "power limits" ++ behind found ++ behind bound
check_reason (checks.Sections found bound) = codes "sections" ++ behind found ++ behind bound
check_reason (checks.RatedNotPositive found bound) = codes "rated not positive" ++ behind found ++ behind bound

unfoldable pub fault_reason : EditFault → List ℕ
fault_reason (faults.Check fault) = check_reason fault
fault_reason (faults.NodeRange node) = codes "node range" ++ behind node
fault_reason (faults.NodeTaken terminal) = codes "node taken by " ++ terminal_text terminal
fault_reason (faults.SameNode node) = codes "same node" ++ behind node
fault_reason faults.NoEdge = codes "no edge"
fault_reason faults.TooManyNodes = codes "too many nodes"
fault_reason faults.TooManyEdges = codes "too many edges"
fault_reason faults.IdTaken = codes "id taken"
fault_reason faults.NoSubstation = codes "no substation"
fault_reason faults.NoLevel = codes "no level"
fault_reason faults.NoSuchId = codes "no such id"
fault_reason (faults.OtherSubstation side) = codes "other substation " ++ decimal side
fault_reason faults.TooManyLevels = codes "too many levels"
fault_reason faults.TooManySwitches = codes "too many switches"

unfoldable pub reason_text : Refusal → List ℕ
reason_text refusals.NoVariant = codes "no variant"
reason_text refusals.NoSwitch = codes "no switch"
reason_text refusals.NoEquipment = codes "no equipment"
reason_text refusals.NoSide = codes "no side"
reason_text refusals.NoLevel = codes "no level"
reason_text refusals.TargetExists = codes "target exists"
reason_text refusals.InitialStays = codes "initial stays"
reason_text refusals.TooManyVariants = codes "too many variants"
reason_text refusals.NoPower = codes "no power"
reason_text (refusals.Edit fault) = fault_reason fault

-- ---- refusals

unfoldable pub refusal_text : Refusal → List ℕ
refusal_text refusal = decimal (refusal_number refusal) ++ codes " " ++ reason_text refusal
