-- For private clauses: the refusal that names a terminal.
use Rattle.std.specs.Prelude.{Option, Some, None}
use Rattle.grid_level.specs.declared.Terminal.{Terminal}
use Rattle.grid_structure.specs.declared.EditFault.{EditFault}
use Rattle.grid_structure.specs.declared.EditFault.TheVariants.{NodeTaken}
use Rattle.grid_core.specs.declared.reply.Refusal.{Refusal}
use Rattle.grid_core.specs.declared.reply.Refusal.TheVariants.{Edit}

unfoldable pub taken_at : EditFault → Option Terminal
taken_at (NodeTaken terminal) = Some terminal
taken_at other = None

unfoldable pub taken_by : Refusal → Option Terminal
taken_by (Edit fault) = taken_at fault
taken_by other = None
