use denote.Param.{param}
use Rattle.grid_manager.proofs.ThreadSafety.{manager_sync}
use Rattle.grid_rows.proofs.callers.pair.Goals as goal

-- by its record, since the manager's row as the call has it is not read as the lemma's
pub both_scripts-first-requires-sync-M : goal.both_scripts-first-requires-sync-M
both_scripts-first-requires-sync-M g c κs within = record { shared = λ x b o. (manager_sync (param 1 g.row.N) g.N.Named).shared x b o }
