use Rattle.std.proofs.Common.{take}
use Rattle.grid_structure.specs.Sites.{levels}
use Rattle.grid_json.specs.Seen.{Knows}
use Rattle.grid_outages.specs.Steps.{Shows, levels_after, rows_after}
use Rattle.grid_outages.proofs.outage.put_all_out.Given as goal

abbrev pub invariant-loop-id : goal.invariant-loop-id
invariant-loop-id l = record {
  known : Knows l.seen (take l.id-index l.ids);
  shows : Shows (levels l.structure) l.states.opened l.changes (levels_after l.structure (take l.id-index l.ids) (levels l.structure)) (rows_after l.structure (take l.id-index l.ids) l.states.opened);
}
