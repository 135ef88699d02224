use Rattle.std.proofs.Common.{◌∙◌}
use Rattle.grid_structure.specs.Sites.{levels}
use Rattle.grid_outages.proofs.OutageChanges.{none_shows}
use Rattle.grid_outages.proofs.outage.changes_without.Goals as goal

pub put_all_out-requires : goal.put_all_out-requires
put_all_out-requires c =
    none_shows (levels c.args.structure.now) c.args.states.now.opened c.new-changes.result (c.new-changes.ensures.long ∙ c.level_count.ensures) c.requires.rows c.new-changes.ensures.none c.requires.flags
