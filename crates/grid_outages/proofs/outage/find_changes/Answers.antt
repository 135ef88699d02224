use Rattle.grid_structure.specs.Sites.{levels}
use Rattle.grid_outages.specs.Steps.{levels_after, rows_after}
use Rattle.grid_outages.proofs.ShownLevels.{all_fit, all_looked}
use Rattle.grid_outages.proofs.outage.find_changes.Goals as goal

pub look_at_all-requires : goal.look_at_all-requires
look_at_all-requires c = all_fit (levels c.args.structure.now) c.args.states.now.opened c.in_ok-changes.changes _ _ c.in_ok-changes.ensures

pub returns : goal.returns
returns c =
    let net = c.args.structure.now in
    all_looked c.args.powers.now.listed (levels net) c.args.states.now.opened c.in_ok-changes.changes c.look_at_all.new.changes (levels_after net c.args.ids.now (levels net)) (rows_after net c.args.ids.now c.args.states.now.opened) c.in_ok-changes.ensures c.in_ok-look_at_all.ensures
