use Rattle.grid_configured.proofs.Tables.{tally_changed}
use Rattle.grid_configured.proofs.standing.put_tally.Goals as goal

pub returns-in-Ok : goal.returns-in-Ok
returns-in-Ok c = tally_changed c.args.level.now c.in_ok-name.name c.args.levels.now c.insert.new.self c.args.tally c.in_ok-name.ensures c.in-Ok.ensures.updates
