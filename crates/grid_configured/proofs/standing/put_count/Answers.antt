use Rattle.grid_configured.proofs.Tables.{count_changed}
use Rattle.grid_configured.proofs.standing.put_count.Goals as goal
use Rattle.grid_configured.proofs.standing.put_count.Goals.{in-Ok, in-Err}

pub returns : goal.returns
returns c = elim c.match-insert.branch [
  | in-Ok w ↦ rw w.result-is (count_changed c.args.level.now c.in_ok-name.name c.args.ends.now c.insert.new.self c.args.count c.in_ok-name.ensures w.in-Ok.ensures.updates)
  | in-Err w ↦ rw w.result-is tt
]
