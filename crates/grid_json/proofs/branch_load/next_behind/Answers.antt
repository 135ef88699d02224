use Rattle.std.proofs.Common.{refl, sym, ap, ◌+◌}
use Rattle.grid_json.proofs.BusPlaces.{level_got, no_level}
use Rattle.grid_json.proofs.branch_load.next_behind.Goals as goal

pub returns-in-Some : goal.returns-in-Some
returns-in-Some c = rw (level_got c.args.structure.now c.args.level.now c.in-Some.place c.level-level.result.now (sym c.in-Some.ensures.place) c.level-level.ensures) (ap (λ n. n + c.args.earlier) c.node_count.ensures)

pub returns-in-None : goal.returns-in-None
returns-in-None c = rw (no_level c.args.structure.now c.args.level.now (sym c.in-None.ensures.place)) refl
