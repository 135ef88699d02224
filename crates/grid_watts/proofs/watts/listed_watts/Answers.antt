use Rattle.std.proofs.Common.{ap, ◌∙◌}
use Rattle.std.specs.Prelude.{map}
use Rattle.std.proofs.lemmas.List.{take_all}
use Rattle.grid_watts.specs.Watts.{watts_at, level_watts}
use Rattle.grid_watts.proofs.watts.listed_watts.Goals as goal

pub returns : goal.returns
unfolding level_watts
returns c =
    c.loop-placed.invariant ∙ ap (map (watts_at c.args.powers.now.listed)) (take_all c.loop-placed.placed-index c.placed-placed-items.result.now c.loop-placed-test.false ∙ c.placed-placed-items.ensures)
