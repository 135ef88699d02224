use Rattle.std.proofs.Common.{◌≡◌, ◌+◌, ◌-◌, ◌*◌, refl, ap, ◌∙◌, arith}
use Rattle.grid_make.specs.Draws.{later}
use Rattle.grid_make.specs.MadeNetwork.{level_edits}
use Rattle.grid_make.proofs.Turns.{edits_go_on, edits_end, turn_accepted, later_times}
use Rattle.grid_make.proofs.network.add_levels.Goals as goal

pub loop-level-init : goal.loop-level-init
unfolding later
loop-level-init c = let whole : c.args.size - 0 ≡ c.args.size = omega arith in (rw whole refl, refl)

pub loop-level-preserved : goal.loop-level-preserved
loop-level-preserved c =
    let draws = c.in_ok-add_level.ensures.draws in
    let edits = edits_go_on (level_edits c.args.size) (later 5) c.loop-level.level c.args.size c.loop-level.draws c.loop-level.structure c.add_level.new.structure _ c.loop-level-test.true c.in_ok-add_level.ensures.edits c.loop-level.invariant.0 in
    let last : c.add_level.new.draws ≡ later (5 * (c.loop-level.level + 1)) c.args.draws.now = draws ∙ ap (later 5) c.loop-level.invariant.1 ∙ later_times 5 c.loop-level.level c.args.draws.now in
    (rw draws edits, last)

pub returns-clause-edits : goal.returns-clause-edits
returns-clause-edits c = edits_end (level_edits c.args.size) (later 5) c.loop-level.level c.args.size c.loop-level.draws c.loop-level.structure _ c.loop-level-test.false c.loop-level.invariant.0

pub add_level-requires-clause-accepted : goal.add_level-requires-clause-accepted
add_level-requires-clause-accepted c = turn_accepted (level_edits c.args.size) (later 5) c.loop-level.level c.args.size c.loop-level.draws c.loop-level.structure _ c.loop-level-test.true c.loop-level.invariant.0 c.requires
