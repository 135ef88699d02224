use Rattle.std.proofs.Common.{◌≡◌, ◌+◌, refl, ap, ◌∙◌}
use Rattle.grid_make.specs.Draws.{next, later}
use Rattle.grid_make.specs.MadeNetwork.{feeder_edits}
use Rattle.grid_make.proofs.Turns.{edits_go_on, edits_end, turn_accepted, later_one}
use Rattle.grid_make.proofs.network.add_feeders.Goals as goal

pub loop-number-init : goal.loop-number-init
unfolding later
loop-number-init c = (refl, refl)

pub loop-number-preserved : goal.loop-number-preserved
loop-number-preserved c =
    let edits = edits_go_on (feeder_edits c.args.level) next c.loop-number.number 4 c.loop-number.draws c.loop-number.structure c.add.new.structure _ c.loop-number-test.true c.in_ok-add.ensures.edits c.loop-number.invariant.0 in
    let draws : c.add.new.draws ≡ later (c.loop-number.number + 1) c.args.draws.now = c.add.ensures.draws ∙ ap next c.loop-number.invariant.1 ∙ later_one c.loop-number.number c.args.draws.now in
    (rw c.add.ensures.draws edits, draws)

pub returns-clause-edits : goal.returns-clause-edits
returns-clause-edits c = edits_end (feeder_edits c.args.level) next c.loop-number.number 4 c.loop-number.draws c.loop-number.structure _ c.loop-number-test.false c.loop-number.invariant.0

pub add-requires-clause-accepted : goal.add-requires-clause-accepted
add-requires-clause-accepted c = turn_accepted (feeder_edits c.args.level) next c.loop-number.number 4 c.loop-number.draws c.loop-number.structure _ c.loop-number-test.true c.loop-number.invariant.0 c.requires
