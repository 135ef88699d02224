use Rattle.std.proofs.Common.{rules, ◌≡◌, ◌+◌, ◌-◌, ◌*◌, ◌++◌, refl, ap, ◌∙◌, arith}
use Rattle.grid_make.specs.Draws.{next, later}
use Rattle.grid_make.specs.MadeJob.{next_command}
use Rattle.grid_make.proofs.Turns.{items_go_on, items_end, later_one}
use Rattle.grid_make.proofs.scripts.push_commands.Goals as goal

pub loop-init : goal.loop-init
unfolding later
loop-init c = let whole : 4 * c.args.size - 0 ≡ 4 * c.args.size = omega arith in (rw whole refl, refl)

pub loop-preserved : goal.loop-preserved
unfolding next_command
loop-preserved c =
    let draws = c.next-draw.ensures.last in
    let one : c.push.new.self ≡ c.loop.script ++ next_command c.args.size c.loop.counter c.loop.draws = search rules in
    let items = items_go_on (next_command c.args.size) next c.loop.counter (4 * c.args.size) c.loop.draws c.loop.script c.push.new.self _ c.loop-test.true one c.loop.invariant.0 in
    let last : c.next-draw.new.self ≡ later (c.loop.counter + 1) c.args.draws.now = draws ∙ ap next c.loop.invariant.1 ∙ later_one c.loop.counter c.args.draws.now in
    (rw draws items, last)

pub returns-clause-script : goal.returns-clause-script
returns-clause-script c = items_end (next_command c.args.size) next c.loop.counter (4 * c.args.size) c.loop.draws c.loop.script _ c.loop-test.false c.loop.invariant.0
