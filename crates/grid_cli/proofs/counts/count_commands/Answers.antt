use Rattle.std.proofs.Common.{ap, ◌∙◌, length, arith}
use Rattle.std.specs.Prelude.{sum_by}
use Rattle.std.proofs.lemmas.List.{take_all}
use Rattle.std.proofs.lemmas.List.Sums.{sum_by_more_le}
use Rattle.grid_json.specs.Job.{command_total}
use Rattle.grid_cli.proofs.counts.count_commands.Goals as goal

pub overflow_add-total : goal.overflow_add-total
unfolding command_total
overflow_add-total c =
    let within = sum_by_more_le length c.args.scripts.now c.loop-script.script-index c.script-item.result c.loop-script-test.true in
    let same = ap length c.script-item.is in
    omega (arith, within, same, c.loop-script.invariant, c.len-total.ensures, c.requires)

pub returns : goal.returns
unfolding command_total
returns c = c.loop-script.invariant ∙ ap (sum_by length) (take_all c.loop-script.script-index c.args.scripts.now c.loop-script-test.false)
