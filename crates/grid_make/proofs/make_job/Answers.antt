use Rattle.std.proofs.Common.{rules, ◌≡◌, ◌+◌, ◌*◌, ◌∙◌, length, ap, arith}
use Rattle.grid_json.specs.Job.{command_total}
use Rattle.grid_json.specs.declared.whole.Job.{Job}
use Rattle.grid_make.specs.Draws.{later, in_turn}
use Rattle.grid_make.specs.MadeNetwork.{made_edits, made_network, blank, IsUnrefused}
use Rattle.grid_make.specs.MadeJob.{worker_scripts, made_scripts, made_job}
use Rattle.grid_make.proofs.Turns.{unrefused_after}
use Rattle.grid_make.proofs.Commands.{made_total, made_workers}
use Rattle.grid_make.proofs.make_job.Goals as goal

pub returns-clause-made : goal.returns-clause-made
unfolding made_job made_scripts
returns-clause-made c =
    let seed : c.new-draws.result ≡ c.args.seed = c.new-draws.ensures in
    let whole : IsUnrefused c.args.seed c.args.size c.in_ok-network.network = rw seed at c.in_ok-network.ensures.network in
    let network : made_network c.args.seed c.args.size ≡ c.in_ok-network.network = unrefused_after (made_edits c.args.seed c.args.size) blank c.in_ok-network.network whole in
    let draws : c.make_network.new.draws ≡ later (5 * c.args.size) c.args.seed = rw seed at c.in_ok-network.ensures.draws in
    let scripts : c.in_ok-scripts.scripts ≡ in_turn (worker_scripts c.args.size) (later (4 * c.args.size)) 0 4 (later (5 * c.args.size) c.args.seed) = rw draws at c.in_ok-scripts.ensures in
    rw (network, scripts, c.empty.ensures) (search rules)

pub returns-clause-workers : goal.returns-clause-workers
unfolding made_job
returns-clause-workers c = ap (λ (job : Job). length job.scripts) (returns-clause-made c) ∙ made_workers c.args.seed c.args.size

pub returns-clause-commands : goal.returns-clause-commands
unfolding made_job
returns-clause-commands c = ap (λ (job : Job). command_total job.scripts) (returns-clause-made c) ∙ made_total c.args.seed c.args.size

pub returns-clause-total : goal.returns-clause-total
returns-clause-total c =
    let count : command_total c.in_ok-scripts.scripts ≡ 4 * (3 + 4 * c.args.size) = returns-clause-commands c in
    rw count (omega arith)
