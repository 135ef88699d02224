use Rattle.std.proofs.Common.{◌+◌, ◌*◌, ◌≤◌, subst, length}
use Rattle.grid_level.specs.VoltageLevel.{VoltageLevel}
use Rattle.grid_level.specs.Passing.{nodes}
use Rattle.grid_bench.specs.Contents.{content}
use Rattle.grid_bench.specs.Costs.{IsFar}
use Rattle.grid_bench.specs.Stores.{kept_for}
use Rattle.grid_bench.proofs.Anew.{built_costs}
use Rattle.grid_bench.proofs.bench.Bench.take.Goals as goal

pub returns-in_err-kept-clause-visits : goal.returns-in_err-kept-clause-visits
returns-in_err-kept-clause-visits g c =
    built_costs (kept_for c.args.self.now c.args.level.now.id) (content c.args.level.now c.args.opened.now c.args.retained.now) c.args.counts.now.visits c.build.new.steps
    (let P : VoltageLevel → Type 0 = λ z. IsFar (kept_for c.args.self.now z.id) (content z c.args.opened.now c.args.retained.now) in subst P c.in_ok-level.ensures c.in_default.ensures.missing)
    (let Q : VoltageLevel → Type 0 = λ z. c.build.new.steps ≤ c.args.counts.now.visits + 4 * length (nodes z) in subst Q c.in_ok-level.ensures c.build.ensures.cost)

pub returns-clause-visits : goal.returns-clause-visits
returns-clause-visits g c =
    built_costs (kept_for c.args.self.now c.args.level.now.id) (content c.args.level.now c.args.opened.now c.args.retained.now) c.args.counts.now.visits c.build.new.steps
    (let P : VoltageLevel → Type 0 = λ z. IsFar (kept_for c.args.self.now z.id) (content z c.args.opened.now c.args.retained.now) in subst P c.in_ok-level.ensures c.in_default.ensures.missing)
    (let Q : VoltageLevel → Type 0 = λ z. c.build.new.steps ≤ c.args.counts.now.visits + 4 * length (nodes z) in subst Q c.in_ok-level.ensures c.build.ensures.cost)
