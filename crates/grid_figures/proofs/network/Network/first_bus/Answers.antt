use Rattle.std.proofs.Common.{sym, ap, ◌∙◌, ℕ, List, length}
use Rattle.std.specs.Prelude.{slice_get}
use Rattle.grid_unions.specs.declared.summed.Sums.{Sums}
use Rattle.grid_figures.specs.Outages.{level_sums, sums_before}
use Rattle.grid_figures.proofs.FirstLevels.{first_bus_of, no_bus_of}
use Rattle.grid_figures.proofs.network.Network.first_bus.Goals as goal

pub returns-then-level-self : goal.returns-then-level-self
unfolding sums_before
returns-then-level-self c =
    let kept = c.args.self.now.kept.now in
    let f : ℕ → List Sums = level_sums kept c.args.levels.now in
    c.copied.ensures ∙ c.first.ensures.value ∙ ap (λ z. slice_get z 0) c.level_sums.ensures
    ∙ first_bus_of f (length kept) c.first_level-level.result c.first_level-level.ensures c.if-level-self.true

pub returns-else-level-self : goal.returns-else-level-self
unfolding sums_before
returns-else-level-self c =
    let kept = c.args.self.now.kept.now in
    sym (no_bus_of (level_sums kept c.args.levels.now) (length kept) c.first_level-level.result c.first_level-level.ensures c.if-level-self.false)
