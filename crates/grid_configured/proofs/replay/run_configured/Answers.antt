use Rattle.std.proofs.Common.{◌≤◌, sym, ap, ◌∙◌, subst, length}
use Rattle.grid_structure.specs.Editing.{max_levels}
use Rattle.grid_configured.specs.Histories.{ConfiguredHistory}
use Rattle.grid_configured.specs.Reports.{replies_of, history_of}
use Rattle.grid_configured.proofs.Limits.{few_levels}
use Rattle.grid_configured.proofs.replay.run_configured.Goals as goal

pub outcome-requires-clause-few : goal.outcome-requires-clause-few
outcome-requires-clause-few c = subst (λ (w : ConfiguredHistory). length w.network.levels ≤ max_levels) c.world.view_is (few_levels c.world.inside.network c.world.invariant.translatable)

pub outcome-requires-clause-workers : goal.outcome-requires-clause-workers
unfolding history_of
outcome-requires-clause-workers c = sym (ap (λ (w : ConfiguredHistory). w.workers) c.in_ok-replies.ensures.world)

pub outcome-requires-clause-replies : goal.outcome-requires-clause-replies
unfolding history_of
outcome-requires-clause-replies c = c.in_ok-replies.ensures.replies ∙ sym (ap (λ (w : ConfiguredHistory). replies_of w.network w.steps) c.in_ok-replies.ensures.world)
