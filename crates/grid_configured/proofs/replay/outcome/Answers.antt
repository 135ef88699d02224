use Rattle.std.proofs.Common.{sym, ap, ◌∙◌, length}
use Rattle.grid_configured.specs.Translation.{translated}
use Rattle.grid_configured.proofs.HistoryOutcomes.{evenly, came}
use Rattle.grid_configured.proofs.replay.outcome.Goals as goal

pub invariant_of-result : goal.invariant_of-result
invariant_of-result c =
    let world = c.args.world in
    ap length c.requires.replies ∙ evenly (translated world.network) world.network world.steps ∙ sym (ap length c.into_journal.ensures)

pub returns : goal.returns
returns c =
    let world = c.args.world in
    came (translated world.network) world c.into_journal.result c.args.replies c.args.workers c.in_ok-views.views c.into_journal.ensures c.requires.replies c.requires.workers c.in_ok-views.ensures
