use Rattle.std.proofs.Common.{ap, ◌∙◌}
use Rattle.grid_core.specs.Copied.{copy_at}
use Rattle.grid_core.proofs.LevelCopies.{found_at}
use Rattle.grid_core.proofs.copies.Copies.find.Goals as goal

pub returns : goal.returns
returns c = c.get.ensures.value ∙ found_at c.args.place c.self.inside.levels.entries ∙ ap (λ copies. copy_at copies c.args.place) c.self.view_is
