use Rattle.std.proofs.Common.{subst, Some}
use Rattle.grid_core.specs.Copied.{Copied, Puts}
use Rattle.grid_core.proofs.LevelCopies.{put_at}
use Rattle.grid_core.proofs.copies.Copies.keep.Goals as goal

pub returns-in-Ok-clause-ok : goal.returns-in-Ok-clause-ok
returns-in-Ok-clause-ok c =
    subst (λ (z : Copied). Puts c.args.place (Some c.args.level) z c.insert.new.self.entries) c.self.view_is
    (put_at c.args.place (Some c.args.level) c.self.inside.levels.entries c.insert.new.self.entries c.in-Ok.ensures.updates.0)
