use Rattle.std.proofs.Common.{subst, None}
use Rattle.grid_core.specs.Copied.{Copied, Puts}
use Rattle.grid_core.proofs.LevelCopies.{put_at}
use Rattle.grid_core.proofs.copies.Copies.remove.Goals as goal

pub returns : goal.returns
returns c =
    subst (λ (z : Copied). Puts c.args.place None z c.remove.new.self.entries) c.self.view_is
    (put_at c.args.place None c.self.inside.levels.entries c.remove.new.self.entries c.remove.ensures.updates.0)
