use Rattle.std.proofs.Common.{◌≡◌, ap, ◌∙◌, Some, length, rules}
use Rattle.std.specs.Prelude.{slice_get, slice_set}
use Rattle.grid_islands.proofs.LinkedEnds.{added, added_there}
use Rattle.grid_islands.proofs.level_ends.LevelEnds.add.Goals as goal

pub returns-clause-more : goal.returns-clause-more
returns-clause-more c =
    let old = c.args.self.now in
    let last : slice_get old.lasts c.args.level ≡ Some c.in-Some.last.now = search rules in
    let place : c.in-Ok.place ≡ length old.ends = search rules in
    added old _ c.args.level c.args.branch c.in-Some.last.now c.requires last c.in_ok-push.ensures.ok (c.set.ensures ∙ ap (λ z. slice_set old.lasts c.args.level (Some z)) place)

pub returns-clause-there : goal.returns-clause-there
returns-clause-there c _ = added_there c.args.self.now _ c.args.level c.args.branch c.in-Some.last.now c.in_ok-push.ensures.ok
