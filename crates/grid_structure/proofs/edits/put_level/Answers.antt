use Rattle.std.proofs.Common.{◌∙◌, ◌≤◌, ap, length, arith, List}
use Rattle.std.specs.Prelude.{remove}
use Rattle.grid_lemmas.proofs.Lists.{remove_insert}
use Rattle.grid_level.specs.VoltageLevel.{VoltageLevel}
use Rattle.grid_structure.proofs.edits.put_level.Goals as goal

pub returns-in-Err-push_place-clause-same_levels : goal.returns-in-Err-push_place-clause-same_levels
returns-in-Err-push_place-clause-same_levels c =
    let room : c.args.place ≤ length c.args.levels.now.items = omega arith in
    c.remove.ensures.items ∙ ap (λ (z : List VoltageLevel). remove z c.args.place) c.in-Ok.ensures.items ∙ remove_insert c.args.levels.now.items c.args.place c.args.level room
