use Rattle.std.proofs.Common.{rules, refl, ◌≡◌, [], ◌∷◌, ◌++◌, decimal}
use Rattle.grid_make.proofs.Texts.{number_is_id}
use Rattle.grid_make.proofs.names.part.Goals as goal

pub id_of-requires : goal.id_of-requires
id_of-requires c =
    let is : c.as_str.result.now ≡ (76 ∷ []) ++ decimal c.args.level ++ c.args.part.now = search rules in
    rw is (number_is_id (76 ∷ []) c.args.part.now c.args.level c.ranges.level.fits refl c.requires)
