use Rattle.std.proofs.Common.{rules, refl, ◌≡◌, [], ◌∷◌, ◌++◌, decimal}
use Rattle.grid_make.proofs.Texts.{number_is_piece}
use Rattle.grid_make.proofs.names.feeder_switch.Goals as goal

pub part-requires : goal.part-requires
part-requires c =
    let is : c.as_str.result.now ≡ (70 ∷ []) ++ decimal c.args.feeder ++ c.args.letter.now = search rules in
    rw is (number_is_piece (70 ∷ []) c.args.letter.now c.args.feeder c.ranges.feeder.fits refl c.requires)
