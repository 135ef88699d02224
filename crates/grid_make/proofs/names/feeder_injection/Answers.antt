use Rattle.std.proofs.Common.{rules, refl, ◌≡◌, [], ◌∷◌, ◌++◌, decimal}
use Rattle.grid_make.proofs.Texts.{number_ends_piece}
use Rattle.grid_make.proofs.names.feeder_injection.Goals as goal

pub part-requires : goal.part-requires
part-requires c =
    let is : c.as_str.result.now ≡ (73 ∷ []) ++ decimal c.args.feeder = search rules in
    rw is (number_ends_piece (73 ∷ []) c.args.feeder c.ranges.feeder.fits refl)
