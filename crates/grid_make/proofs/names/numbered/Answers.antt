use Rattle.std.proofs.Common.{rules, ◌≡◌, ◌++◌, decimal}
use Rattle.grid_make.proofs.Texts.{number_ends_id}
use Rattle.grid_make.proofs.names.numbered.Goals as goal

pub id_of-requires : goal.id_of-requires
id_of-requires c =
    let is : c.as_str.result.now ≡ c.args.letter.now ++ decimal c.args.number = search rules in
    rw is (number_ends_id c.args.letter.now c.args.number c.ranges.number.fits c.requires)
