use Rattle.std.proofs.Common.{ap, rules, ◌+ℤ◌}
use Rattle.std.proofs.lemmas.Int.{to_z-of_z}
use mir.Syntax.{w128}
use mir.Val.{SFits}
use Rattle.grid_powers.specs.Listed.{shifted}
use Rattle.grid_powers.proofs.powers.Powers.shift.Goals as goal

pub returns : goal.returns
returns c =
    let load = c.self.inside.load in
    let generation = c.self.inside.generation in
    let fits1 : SFits w128 load = search rules in
    let fits2 : SFits w128 generation = search rules in
    let fits3 : SFits w128 c.args.load = search rules in
    let fits4 : SFits w128 c.args.generation = search rules in
    let fits5 : SFits w128 (load +ℤ c.args.load) = search rules in
    let fits6 : SFits w128 (generation +ℤ c.args.generation) = search rules in
    rw (to_z-of_z w128 load fits1, to_z-of_z w128 generation fits2, to_z-of_z w128 c.args.load fits3, to_z-of_z w128 c.args.generation fits4, to_z-of_z w128 (load +ℤ c.args.load) fits5, to_z-of_z w128 (generation +ℤ c.args.generation) fits6)
    (ap (shifted c.args.load c.args.generation) c.self.view_is)
