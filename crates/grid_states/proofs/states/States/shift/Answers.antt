use Rattle.std.proofs.Common.{◌≡◌, ap, rules, arith, ◌+ℤ◌}
use Rattle.std.proofs.lemmas.Int.{ints, to_z-of_z}
use mir.Syntax.{w128}
use mir.Val.{SFits}
use Rattle.grid_states.specs.Order.{rows_of}
use Rattle.grid_states.specs.Rows.{shifted}
use Rattle.grid_states.proofs.states.States.shift.Goals as goal

pub overflow_add-self : goal.overflow_add-self
unfolding rows_of
overflow_add-self c =
    let same : c.self.inside.load ≡ c.args.self.now.load = ap (λ r. r.load) c.self.view_is in
    omega (arith, ints, same, c.requires.room.load_low, c.requires.room.load_high, c.requires.small.load_low, c.requires.small.load_high)

pub overflow_add-self-2 : goal.overflow_add-self-2
unfolding rows_of
overflow_add-self-2 c =
    let same : c.self.inside.generation ≡ c.args.self.now.generation = ap (λ r. r.generation) c.self.view_is in
    omega (arith, ints, same, c.requires.room.generation_low, c.requires.room.generation_high, c.requires.small.generation_low, c.requires.small.generation_high)

pub returns : goal.returns
unfolding rows_of shifted
returns c =
    let load = c.self.inside.load in
    let generation = c.self.inside.generation in
    let fits1 : SFits w128 load = search rules in
    let fits2 : SFits w128 generation = search rules in
    let fits3 : SFits w128 c.args.by.load = search rules in
    let fits4 : SFits w128 c.args.by.generation = search rules in
    let fits5 : SFits w128 (load +ℤ c.args.by.load) = search rules in
    let fits6 : SFits w128 (generation +ℤ c.args.by.generation) = search rules in
    rw (to_z-of_z w128 load fits1, to_z-of_z w128 generation fits2, to_z-of_z w128 c.args.by.load fits3, to_z-of_z w128 c.args.by.generation fits4, to_z-of_z w128 (load +ℤ c.args.by.load) fits5, to_z-of_z w128 (generation +ℤ c.args.by.generation) fits6)
    (ap (shifted c.args.by) c.self.view_is)
