use Rattle.std.proofs.Common.{◌≡◌, ap, ◌∙◌, ℤ, ◌+ℤ◌, neg_ℤ, rules}
use Rattle.std.proofs.lemmas.Int.{to_z-of_z}
use mir.Syntax.{w128}
use mir.Val.{SFits, to_z, of_z}
use Rattle.grid_screen.specs.declared.Losses.{Losses}
use Rattle.grid_screen.specs.Found.{losses_of}
use Rattle.grid_screen.proofs.find.losses_of.Goals as goal

lost_by : ℤ × ℤ → ℤ × ℤ → Losses
lost_by main all = record { load = main.0; generation = main.1; unconnected_load = all.0; unconnected_generation = all.1 }

-- what is less as machine words is less
lost : (before after less : ℤ) → SFits w128 before → SFits w128 after → SFits w128 less → less ≡ to_z w128 (of_z w128 before) +ℤ neg_ℤ (to_z w128 (of_z w128 after)) → to_z w128 (of_z w128 less) ≡ before +ℤ neg_ℤ after
lost before after less a b c e =
    to_z-of_z w128 less c ∙ e ∙ ap (λ z. z +ℤ neg_ℤ (to_z w128 (of_z w128 after))) (to_z-of_z w128 before a) ∙ ap (λ z. before +ℤ neg_ℤ z) (to_z-of_z w128 after b)

pub returns : goal.returns
unfolding losses_of lost_by
returns c =
    let before = c.args.before.now in
    let after = c.args.after.now in
    let load = lost before.load after.load c.in_ok-less.field-0 (search rules) (search rules) (search rules) c.in_ok-less.ensures in
    let generation = lost before.generation after.generation c.in_ok-less-2.field-0 (search rules) (search rules) (search rules) c.in_ok-less-2.ensures in
    let all_load = lost before.total_load after.total_load c.in_ok-less-3.field-0 (search rules) (search rules) (search rules) c.in_ok-less-3.ensures in
    let all_generation = lost before.total_generation after.total_generation c.in_ok-less-4.field-0 (search rules) (search rules) (search rules) c.in_ok-less-4.ensures in
    let put : ℤ × ℤ = (to_z w128 (of_z w128 c.in_ok-less-3.field-0), to_z w128 (of_z w128 c.in_ok-less-4.field-0)) in
    let main : ℤ × ℤ = (before.load +ℤ neg_ℤ after.load, before.generation +ℤ neg_ℤ after.generation) in
    ap (λ z. lost_by (z, to_z w128 (of_z w128 c.in_ok-less-2.field-0)) put) load
    ∙ ap (λ z. lost_by (main.0, z) put) generation
    ∙ ap (λ z. lost_by main (z, put.1)) all_load
    ∙ ap (λ z. lost_by main (before.total_load +ℤ neg_ℤ after.total_load, z)) all_generation
