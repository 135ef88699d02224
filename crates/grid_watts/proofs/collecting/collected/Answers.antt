use Rattle.std.proofs.Common.{ℤ, sym, ap, ap₂, subst, ◌∙◌, ◌+◌, ◌≤◌, length, arith, rules}
use Rattle.std.proofs.lemmas.Int.{to_z-of_z}
use mir.Syntax.{w128}
use mir.Val.{SFits}
use Rattle.grid_structure.specs.Sites.{levels}
use Rattle.grid_powers.specs.Listed.{PowerList}
use Rattle.grid_states.specs.Rows.{pairs_at}
use Rattle.grid_watts.specs.Watts.{terminals_before}
use Rattle.grid_watts.proofs.Gatherings.{HasValuesOf, none_gathered, level_gathered, network_gathered}
use Rattle.grid_watts.proofs.collecting.collected.Goals as goal

pub loop-place-init : goal.loop-place-init
unfolding terminals_before
loop-place-init c =
    let load : SFits w128 c.load.result = search rules in
    let generation : SFits w128 c.generation.result = search rules in (
      ap (λ (z : PowerList). z.load) c.opening-powers.ensures ∙ to_z-of_z w128 c.load.result load ∙ c.load.ensures,
      ap (λ (z : PowerList). z.generation) c.opening-powers.ensures ∙ to_z-of_z w128 c.generation.result generation ∙ c.generation.ensures,
      λ listed k rows. none_gathered listed c.opening-powers.result.listed (ap (λ (z : PowerList). z.listed) c.opening-powers.ensures),
    )

pub loop-place-preserved : goal.loop-place-preserved
loop-place-preserved c =
    let place = c.loop-place.place in
    let put = c.in_ok-collect_level.ensures in (
      ap (λ (z : PowerList). z.load) put ∙ c.loop-place.invariant.0,
      ap (λ (z : PowerList). z.generation) put ∙ c.loop-place.invariant.1,
      λ listed k rows. subst (HasValuesOf listed (terminals_before c.args.structure.now (place + 1))) (sym (ap (λ (z : PowerList). z.listed) put))
          (level_gathered c.args.structure.now listed c.loop-place.powers.listed place c.level.result.now c.watts_row.result.now c.keeps.ensures c.level.ensures
          (c.watts_row.ensures.pairs ∙ ap (λ z. pairs_at z place) rows) (c.loop-place.invariant.2 listed k rows)),
    )

pub returns : goal.returns
returns c = λ listed k rows.
    let end : length (levels c.args.structure.now) ≤ c.loop-place.place = omega (arith, c.level_count-place-end.ensures, c.loop-place-test.false) in
    let with_sums : ℤ → ℤ → PowerList = λ load generation. record { listed = listed; load = load; generation = generation } in
    network_gathered c.args.structure.now listed c.loop-place.place c.loop-place.powers k end (c.loop-place.invariant.2 listed k rows)
    ∙ ap₂ with_sums c.loop-place.invariant.0 c.loop-place.invariant.1
