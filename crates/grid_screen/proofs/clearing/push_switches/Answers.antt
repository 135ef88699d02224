use Rattle.std.proofs.Common.{sym, ap, ◌∙◌, ◌++◌, ◌∷◌, []}
use Rattle.std.specs.Prelude.{flat_map}
use Rattle.std.proofs.lemmas.List.{append-nil, take_all}
use Rattle.grid_screen.specs.Faults.{switch_ids}
use Rattle.grid_screen.proofs.Clearings.{flat_step}
use Rattle.grid_screen.proofs.Got.{got_or}
use Rattle.grid_screen.proofs.clearing.push_switches.Goals as goal

pub loop-at-init : goal.loop-at-init
loop-at-init c = sym (append-nil c.args.ids.now)

pub id_of-requires : goal.id_of-requires
id_of-requires c = c.requires c.loop-at.at-index _ (got_or c.args.switches.now c.loop-at.at-index _ c.loop-at-test.true)

pub loop-at-preserved : goal.loop-at-preserved
loop-at-preserved c =
    let is = c.in_ok-push.ensures.ok ∙ ap (λ z. c.loop-at.ids ++ z ∷ []) c.in_ok-copy.ensures ∙ ap (λ z. c.loop-at.ids ++ z) (sym c.id_of.ensures) in
    flat_step (switch_ids c.args.structure.now) c.args.switches.now c.loop-at.at-index _ c.args.ids.now c.loop-at.ids _ (got_or c.args.switches.now c.loop-at.at-index _ c.loop-at-test.true) c.loop-at.invariant is

pub returns : goal.returns
returns c = c.loop-at.invariant ∙ ap (λ z. c.args.ids.now ++ flat_map (switch_ids c.args.structure.now) z) (take_all c.loop-at.at-index c.args.switches.now c.loop-at-test.false)
