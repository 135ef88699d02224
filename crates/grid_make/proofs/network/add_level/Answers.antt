use Rattle.std.proofs.Common.{◌≡◌, ℕ, Ok, IsOk, List, ◌∷◌, ◌++◌, ap, ◌∙◌}
use Rattle.grid_ids.specs.Refusing.{◌>>=◌}
use Rattle.grid_structure.specs.declared.Edit.{Edit}
use Rattle.grid_structure.specs.Network.{Network}
use Rattle.grid_structure.specs.Editing.{apply}
use Rattle.grid_make.specs.Draws.{next, later, in_turn}
use Rattle.grid_make.specs.MadeNetwork.{busbar_edits, coupler_edit, feeder_edits, level_edits, unrefused}
use Rattle.grid_make.proofs.Turns.{and_then, head_accepted, tail_accepted, front_accepted, rest_accepted}
use Rattle.grid_make.proofs.network.add_level.Goals as goal

-- the coupler's edit and those of the feeders
abbrev inner_edits : ℕ → ℕ → List Edit
inner_edits level before = coupler_edit level before ∷ in_turn (feeder_edits level) next 0 4 (next before)

-- they are accepted once the busbar sections stand
inner_accepted : (size level before : ℕ) (net placed : Network) → unrefused (busbar_edits level) net ≡ Ok placed → IsOk (unrefused (level_edits size level before) net) → IsOk (unrefused (inner_edits level before) placed)
unfolding level_edits
inner_accepted size level before net placed first h = rest_accepted (busbar_edits level) (inner_edits level before) net placed first (front_accepted _ _ _ (front_accepted _ _ _ h))

-- what stands without the outlets
fed : (level before draw : ℕ) (edit : Edit) (net placed coupled after : Network) → unrefused (busbar_edits level) net ≡ Ok placed → edit ≡ coupler_edit level before → apply placed edit ≡ Ok coupled → draw ≡ next before
    → unrefused (in_turn (feeder_edits level) next 0 4 draw) coupled ≡ Ok after → unrefused (busbar_edits level ++ inner_edits level before) net ≡ Ok after
unfolding unrefused
fed level before draw edit net placed coupled after busbars is one drawn feeders =
    let rest = in_turn (feeder_edits level) next 0 4 (next before) in
    let coupler : apply placed (coupler_edit level before) ≡ Ok coupled = rw is at one in
    let others : unrefused rest coupled ≡ Ok after = rw drawn at feeders in
    and_then _ _ _ _ _ busbars (ap (λ answer. answer >>= unrefused rest) coupler ∙ others)

pub add_busbars-requires : goal.add_busbars-requires
unfolding level_edits
add_busbars-requires c = front_accepted _ _ _ (front_accepted _ _ _ (front_accepted _ _ _ c.requires.accepted))

pub change-requires : goal.change-requires
change-requires c = rw c.in_ok-coupler.ensures.edit (head_accepted _ _ _ (inner_accepted c.args.size c.args.level c.args.draws.now c.args.structure.now c.add_busbars.new.structure c.in_ok-add_busbars.ensures c.requires.accepted))

pub add_feeders-requires : goal.add_feeders-requires
add_feeders-requires c =
    let coupled : apply c.add_busbars.new.structure (coupler_edit c.args.level c.args.draws.now) ≡ Ok c.change.new.structure = rw c.in_ok-coupler.ensures.edit at c.in_ok-change.ensures in
    rw c.coupler.ensures.draws (tail_accepted _ _ _ _ coupled (inner_accepted c.args.size c.args.level c.args.draws.now c.args.structure.now c.add_busbars.new.structure c.in_ok-add_busbars.ensures c.requires.accepted))

pub add_outlet-requires : goal.add_outlet-requires
unfolding level_edits
add_outlet-requires c =
    rest_accepted _ _ _ _ (fed c.args.level c.args.draws.now _ _ _ _ _ _ c.in_ok-add_busbars.ensures c.in_ok-coupler.ensures.edit c.in_ok-change.ensures c.coupler.ensures.draws c.in_ok-add_feeders.ensures.edits) (front_accepted _ _ _ c.requires.accepted)

pub add_outlet-requires-2 : goal.add_outlet-requires-2
unfolding level_edits
add_outlet-requires-2 c =
    let inner = fed c.args.level c.args.draws.now _ _ _ _ _ _ c.in_ok-add_busbars.ensures c.in_ok-coupler.ensures.edit c.in_ok-change.ensures c.coupler.ensures.draws c.in_ok-add_feeders.ensures.edits in
    rest_accepted _ _ _ _ (and_then _ _ _ _ _ inner c.in_ok-add_outlet.ensures) c.requires.accepted

pub returns-clause-edits : goal.returns-clause-edits
unfolding level_edits
returns-clause-edits c =
    let inner = fed c.args.level c.args.draws.now _ _ _ _ _ _ c.in_ok-add_busbars.ensures c.in_ok-coupler.ensures.edit c.in_ok-change.ensures c.coupler.ensures.draws c.in_ok-add_feeders.ensures.edits in
    and_then _ _ _ _ _ (and_then _ _ _ _ _ inner c.in_ok-add_outlet.ensures) c.in_ok-add_outlet-2.ensures

pub returns-clause-draws : goal.returns-clause-draws
unfolding later
returns-clause-draws c = c.in_ok-add_feeders.ensures.draws ∙ ap (later 4) c.coupler.ensures.draws
