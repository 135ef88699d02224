use Rattle.std.proofs.Common.{◌≡◌, refl, sym, ◌∙◌, subst, length, ◌<◌, Some, Option}
use Rattle.grid_level.specs.VoltageLevel.{VoltageLevel}
use Rattle.grid_structure.specs.Sites.{levels, find_switch}
use Rattle.grid_screen.specs.Found.{is_breaker}
use Rattle.grid_screen.proofs.WalkSteps.{got_below}
use Rattle.grid_screen.proofs.Sitings.{switch_there, some_switch, no_switch}
use Rattle.grid_screen.proofs.amiss.is_breaker.Goals as goal

pub level-requires : goal.level-requires
level-requires c =
    let net = c.args.structure.now in
    let found = some_switch (find_switch net c.args.id.now) c.in-Some.at (sym c.in-Some.is ∙ c.find_switch.ensures) in
    let there = switch_there net c.args.id.now c.in-Some.at.level c.in-Some.at.place found in
    got_below (levels net) c.in-Some.at.level there.level there.there

pub switch-requires : goal.switch-requires
switch-requires c =
    let net = c.args.structure.now in
    let found = some_switch (find_switch net c.args.id.now) c.in-Some.at (sym c.in-Some.is ∙ c.find_switch.ensures) in
    let there = switch_there net c.args.id.now c.in-Some.at.level c.in-Some.at.place found in
    let one : ◌≡◌ {A = Option VoltageLevel} (Some there.level) (Some c.level.result.now) = sym there.there ∙ c.level.ensures in
    let same : there.level ≡ c.level.result.now = cc in
    subst (λ (z : VoltageLevel). c.in-Some.at.place < length z.switches) same there.inside

pub returns-in-Some : goal.returns-in-Some
unfolding is_breaker
returns-in-Some c =
    let net = c.args.structure.now in
    let found = some_switch (find_switch net c.args.id.now) c.in-Some.at (sym c.in-Some.is ∙ c.find_switch.ensures) in
    c.is_operable.ensures ∙ sym (rw (found, c.level.ensures, c.switch.ensures) refl)

pub returns-in-None : goal.returns-in-None
unfolding is_breaker
returns-in-None c =
    let net = c.args.structure.now in
    let found = no_switch (find_switch net c.args.id.now) (sym c.in-None.is ∙ c.find_switch.ensures) in
    sym (rw found refl)
