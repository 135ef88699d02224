use Rattle.std.specs.Prelude.{IfSome, IsTrue}
use Rattle.std.proofs.Common.{◌≡◌, sym, ap, ◌∙◌, subst, rules}
use Rattle.std.proofs.lemmas.Int.{to_z-of_z}
use mir.Syntax.{w64}
use Rattle.grid_lemmas.proofs.Options.{some_is}
use Rattle.grid_level.specs.VoltageLevel.{VoltageLevel}
use Rattle.grid_level.specs.Kept.{among}
use Rattle.grid_level.specs.Passing.{nodes}
use Rattle.grid_core.specs.Kept.{IsKeptLevel}
use Rattle.grid_core.specs.Solo.{state_seen, site_of_side, level_at}
use Rattle.grid_core.proofs.VariantViews.{fits_at}
use Rattle.grid_core.proofs.MachineSteps.{each_ok}
use Rattle.grid_core.proofs.EquipmentSides.{side_node}
use Rattle.grid_core.proofs.FoundVerdicts.{no_site_is, operate_is}
use Rattle.grid_core.proofs.planning.operate_found.Goals as goal
use Rattle.grid_core.proofs.planning.operate_found.Goals.{In-Some}

-- the level that is kept, which is the one that was found
kept_is : (c : In-Some) → IsKeptLevel c.args.structure.now c.args.states.now c.in-Ok.at.level c.keep.new.self.bench c.in-Some.level
kept_is c = subst (λ o. IfSome o (IsKeptLevel c.args.structure.now c.args.states.now c.in-Ok.at.level c.keep.new.self.bench)) c.in-Some.is c.in_ok-level.ensures.kept

same_level : (c : In-Some) → c.level-found.result.now ≡ c.in-Some.level
same_level c = some_is {X = VoltageLevel} c.level-found.result.now c.in-Some.level (sym c.level-found.ensures ∙ (kept_is c).there)

pub returns-in-Err-clause-found : goal.returns-in-Err-clause-found
returns-in-Err-clause-found c retained powers =
    no_site_is (state_seen c.args.structure.now c.args.states.now.opened retained powers) c.args.operated.id.now c.args.operated.side c.args.operated.opening c.in-Err.refusal
    (ap (λ z. site_of_side c.args.structure.now c.args.operated.id.now z) (sym (to_z-of_z w64 c.args.operated.side (search rules))) ∙ c.in-Err.ensures.site)

pub plan_kept-requires-clause-below : goal.plan_kept-requires-clause-below
plan_kept-requires-clause-below c = (fits_at c.args.structure.now c.args.states.now.opened c.in-Ok.at.level c.level-found.result.now c.requires.opened c.level-found.ensures).0

pub plan_kept-requires-clause-opened : goal.plan_kept-requires-clause-opened
plan_kept-requires-clause-opened c =
    (fits_at c.args.structure.now c.args.states.now.opened c.in-Ok.at.level c.in-Some.level c.requires.opened (kept_is (goal.at.plan_kept-requires-clause-opened c).In-Some).there).1

pub plan_kept-requires-clause-retained : goal.plan_kept-requires-clause-retained
plan_kept-requires-clause-retained c =
    (fits_at c.args.structure.now c.args.states.now.retained c.in-Ok.at.level c.in-Some.level c.requires.retained (kept_is (goal.at.plan_kept-requires-clause-retained c).In-Some).there).1

pub plan_kept-requires-clause-kept : goal.plan_kept-requires-clause-kept
plan_kept-requires-clause-kept c = (kept_is (goal.at.plan_kept-requires-clause-kept c).In-Some).kept

pub plan_kept-requires-clause-node : goal.plan_kept-requires-clause-node
plan_kept-requires-clause-node c =
    subst (λ (l : VoltageLevel). IsTrue (among (nodes l) c.in-Ok.at.node)) (same_level (goal.at.plan_kept-requires-clause-node c).In-Some)
    (side_node c.args.structure.now c.args.operated.id.now c.args.operated.side c.in-Ok.at.level c.in-Ok.at.node c.level-found.result.now
    (ap (λ z. site_of_side c.args.structure.now c.args.operated.id.now z) (sym (to_z-of_z w64 c.args.operated.side (search rules))) ∙ c.in-Ok.ensures.site) c.level-found.ensures c.keeps.ensures)

pub plan_anew-requires-clause-below : goal.plan_anew-requires-clause-below
plan_anew-requires-clause-below c = (fits_at c.args.structure.now c.args.states.now.opened c.in-Ok.at.level c.level-found.result.now c.requires.opened c.level-found.ensures).0

pub plan_anew-requires-clause-opened : goal.plan_anew-requires-clause-opened
plan_anew-requires-clause-opened c = (fits_at c.args.structure.now c.args.states.now.opened c.in-Ok.at.level c.level-found.result.now c.requires.opened c.level-found.ensures).1

pub plan_anew-requires-clause-node : goal.plan_anew-requires-clause-node
plan_anew-requires-clause-node c =
    side_node c.args.structure.now c.args.operated.id.now c.args.operated.side c.in-Ok.at.level c.in-Ok.at.node c.level-found.result.now
    (ap (λ z. site_of_side c.args.structure.now c.args.operated.id.now z) (sym (to_z-of_z w64 c.args.operated.side (search rules))) ∙ c.in-Ok.ensures.site) c.level-found.ensures c.keeps.ensures

pub returns-in-Some-clause-found : goal.returns-in-Some-clause-found
unfolding level_at
returns-in-Some-clause-found c =
    each_ok c.plan_kept.result c.plan_kept.ensures
    (λ verdict is retained powers.
    operate_is (state_seen c.args.structure.now c.args.states.now.opened retained powers) c.args.operated.id.now c.args.operated.side (c.in-Ok.at.level, c.in-Ok.at.node) c.in-Some.level c.requires.opened
    (ap (λ z. site_of_side c.args.structure.now c.args.operated.id.now z) (sym (to_z-of_z w64 c.args.operated.side (search rules))) ∙ c.in-Ok.ensures.site) (kept_is (goal.at.returns-in-Some-clause-found c).In-Some).there c.args.operated.opening verdict is)

pub returns-in-None-clause-found : goal.returns-in-None-clause-found
unfolding level_at
returns-in-None-clause-found c =
    each_ok c.plan_anew.result c.plan_anew.ensures
    (λ verdict is retained powers.
    operate_is (state_seen c.args.structure.now c.args.states.now.opened retained powers) c.args.operated.id.now c.args.operated.side (c.in-Ok.at.level, c.in-Ok.at.node) c.level-found.result.now c.requires.opened
    (ap (λ z. site_of_side c.args.structure.now c.args.operated.id.now z) (sym (to_z-of_z w64 c.args.operated.side (search rules))) ∙ c.in-Ok.ensures.site) c.level-found.ensures c.args.operated.opening verdict is)
