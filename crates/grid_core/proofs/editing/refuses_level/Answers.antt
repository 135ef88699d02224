use Rattle.std.proofs.Common.{sym, ap, ◌∙◌, subst, rules, w64}
use Rattle.std.proofs.lemmas.Int.{to_z-of_z}
use Rattle.std.specs.Prelude.{nat_le}
use Rattle.grid_kinds.specs.Records.{level_fault, Tells}
use Rattle.grid_core.specs.Edits.{LeavesPresent}
use Rattle.grid_core.proofs.MachineEdits.{taken_level, faulty_level, level_beyond}
use Rattle.grid_core.proofs.editing.refuses_level.Goals as goal

pub returns-then-taken : goal.returns-then-taken
returns-then-taken c t =
    subst (λ edit. LeavesPresent c.args.structure.now edit) (sym c.in-AddLevel.is)
    (taken_level c.args.structure.now c.in-AddLevel.id c.in-AddLevel.substation c.in-AddLevel.nominal_v c.in-AddLevel.low_v c.in-AddLevel.high_v (sym c.taken.ensures ∙ c.if-taken.true))

pub returns-then-is_err : goal.returns-then-is_err
returns-then-is_err c t =
    let told : Tells (level_fault c.in-AddLevel.nominal_v c.in-AddLevel.low_v c.in-AddLevel.high_v) c.check_level.result =
    subst (λ v. Tells (level_fault v c.in-AddLevel.low_v c.in-AddLevel.high_v) c.check_level.result) (to_z-of_z w64 c.in-AddLevel.nominal_v (search rules)) c.check_level.ensures in
    subst (λ edit. LeavesPresent c.args.structure.now edit) (sym c.in-AddLevel.is)
    (faulty_level c.args.structure.now c.in-AddLevel.id c.in-AddLevel.substation c.in-AddLevel.nominal_v c.in-AddLevel.low_v c.in-AddLevel.high_v c.check_level.result told (sym c.is_err.ensures.value ∙ c.if-is_err.true))

pub returns-else-is_err : goal.returns-else-is_err
returns-else-is_err c many =
    subst (λ edit. LeavesPresent c.args.structure.now edit) (sym c.in-AddLevel.is)
    (level_beyond c.args.structure.now c.in-AddLevel.id c.in-AddLevel.substation c.in-AddLevel.nominal_v c.in-AddLevel.low_v c.in-AddLevel.high_v (ap (nat_le 10000) (sym c.level_count.ensures) ∙ many))
