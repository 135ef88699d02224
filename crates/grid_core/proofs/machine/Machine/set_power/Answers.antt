use Rattle.std.proofs.Common.{refl, sym, ap, ◌∙◌, subst, ◌<◌, length, rules, to_z, of_z}
use Rattle.std.proofs.lemmas.Int.{to_z-of_z}
use Rattle.std.specs.Prelude.{IsTrue, ◌==◌}
use mir.Syntax.{w64}
use mir.Val.{SFits}
use Rattle.grid_structure.specs.Sites.{sides}
use Rattle.grid_states.specs.Rows.{Rows, pairs_at, shifted, with_watts}
use Rattle.grid_slots.specs.Variants.{changed}
use Rattle.grid_watts.specs.Ranges.{is_narrow}
use Rattle.grid_watts.specs.Nodes.{row_watts_at, change}
use Rattle.grid_requests.specs.declared.request.Request.TheVariants as requests
use Rattle.grid_core.proofs.MachineSteps.{each_ok, present_sound}
use Rattle.grid_core.proofs.RequestKinds.{of_variant}
use Rattle.grid_core.proofs.VariantSteps.{stands_slot, flagged, dead_made}
use Rattle.grid_core.specs.Kept.{SameFlags}
use Rattle.grid_core.proofs.RowMoves.{on_ok, watts_left}
use Rattle.grid_core.proofs.PowerRequests.{unpowered, level_in_rows, slot_room, set_nowhere, set_none, set_same, set_made, sides_there, sides_nowhere}
use Rattle.grid_core.proofs.machine.Machine.set_power.Goals as goal

pub returns-in-None-clause-made : goal.returns-in-None-clause-made
unfolding of_variant
returns-in-None-clause-made c = each_ok c.answer.result c.answer.ensures (λ made is. dead_made c.args.self.now c.args.worker c.args.variant.now (requests.SetPower c.args.id.now c.args.watts) made refl c.requires.works c.in-None.ensures is)

pub returns-then-is_none-clause-made : goal.returns-then-is_none-clause-made
returns-then-is_none-clause-made c =
    each_ok c.answer-then-is_none.result c.answer-then-is_none.ensures
    (λ made is. set_nowhere c.args.self.now c.args.worker c.in-Some.slot c.args.variant.now c.requires.works c.in-Some.ensures c.args.id.now c.args.watts made
    (sides_nowhere (sides c.args.self.now.structure c.args.id.now) (search (rules))) is)

pub returns-in-None-powered_at-clause-made : goal.returns-in-None-powered_at-clause-made
returns-in-None-powered_at-clause-made c =
    let count = sides_there (sides c.args.self.now.structure c.args.id.now) (search (rules)) in
    each_ok c.answer-in-None-powered_at.result c.answer-in-None-powered_at.ensures
    (λ made is. set_none c.args.self.now c.args.worker c.in-Some.slot c.args.variant.now c.requires.works c.in-Some.ensures c.args.id.now c.args.watts count.0 count.1 made (unpowered c.args.self.now.structure c.args.id.now (present_sound c.requires.held.0 c.requires.held.1.0 c.args.self.now c.requires.held.1.1) (sym c.in-None-powered_at.ensures.found)) is)

pub states-requires : goal.states-requires
states-requires c = stands_slot c.args.self.now c.args.variant.now c.in-Some.slot c.in-Some.ensures

pub watts_in-former-requires : goal.watts_in-former-requires
watts_in-former-requires c =
    subst (λ (rows : Rows). c.in-Some-powered_at.found.0 < length rows.opened) (sym c.states.ensures)
    (level_in_rows c.args.self.now c.in-Some.slot c.in-Some-powered_at.found.0 (flagged c.args.self.now c.args.variant.now c.in-Some.slot c.requires.held c.in-Some.ensures) c.in-Some-powered_at.ensures.below)

pub returns-then-former-watts-clause-made : goal.returns-then-former-watts-clause-made
returns-then-former-watts-clause-made c =
    let count = sides_there (sides c.args.self.now.structure c.args.id.now) (search (rules)) in
    each_ok c.answer-then-former-watts.result c.answer-then-former-watts.ensures
    (λ made is. set_same c.args.self.now c.args.worker c.in-Some.slot c.args.variant.now c.requires.works c.in-Some.ensures c.args.id.now c.args.watts count.0 count.1 (present_sound c.requires.held.0 c.requires.held.1.0 c.args.self.now c.requires.held.1.1) c.in-Some-powered_at.found.0 c.in-Some-powered_at.found.1.now (sym c.in-Some-powered_at.ensures.found) c.watts_in-former.result (c.watts_in-former.ensures.watts ∙ ap (λ (rows : Rows). row_watts_at (pairs_at rows.watts c.in-Some-powered_at.found.0) c.in-Some-powered_at.found.1.now) c.states.ensures) made (search (rules)) is)

pub set_watts-requires-clause-slot : goal.set_watts-requires-clause-slot
set_watts-requires-clause-slot c = stands_slot c.args.self.now c.args.variant.now c.in-Some.slot c.in-Some.ensures

pub set_watts-requires-clause-level : goal.set_watts-requires-clause-level
set_watts-requires-clause-level c = level_in_rows c.args.self.now c.in-Some.slot c.in-Some-powered_at.found.0 (flagged c.args.self.now c.args.variant.now c.in-Some.slot c.requires.held c.in-Some.ensures) c.in-Some-powered_at.ensures.below

pub set_watts-requires-clause-room : goal.set_watts-requires-clause-room
set_watts-requires-clause-room c =
    slot_room c.args.self.now c.in-Some.slot (present_sound c.requires.held.0 c.requires.held.1.0 c.args.self.now c.requires.held.1.1) (flagged c.args.self.now c.args.variant.now c.in-Some.slot c.requires.held c.in-Some.ensures)

pub returns-clause-made : goal.returns-clause-made
returns-clause-made c =
    let count = sides_there (sides c.args.self.now.structure c.args.id.now) (search (rules)) in
    let wide = to_z-of_z w64 c.args.watts c.ranges.watts in
    let former_fits : SFits w64 c.watts_in-former.result = search rules in
    let stand = c.in-Some-powered_at.found.1.now.stand in
    set_made c.args.self.now c.args.worker c.in-Some.slot c.args.variant.now c.requires.works c.in-Some.ensures c.args.id.now c.args.watts count.0 count.1 (present_sound c.requires.held.0 c.requires.held.1.0 c.args.self.now c.requires.held.1.1) c.in-Some-powered_at.found.0 c.in-Some-powered_at.found.1.now (sym c.in-Some-powered_at.ensures.found) c.watts_in-former.result (c.watts_in-former.ensures.watts ∙ ap (λ (rows : Rows). row_watts_at (pairs_at rows.watts c.in-Some-powered_at.found.0) c.in-Some-powered_at.found.1.now) c.states.ensures) c.change_of-by.result c.set_watts.new.self c.in_ok-made.made c.keeps.ensures (search (rules))
    (subst (λ w. IsTrue (is_narrow w)) wide c.change_of-by.ensures.narrow) (c.change_of-by.ensures.change ∙ ap (λ w. change stand w (to_z w64 (of_z w64 c.args.watts))) (to_z-of_z w64 c.watts_in-former.result former_fits) ∙ ap (change stand c.watts_in-former.result) wide) c.in_ok-made.ensures
    (c.in_ok-set_watts.ensures.ok
    ∙ ap (λ w. changed (λ x. x.slot == c.in-Some.slot) (λ rows. shifted c.change_of-by.result (with_watts rows c.in-Some-powered_at.found.0 c.in-Some-powered_at.found.1.now.node w)) c.args.self.now.slots) wide)

pub returns-in-None-clause-flags : goal.returns-in-None-clause-flags
returns-in-None-clause-flags c = on_ok c.answer.result (λ slot. refl)

pub returns-then-is_none-clause-flags : goal.returns-then-is_none-clause-flags
returns-then-is_none-clause-flags c = on_ok c.answer-then-is_none.result (λ slot. refl)

pub returns-in-None-powered_at-clause-flags : goal.returns-in-None-powered_at-clause-flags
returns-in-None-powered_at-clause-flags c = on_ok c.answer-in-None-powered_at.result (λ slot. refl)

pub returns-then-former-watts-clause-flags : goal.returns-then-former-watts-clause-flags
returns-then-former-watts-clause-flags c = on_ok c.answer-then-former-watts.result (λ slot. refl)

pub returns-clause-flags : goal.returns-clause-flags
returns-clause-flags c =
    subst (SameFlags c.args.self.now.slots) (sym c.in_ok-set_watts.ensures.ok) (watts_left c.in-Some.slot c.in-Some-powered_at.found.0 c.in-Some-powered_at.found.1.now.node (to_z w64 (of_z w64 c.args.watts)) c.change_of-by.result c.args.self.now.slots)
