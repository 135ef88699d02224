use Rattle.std.proofs.Common.{refl, ap, ◌∙◌}
use Rattle.grid_lemmas.proofs.Results.{on_err}
use Rattle.grid_level.specs.declared.Stand.TheVariants.{Feeder}
use Rattle.grid_states.specs.Rows.{shifted}
use Rattle.grid_slots.specs.Variants.{all_changed}
use Rattle.grid_watts.specs.Nodes.{gain}
use Rattle.grid_core.specs.declared.reply.Reply.TheVariants.{Done}
use Rattle.grid_core.specs.Made.{made_of}
use Rattle.grid_core.proofs.MachineSteps.{each_ok}
use Rattle.grid_core.proofs.MachineEdits.{all_room, edit_made, edit_refused, gains_injection}
use Rattle.grid_core.proofs.machine.Machine.gain_injection.Goals as goal

pub shift_all-requires-clause-room : goal.shift_all-requires-clause-room
shift_all-requires-clause-room c = all_room c.args.self.now c.requires.held c.keeps.ensures

pub returns-in-Ok-clause-made : goal.returns-in-Ok-clause-made
returns-in-Ok-clause-made c =
    edit_made c.args.self.now _ c.args.worker c.args.edit.now c.in_ok-made.made (shifted (gain (Feeder c.args.item)))
    (gains_injection c.args.self.now.structure c.args.edit.now c.args.id.now c.args.item c.keeps-2.ensures c.requires.brings c.gain_of-by.ensures.narrow) c.in-Ok.ensures.done
    (c.in_ok-made.ensures ∙ ap (made_of Done) c.in_ok-events_of_edit.ensures) refl (c.shift_all.ensures ∙ ap (λ by. all_changed (shifted by) c.args.self.now.slots) c.gain_of-by.ensures.gain)

pub returns-in-Err-clause-made : goal.returns-in-Err-clause-made
returns-in-Err-clause-made c =
    each_ok c.refuse_edit.result c.refuse_edit.ensures
    (λ made is. edit_refused c.args.self.now _ c.args.worker c.args.edit.now c.in-Err.fault made (c.in-Err.ensures.same, refl, refl) c.in-Err.ensures.refused is)

pub returns-in-Err-clause-same : goal.returns-in-Err-clause-same
returns-in-Err-clause-same c = on_err c.refuse_edit.result (c.in-Err.ensures.same, refl, refl)
