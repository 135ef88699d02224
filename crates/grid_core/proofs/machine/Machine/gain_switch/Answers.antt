use Rattle.std.proofs.Common.{refl, ap, ◌∙◌}
use Rattle.grid_lemmas.proofs.Results.{on_err}
use Rattle.grid_core.specs.declared.reply.Reply.TheVariants.{Done}
use Rattle.grid_core.specs.Made.{made_of}
use Rattle.grid_core.proofs.MachineSteps.{each_ok}
use Rattle.grid_core.proofs.MachineEdits.{level_rows, edit_made, edit_refused}
use Rattle.grid_core.proofs.Removals.{switch_added, switch_undone}
use Rattle.grid_core.proofs.machine.Machine.gain_switch.Goals as goal

pub gain_switch-requires : goal.gain_switch-requires
gain_switch-requires c = level_rows c.args.self.now c.args.added.place c.requires.held c.keeps.ensures c.requires.place

pub returns-in-Err-clause-made : goal.returns-in-Err-clause-made
returns-in-Err-clause-made c =
    each_ok c.refuse_edit.result c.refuse_edit.ensures
    (λ made is. edit_refused c.args.self.now _ c.args.worker c.args.edit.now c.in-Err.fault made (c.in-Err.ensures.same, refl, refl) c.in-Err.ensures.refused is)

pub returns-in-Err-clause-same : goal.returns-in-Err-clause-same
returns-in-Err-clause-same c = on_err c.refuse_edit.result (c.in-Err.ensures.same, refl, refl)

pub returns-in-Ok-gain_switch-clause-made : goal.returns-in-Ok-gain_switch-clause-made
returns-in-Ok-gain_switch-clause-made c =
    edit_made c.args.self.now _ c.args.worker c.args.edit.now c.in_ok-made.made _ c.requires.rows c.in-Ok.ensures.done (c.in_ok-made.ensures ∙ ap (made_of Done) c.in_ok-events_of_edit.ensures) refl c.in-Ok-gain_switch.ensures.ok

pub take_out-requires : goal.take_out-requires
take_out-requires c = switch_added c.args.self.now.structure c.apply.new.self c.args.edit.now c.args.added.id.now c.args.added.opened c.args.added.retained c.requires.adds c.keeps-2.ensures c.in-Ok.ensures.done

pub returns-in-Err-gain_switch-clause-same : goal.returns-in-Err-gain_switch-clause-same
returns-in-Err-gain_switch-clause-same c = (
  switch_undone c.args.self.now.structure c.apply.new.self c.args.edit.now c.args.added.id.now c.args.added.opened c.args.added.retained c.requires.adds c.keeps-2.ensures c.in-Ok.ensures.done c.take_out.new.structure c.take_out.ensures,
  c.in-Err-gain_switch.ensures.err,
  refl,
)
