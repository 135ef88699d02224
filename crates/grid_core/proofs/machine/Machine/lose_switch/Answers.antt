use Rattle.std.proofs.Common.{refl, ap, ◌∙◌, ◌∷◌, []}
use Rattle.grid_structure.specs.declared.Edit.TheVariants.{RemoveSwitch}
use Rattle.grid_events.specs.declared.event.Event.TheVariants.{Removed}
use Rattle.grid_core.specs.declared.reply.Reply.TheVariants.{Done}
use Rattle.grid_core.specs.Replies.{edit_events}
use Rattle.grid_core.specs.Made.{made_of}
use Rattle.grid_core.proofs.MachineEdits.{switch_levels, switch_opened, switch_retained, edit_made, loses_switch}
use Rattle.grid_core.proofs.MachineSteps.{present_sound}
use Rattle.grid_core.proofs.Removals.{has_switch}
use Rattle.grid_core.proofs.machine.Machine.lose_switch.Goals as goal

pub lose_switch-requires-clause-level : goal.lose_switch-requires-clause-level
lose_switch-requires-clause-level c = switch_levels c.args.self.now c.args.id.now c.args.at.level c.args.at.place c.requires.held c.keeps.ensures c.requires.at

pub lose_switch-requires-clause-opened : goal.lose_switch-requires-clause-opened
lose_switch-requires-clause-opened c = switch_opened c.args.self.now c.args.id.now c.args.at.level c.args.at.place c.requires.held c.keeps.ensures c.requires.at

pub lose_switch-requires-clause-retained : goal.lose_switch-requires-clause-retained
lose_switch-requires-clause-retained c = switch_retained c.args.self.now c.args.id.now c.args.at.level c.args.at.place c.requires.held c.keeps.ensures c.requires.at

pub take_out-requires : goal.take_out-requires
take_out-requires c = has_switch c.args.self.now.structure c.args.id.now (c.args.at.level, c.args.at.place) c.requires.at

pub returns-clause-made : goal.returns-clause-made
unfolding edit_events
returns-clause-made c =
    edit_made c.args.self.now _ c.args.worker (RemoveSwitch c.args.id.now) c.in_ok-made.made _ (loses_switch c.args.self.now.structure c.args.id.now c.args.at.level c.args.at.place (present_sound c.requires.held.0 c.requires.held.1.0 c.args.self.now c.requires.held.1.1) c.requires.at) c.take_out.ensures
    (c.in_ok-made.ensures ∙ ap (made_of Done) (c.in_ok-one_event.ensures ∙ ap (λ n. Removed n ∷ []) c.in_ok-copy.ensures)) refl c.in_ok-lose_switch.ensures.ok
