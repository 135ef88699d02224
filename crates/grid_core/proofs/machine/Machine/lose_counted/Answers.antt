use Rattle.std.proofs.Common.{refl, ap, ◌∙◌, ◌∷◌, []}
use Rattle.grid_structure.specs.declared.Edit.TheVariants.{RemoveEquipment}
use Rattle.grid_events.specs.declared.event.Event.TheVariants.{Removed}
use Rattle.grid_core.specs.declared.reply.Reply.TheVariants.{Done}
use Rattle.grid_core.specs.Replies.{edit_events}
use Rattle.grid_core.specs.Made.{made_of}
use Rattle.grid_core.proofs.MachineEdits.{all_room, level_rows, edit_made, loses_counted, counted_there, counted_level}
use Rattle.grid_core.proofs.machine.Machine.lose_counted.Goals as goal

pub lose_terminal-requires-clause-level : goal.lose_terminal-requires-clause-level
lose_terminal-requires-clause-level c = level_rows c.args.self.now c.args.at.level c.requires.held c.keeps.ensures (counted_level c.args.self.now.structure c.args.id.now c.args.at.level c.args.at.node c.args.at.counted c.requires.at)

pub lose_terminal-requires-clause-room : goal.lose_terminal-requires-clause-room
lose_terminal-requires-clause-room c = all_room c.args.self.now c.requires.held c.keeps.ensures

pub take_equipment-requires : goal.take_equipment-requires
take_equipment-requires c = counted_there c.args.self.now.structure c.args.id.now c.args.at.level c.args.at.node c.args.at.counted c.requires.at

pub returns-clause-made : goal.returns-clause-made
unfolding edit_events
returns-clause-made c =
    edit_made c.args.self.now _ c.args.worker (RemoveEquipment c.args.id.now) c.in_ok-made.made _ (loses_counted c.args.self.now.structure c.args.id.now c.args.at.level c.args.at.node c.args.at.counted c.keeps-2.ensures c.requires.at) c.take_equipment.ensures
    (c.in_ok-made.ensures ∙ ap (made_of Done) (c.in_ok-one_event.ensures ∙ ap (λ n. Removed n ∷ []) c.in_ok-copy.ensures)) refl c.in_ok-lose_terminal.ensures.ok
