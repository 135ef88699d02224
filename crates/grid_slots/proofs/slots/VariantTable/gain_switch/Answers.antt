use Rattle.grid_states.specs.Rows.{with_switch}
use Rattle.grid_slots.specs.declared.changes.Change.TheVariants.{GainSwitch}
use Rattle.grid_slots.specs.Changes.{Fits}
use Rattle.grid_slots.proofs.TableEdits.{on_ok}
use Rattle.grid_slots.proofs.VariantLists.{all_shown, changed_shown, rows_beside, as_many}
use Rattle.grid_slots.proofs.slots.VariantTable.gain_switch.Goals as goal

pub change_all-requires : goal.change_all-requires
change_all-requires c = all_shown c.self.inside.variants.items c.self.inside.kept c.args.self.now c.self.view_is
    c.self.invariant.1 (Fits (GainSwitch c.args.level c.args.opened c.args.retained)) (c.requires)

pub invariant_of-self : goal.invariant_of-self
invariant_of-self c =
    rows_beside c.self.inside.variants.items c.self.inside.kept c.change_all.new.self c.self.invariant.1
    c.self.invariant.0
    (as_many c.change_all.result (λ rows. with_switch rows c.args.level c.args.opened c.args.retained)
    c.self.inside.kept c.change_all.new.self c.change_all.ensures.ok c.change_all.ensures.err)

pub returns-clause-ok : goal.returns-clause-ok
returns-clause-ok c =
    on_ok c.change_all.result (λ made. changed_shown c.self.inside.variants.items c.self.inside.kept c.args.self.now
    c.self.view_is c.self.invariant.1 (λ rows. with_switch rows c.args.level c.args.opened c.args.retained)
    c.change_all.new.self made) c.change_all.ensures.ok
