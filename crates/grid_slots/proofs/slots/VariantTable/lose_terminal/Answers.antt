use Rattle.std.proofs.Common.{◌≡◌, ◌<◌, sym, ap, ◌∙◌, length, false}
use Rattle.std.proofs.lemmas.List.{length-map}
use Rattle.grid_states.specs.Rows.{without_terminal, shifted, HasRoom}
use Rattle.grid_slots.specs.declared.changes.Change.TheVariants.{LoseTerminal}
use Rattle.grid_slots.specs.Changes.{Fits}
use Rattle.grid_slots.specs.Variants.{all_changed, any_lists}
use Rattle.grid_slots.proofs.VariantSums.{lose_none}
use Rattle.grid_slots.proofs.TableEdits.{on_ok}
use Rattle.grid_slots.proofs.VariantLists.{all_shown, changed_shown, rows_beside, as_many, lists_shown, on_err}
use Rattle.grid_slots.proofs.slots.VariantTable.lose_terminal.Goals as goal

pub any_lists-requires : goal.any_lists-requires
any_lists-requires c = all_shown c.self.inside.variants.items c.self.inside.kept c.args.self.now c.self.view_is
    c.self.invariant.1 (λ rows. c.args.level < length rows.opened) c.requires.level

pub shift_all-requires-clause-room : goal.shift_all-requires-clause-room
shift_all-requires-clause-room c = all_shown c.self.inside.variants.items c.self.inside.kept c.args.self.now
    c.self.view_is c.self.invariant.1 HasRoom c.requires.room

pub invariant_of-self : goal.invariant_of-self
invariant_of-self c =
    rows_beside c.self.inside.variants.items c.self.inside.kept c.shift_all.new.self c.self.invariant.1
    c.self.invariant.0
    (ap length c.shift_all.ensures ∙ length-map c.self.inside.kept (shifted c.loss.result))

pub returns-then-not-any_lists-clause-ok : goal.returns-then-not-any_lists-clause-ok
returns-then-not-any_lists-clause-ok c =
    let self = c.args.self.now in
    let none : any_lists self c.args.level c.args.node ≡ false = lists_shown c.self.inside.variants.items
    c.self.inside.kept c.args.self.now c.self.view_is c.self.invariant.1 c.args.level c.args.node
    ∙ sym c.any_lists.ensures ∙ c.if-not-any_lists.true in
    changed_shown c.self.inside.variants.items c.self.inside.kept c.args.self.now c.self.view_is c.self.invariant.1
    (shifted c.loss.result) c.shift_all.new.self c.shift_all.ensures
    ∙ ap (λ by. all_changed (shifted by) self) c.loss.ensures.shift
    ∙ lose_none self c.args.level c.args.node c.args.counted none

pub change_all-requires : goal.change_all-requires
change_all-requires c =
    all_shown c.self.inside.variants.items c.self.inside.kept c.args.self.now c.self.view_is c.self.invariant.1
    (Fits (LoseTerminal c.args.level c.args.node c.args.counted))
    (λ k d lt. (c.requires.level k d lt, c.requires.room k d lt))

pub invariant_of-self-2 : goal.invariant_of-self-2
invariant_of-self-2 c =
    rows_beside c.self.inside.variants.items c.self.inside.kept c.change_all.new.self c.self.invariant.1
    c.self.invariant.0
    (as_many c.change_all.result (λ rows. without_terminal rows c.args.level c.args.node c.args.counted)
    c.self.inside.kept c.change_all.new.self c.change_all.ensures.ok c.change_all.ensures.err)

pub returns-clause-ok : goal.returns-clause-ok
returns-clause-ok c =
    on_ok c.change_all.result
    (λ made. changed_shown c.self.inside.variants.items c.self.inside.kept c.args.self.now c.self.view_is
    c.self.invariant.1 (λ rows. without_terminal rows c.args.level c.args.node c.args.counted)
    c.change_all.new.self made)
    c.change_all.ensures.ok

pub returns-clause-wanted : goal.returns-clause-wanted
returns-clause-wanted c =
    on_err c.change_all.result (lists_shown c.self.inside.variants.items c.self.inside.kept c.args.self.now
    c.self.view_is c.self.invariant.1 c.args.level c.args.node ∙ sym c.any_lists.ensures ∙ c.if-not-any_lists.false)
