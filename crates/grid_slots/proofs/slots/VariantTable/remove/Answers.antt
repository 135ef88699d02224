use Rattle.std.proofs.Common.{refl, sym, ap, ◌∙◌, true, false, Some}
use Rattle.grid_ids.specs.Name.{same_id}
use Rattle.grid_slots.specs.Names.{initial_state}
use Rattle.grid_slots.specs.Answers.{remove_fault}
use Rattle.grid_slots.specs.Variants.{names}
use Rattle.grid_slots.proofs.Order.{same_back}
use Rattle.grid_slots.proofs.TableEdits.{slot_at, live_at, live_gap, remove_at, removed_names}
use Rattle.grid_slots.proofs.slots.VariantTable.remove.Goals as goal

pub returns-then-eq-clause-refused : goal.returns-then-eq-clause-refused
unfolding remove_fault
returns-then-eq-clause-refused c =
    let initial = same_back c.args.name.now initial_state true (sym (ap (λ m. same_id m initial_state) c.text.ensures.text) ∙ sym c.eq.ensures ∙ c.if-eq.true) in
    rw initial refl

pub returns-in-Ok-clause-slot : goal.returns-in-Ok-clause-slot
returns-in-Ok-clause-slot c =
    slot_at c.args.self.now c.search.ensures.rise c.args.name.now c.in-Ok.place c.in-Ok.ensures.found ∙ ap (λ s. Some s) (sym c.take_out.ensures.slot)

pub returns-in-Ok-clause-rest : goal.returns-in-Ok-clause-rest
returns-in-Ok-clause-rest c = c.take_out.ensures.rest ∙ remove_at c.args.self.now c.search.ensures.rise c.args.name.now c.in-Ok.place c.in-Ok.ensures.found

pub returns-in-Ok-clause-names : goal.returns-in-Ok-clause-names
returns-in-Ok-clause-names c = ap names c.take_out.ensures.rest ∙ removed_names c.args.self.now c.search.ensures.rise c.args.name.now c.in-Ok.place c.in-Ok.ensures.found

pub returns-in-Ok-clause-accepted : goal.returns-in-Ok-clause-accepted
unfolding remove_fault
returns-in-Ok-clause-accepted c =
    let live = live_at c.args.self.now c.search.ensures.rise c.args.name.now c.in-Ok.place c.in-Ok.ensures.found in
    let other = same_back c.args.name.now initial_state false (sym (ap (λ m. same_id m initial_state) c.text.ensures.text) ∙ sym c.eq.ensures ∙ c.if-eq.false) in
    rw (other, live) refl

pub returns-in-Err-clause-refused : goal.returns-in-Err-clause-refused
unfolding remove_fault
returns-in-Err-clause-refused c =
    let live = live_gap c.args.self.now c.args.name.now c.in-Err.field-0 c.in-Err.ensures.absent in
    let other = same_back c.args.name.now initial_state false (sym (ap (λ m. same_id m initial_state) c.text.ensures.text) ∙ sym c.eq.ensures ∙ c.if-eq.false) in
    rw (other, live) refl
