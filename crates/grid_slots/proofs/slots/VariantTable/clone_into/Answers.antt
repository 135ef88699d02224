use Rattle.std.proofs.Common.{sym, ap, ◌∙◌, subst, arith}
use Rattle.std.specs.Prelude.{unwrap_or}
use Rattle.std.proofs.lemmas.Bool.{true≢false}
use Rattle.grid_slots.specs.declared.slots.SlotFault.TheVariants.{Memory}
use Rattle.grid_slots.specs.Variants.{names, is_live, changed}
use Rattle.grid_ids.specs.Name.{same_id}
use Rattle.grid_slots.specs.Places.{variant_at}
use Rattle.grid_slots.specs.Answers.{IsClone}
use Rattle.grid_slots.proofs.TableEdits.{live_at, live_gap, rows_at_name, slot_at, set_at, set_names, onto_itself}
use Rattle.grid_slots.proofs.CloneRefusals.{no_source, there, exists, too_many, room, made_clone, made_names}
use Rattle.grid_slots.proofs.VariantLists.{self_named}
use Rattle.grid_slots.proofs.slots.VariantTable.clone_into.Goals as goal

pub returns-in-Err-clause-refused : goal.returns-in-Err-clause-refused
returns-in-Err-clause-refused c =
    let from = live_gap c.args.self.now c.args.from.now c.in-Err.field-0 c.in-Err.ensures.absent in
    sym (ap (λ f. unwrap_or f Memory) (no_source c.args.self.now c.args.from.now c.args.to.now c.args.overwrite from))

pub returns-then-not-overwrite-clause-refused : goal.returns-then-not-overwrite-clause-refused
returns-then-not-overwrite-clause-refused c =
    let from = live_at c.args.self.now c.search.ensures.rise c.args.from.now c.in-Ok.source c.in-Ok.ensures.found in
    let to = live_at c.args.self.now c.search.ensures.rise c.args.to.now c.in-Ok-search.target c.in-Ok-search.ensures.found in
    sym (ap (λ f. unwrap_or f Memory) (exists c.args.self.now c.args.from.now c.args.to.now c.args.overwrite from to c.if-not-overwrite.true))

pub returns-then-len-ge-MOST_VARIANTS-clause-refused :
    goal.returns-then-len-ge-MOST_VARIANTS-clause-refused
returns-then-len-ge-MOST_VARIANTS-clause-refused c =
    let from = live_at c.args.self.now c.search.ensures.rise c.args.from.now c.in-Ok.source c.in-Ok.ensures.found in
    let to = live_gap c.args.self.now c.args.to.now c.in-Err-search.place c.in-Err-search.ensures.absent in
    let long = self_named c.self.inside.variants.items c.self.inside.kept c.args.self.now c.self.view_is c.self.invariant.1 in
    sym (ap (λ f. unwrap_or f Memory) (too_many c.args.self.now c.args.from.now c.args.to.now c.args.overwrite from to
    (omega (arith, long, c.len.ensures, c.self.inside.variants.ok.0, c.if-len-ge-MOST_VARIANTS.true))))

pub returns-else-not-overwrite-clause-cloned : goal.returns-else-not-overwrite-clause-cloned
returns-else-not-overwrite-clause-cloned c =
    let old = c.args.self.now in
    let rows = rows_at_name old c.search.ensures.rise c.args.from.now c.in-Ok.source c.in-Ok.ensures.found in
    let slot = slot_at old c.search.ensures.rise c.args.to.now c.in-Ok-search.target c.in-Ok-search.ensures.found in
    let set = set_at old c.search.ensures.rise c.args.to.now c.in-Ok-search.target c.in-Ok-search.ensures.found (variant_at old c.in-Ok.source).rows in
    subst (λ cloned. IsClone old c.overwrite.new.self c.args.from.now c.args.to.now cloned) (sym c.overwrite.ensures.slot)
    (slot, c.overwrite.ensures.rows ∙ set ∙ ap (λ r. changed (λ v. same_id c.args.to.now v.name) (λ _. r) old) (sym rows))

pub returns-else-not-overwrite-clause-itself : goal.returns-else-not-overwrite-clause-itself
returns-else-not-overwrite-clause-itself c same =
    c.overwrite.ensures.rows
    ∙ onto_itself c.args.self.now c.search.ensures.rise c.args.from.now c.args.to.now c.in-Ok.source c.in-Ok-search.target c.in-Ok.ensures.found c.in-Ok-search.ensures.found same

pub returns-in-Ok-create-clause-itself : goal.returns-in-Ok-create-clause-itself
returns-in-Ok-create-clause-itself c same =
    let from = live_at c.args.self.now c.search.ensures.rise c.args.from.now c.in-Ok.source c.in-Ok.ensures.found in
    let to = live_gap c.args.self.now c.args.to.now c.in-Err-search.place c.in-Err-search.ensures.absent in
    absurd (true≢false (sym from ∙ ap (is_live c.args.self.now) same ∙ to))

pub returns-else-not-overwrite-clause-names : goal.returns-else-not-overwrite-clause-names
returns-else-not-overwrite-clause-names c =
    let old = c.args.self.now in
    ap names c.overwrite.ensures.rows
    ∙ set_names old c.search.ensures.rise c.args.to.now c.in-Ok-search.target c.in-Ok-search.ensures.found (variant_at old c.in-Ok.source).rows

pub returns-else-not-overwrite-clause-accepted : goal.returns-else-not-overwrite-clause-accepted
returns-else-not-overwrite-clause-accepted c =
    let from = live_at c.args.self.now c.search.ensures.rise c.args.from.now c.in-Ok.source c.in-Ok.ensures.found in
    let to = live_at c.args.self.now c.search.ensures.rise c.args.to.now c.in-Ok-search.target c.in-Ok-search.ensures.found in
    there c.args.self.now c.args.from.now c.args.to.now c.args.overwrite from to c.if-not-overwrite.false

pub returns-in-Ok-create-clause-cloned : goal.returns-in-Ok-create-clause-cloned
returns-in-Ok-create-clause-cloned c =
    let old = c.args.self.now in
    made_clone old c.create.new.self c.args.from.now c.args.to.now (variant_at old c.in-Ok.source).rows c.in-Err-search.place c.in-Err-search.ensures.absent c.in-Ok-create.cloned
    (rows_at_name old c.search.ensures.rise c.args.from.now c.in-Ok.source c.in-Ok.ensures.found) c.in-Ok-create.ensures.ok

pub returns-in-Ok-create-clause-names : goal.returns-in-Ok-create-clause-names
returns-in-Ok-create-clause-names c =
    let old = c.args.self.now in
    made_names old c.create.new.self c.args.from.now c.args.to.now (variant_at old c.in-Ok.source).rows c.in-Err-search.place c.in-Err-search.ensures.absent c.in-Ok-create.cloned c.in-Ok-create.ensures.ok

pub returns-in-Ok-create-clause-accepted : goal.returns-in-Ok-create-clause-accepted
returns-in-Ok-create-clause-accepted c =
    let from = live_at c.args.self.now c.search.ensures.rise c.args.from.now c.in-Ok.source c.in-Ok.ensures.found in
    let to = live_gap c.args.self.now c.args.to.now c.in-Err-search.place c.in-Err-search.ensures.absent in
    let long = self_named c.self.inside.variants.items c.self.inside.kept c.args.self.now c.self.view_is c.self.invariant.1 in
    room c.args.self.now c.args.from.now c.args.to.now c.args.overwrite from to (omega (arith, long, c.len.ensures, c.self.inside.variants.ok.0, c.if-len-ge-MOST_VARIANTS.false))

pub returns-in-Err-create-clause-refused : goal.returns-in-Err-create-clause-refused
returns-in-Err-create-clause-refused c =
    let from = live_at c.args.self.now c.search.ensures.rise c.args.from.now c.in-Ok.source c.in-Ok.ensures.found in
    let to = live_gap c.args.self.now c.args.to.now c.in-Err-search.place c.in-Err-search.ensures.absent in
    let long = self_named c.self.inside.variants.items c.self.inside.kept c.args.self.now c.self.view_is c.self.invariant.1 in
    sym (ap (λ f. unwrap_or f Memory) (room c.args.self.now c.args.from.now c.args.to.now c.args.overwrite from to (omega (arith, long, c.len.ensures, c.self.inside.variants.ok.0, c.if-len-ge-MOST_VARIANTS.false))))

pub create-requires-clause-room : goal.create-requires-clause-room
create-requires-clause-room c =
    let long = self_named c.self.inside.variants.items c.self.inside.kept c.args.self.now c.self.view_is c.self.invariant.1 in
    omega (arith, long, c.len.ensures, c.self.inside.variants.ok.0, c.if-len-ge-MOST_VARIANTS.false)
