use Rattle.std.proofs.Common.{◌≡◌, sym, ◌∙◌, ap, Option, Some, None, cond, ℕ, List, rules}
use Rattle.std.specs.Str.{bytes_eq}
use Rattle.std.specs.HashMap.{HashMap, get}
use Rattle.grid_structure.specs.declared.structure.IdOwner.{IdOwner}
use Rattle.grid_structure.specs.Table.{entry_at, slot_at}
use Rattle.grid_structure.proofs.Entries.{changed, undone, kept_there}
use Rattle.grid_structure.proofs.table.claim_slot.Goals as goal

slot_got : {S : Type 0} (slots : HashMap (List ℕ) IdOwner S) (id : List ℕ) (found : Option IdOwner) → get bytes_eq slots id ≡ found → slot_at slots id ≡ found
unfolding slot_at entry_at
slot_got slots id found e = e

pub returns-in-Ok-Vacant-clause-put : goal.returns-in-Ok-Vacant-clause-put
returns-in-Ok-Vacant-clause-put c _ q =
    changed c.in_ok-name.name c.args.slots.now _ (Some c.new.result) (search rules) q
    ∙ ap (λ z. cond (bytes_eq z q) (Some c.new.result) (slot_at c.args.slots.now q)) c.in_ok-name.ensures
    ∙ ap (λ z. cond (bytes_eq c.args.id.now q) (Some z) (slot_at c.args.slots.now q)) c.new.ensures

pub returns-in-Ok-Vacant-clause-undone : goal.returns-in-Ok-Vacant-clause-undone
returns-in-Ok-Vacant-clause-undone c _ q =
    let none : slot_at c.args.slots.now c.in_ok-name.name ≡ None = slot_got c.args.slots.now c.in_ok-name.name None (search rules) in
    undone c.args.id.now q (slot_at c.args.slots.now) _ c.args.entry (ap (slot_at c.args.slots.now) (sym c.in_ok-name.ensures) ∙ none)
    (changed c.in_ok-name.name c.args.slots.now _ (Some c.new.result) (search rules) q
    ∙ ap (λ z. cond (bytes_eq z q) (Some c.new.result) (slot_at c.args.slots.now q)) c.in_ok-name.ensures
    ∙ ap (λ z. cond (bytes_eq c.args.id.now q) (Some z) (slot_at c.args.slots.now q)) c.new.ensures)

pub returns-in-Ok-Occupied-clause-kept : goal.returns-in-Ok-Occupied-clause-kept
returns-in-Ok-Occupied-clause-kept c _ q =
    let had : slot_at c.args.slots.now c.in_ok-name.name ≡ Some c.into_mut.result.now = slot_got c.args.slots.now c.in_ok-name.name (Some c.into_mut.result.now) (search rules) in
    kept_there c.in_ok-name.name q (slot_at c.args.slots.now) _ c.into_mut.result.now had (changed c.in_ok-name.name c.args.slots.now _ (Some c.into_mut.result.now) (search rules) q)
