use Rattle.std.proofs.Common.{refl, sym, ◌∙◌}
use Rattle.std.specs.Prelude.{codes}
use Rattle.grid_json.specs.Reading.{flag_at}
use Rattle.grid_json.specs.Kept.{kept}
use Rattle.grid_json.specs.Slots.{FlagHolds, flag_names}
use Rattle.grid_json.proofs.MemberSlots.{offered}
use Rattle.grid_json.proofs.slots.FlagSlotsSlots.take.Goals as goal

pub returns-then-is_named : goal.returns-then-is_named
returns-then-is_named c =
    let name = codes "open" in
    let went = c.fill in
    offered flag_at name flag_names (FlagHolds c.args.format)
    c.args.name.now c.args.depth c.args.reader.now went.new.reader c.args.self.now _ went.new.slot went.result
    (λ d found held now. record {
      opened = now;
      retained = kept name d held.retained refl;
      fictitious = kept name d held.fictitious refl;
    }) refl (sym c.is_named.ensures ∙ c.if-is_named.true) went.ensures

pub returns-then-is_named-2 : goal.returns-then-is_named-2
returns-then-is_named-2 c =
    let name = codes "retained" in
    let went = c.fill-then-is_named-2 in
    offered flag_at name flag_names (FlagHolds c.args.format)
    c.args.name.now c.args.depth c.args.reader.now went.new.reader c.args.self.now _ went.new.slot went.result
    (λ d found held now. record {
      opened = kept name d held.opened refl;
      retained = now;
      fictitious = kept name d held.fictitious refl;
    }) refl (sym c.is_named-else-is_named.ensures ∙ c.if-is_named-2.true) went.ensures

pub returns-then-is_named-3 : goal.returns-then-is_named-3
returns-then-is_named-3 c =
    let name = codes "fictitious" in
    let went = c.fill-then-is_named-3 in
    offered flag_at name flag_names (FlagHolds c.args.format)
    c.args.name.now c.args.depth c.args.reader.now went.new.reader c.args.self.now _ went.new.slot went.result
    (λ d found held now. record {
      opened = kept name d held.opened refl;
      retained = kept name d held.retained refl;
      fictitious = now;
    }) refl (sym c.is_named-else-is_named-2.ensures ∙ c.if-is_named-3.true) went.ensures
