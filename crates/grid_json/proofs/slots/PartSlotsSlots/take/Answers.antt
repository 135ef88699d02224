use Rattle.std.proofs.Common.{refl, sym, ◌∙◌}
use Rattle.std.specs.Prelude.{codes}
use Rattle.grid_json.specs.Reading.{array_at}
use Rattle.grid_json.specs.Network.{busbar_at, injection_at, internal_at, switch_at}
use Rattle.grid_json.specs.Kept.{kept}
use Rattle.grid_json.specs.Slots.{PartHolds, part_names}
use Rattle.grid_json.proofs.MemberSlots.{offered}
use Rattle.grid_json.proofs.slots.PartSlotsSlots.take.Goals as goal

pub returns-then-is_named : goal.returns-then-is_named
returns-then-is_named c =
    let name = codes "busbars" in
    let went = c.fill in
    offered (array_at busbar_at) name part_names (PartHolds c.args.format)
    c.args.name.now c.args.depth c.args.reader.now went.new.reader c.args.self.now _ went.new.slot went.result
    (λ d found held now. record {
      busbars = now;
      switches = kept name d held.switches refl;
      internals = kept name d held.internals refl;
      injections = kept name d held.injections refl;
    }) refl (sym c.is_named.ensures ∙ c.if-is_named.true) went.ensures

pub returns-then-is_named-2 : goal.returns-then-is_named-2
returns-then-is_named-2 c =
    let name = codes "switches" in
    let went = c.fill-then-is_named-2 in
    offered (array_at (switch_at c.args.format)) name part_names (PartHolds c.args.format)
    c.args.name.now c.args.depth c.args.reader.now went.new.reader c.args.self.now _ went.new.slot went.result
    (λ d found held now. record {
      busbars = kept name d held.busbars refl;
      switches = now;
      internals = kept name d held.internals refl;
      injections = kept name d held.injections refl;
    }) refl (sym c.is_named-else-is_named.ensures ∙ c.if-is_named-2.true) went.ensures

pub returns-then-is_named-3 : goal.returns-then-is_named-3
returns-then-is_named-3 c =
    let name = codes "internal" in
    let went = c.fill-then-is_named-3 in
    offered (array_at internal_at) name part_names (PartHolds c.args.format)
    c.args.name.now c.args.depth c.args.reader.now went.new.reader c.args.self.now _ went.new.slot went.result
    (λ d found held now. record {
      busbars = kept name d held.busbars refl;
      switches = kept name d held.switches refl;
      internals = now;
      injections = kept name d held.injections refl;
    }) refl (sym c.is_named-else-is_named-2.ensures ∙ c.if-is_named-3.true) went.ensures

pub returns-then-is_named-4 : goal.returns-then-is_named-4
returns-then-is_named-4 c =
    let name = codes "injections" in
    let went = c.fill-then-is_named-4 in
    offered (array_at (injection_at c.args.format)) name part_names (PartHolds c.args.format)
    c.args.name.now c.args.depth c.args.reader.now went.new.reader c.args.self.now _ went.new.slot went.result
    (λ d found held now. record {
      busbars = kept name d held.busbars refl;
      switches = kept name d held.switches refl;
      internals = kept name d held.internals refl;
      injections = now;
    }) refl (sym c.is_named-else-is_named-3.ensures ∙ c.if-is_named-4.true) went.ensures
