use Rattle.std.proofs.Common.{refl, sym, ◌∙◌}
use Rattle.std.specs.Prelude.{codes}
use Rattle.grid_json.specs.Reading.{id_at, whole_at}
use Rattle.grid_json.specs.Kept.{kept}
use Rattle.grid_json.specs.Slots.{VoltageHolds, voltage_names}
use Rattle.grid_json.proofs.MemberSlots.{offered}
use Rattle.grid_json.proofs.slots.VoltageSlotsSlots.take.Goals as goal

pub returns-then-is_named : goal.returns-then-is_named
returns-then-is_named c =
    let name = codes "id" in
    let went = c.fill in
    offered id_at name voltage_names (VoltageHolds c.args.format)
    c.args.name.now c.args.depth c.args.reader.now went.new.reader c.args.self.now _ went.new.slot went.result
    (λ d found held now. record {
      id = now;
      nominal_v = kept name d held.nominal_v refl;
      low_v = kept name d held.low_v refl;
      high_v = kept name d held.high_v refl;
    }) refl (sym c.is_named.ensures ∙ c.if-is_named.true) went.ensures

pub returns-then-is_named-2 : goal.returns-then-is_named-2
returns-then-is_named-2 c =
    let name = codes "nominal_v" in
    let went = c.fill-then-is_named-2 in
    offered whole_at name voltage_names (VoltageHolds c.args.format)
    c.args.name.now c.args.depth c.args.reader.now went.new.reader c.args.self.now _ went.new.slot went.result
    (λ d found held now. record {
      id = kept name d held.id refl;
      nominal_v = now;
      low_v = kept name d held.low_v refl;
      high_v = kept name d held.high_v refl;
    }) refl (sym c.is_named-else-is_named.ensures ∙ c.if-is_named-2.true) went.ensures

pub returns-then-is_named-3 : goal.returns-then-is_named-3
returns-then-is_named-3 c =
    let name = codes "low_v" in
    let went = c.fill-then-is_named-3 in
    offered whole_at name voltage_names (VoltageHolds c.args.format)
    c.args.name.now c.args.depth c.args.reader.now went.new.reader c.args.self.now _ went.new.slot went.result
    (λ d found held now. record {
      id = kept name d held.id refl;
      nominal_v = kept name d held.nominal_v refl;
      low_v = now;
      high_v = kept name d held.high_v refl;
    }) refl (sym c.is_named-else-is_named-2.ensures ∙ c.if-is_named-3.true) went.ensures

pub returns-then-is_named-4 : goal.returns-then-is_named-4
returns-then-is_named-4 c =
    let name = codes "high_v" in
    let went = c.fill-then-is_named-4 in
    offered whole_at name voltage_names (VoltageHolds c.args.format)
    c.args.name.now c.args.depth c.args.reader.now went.new.reader c.args.self.now _ went.new.slot went.result
    (λ d found held now. record {
      id = kept name d held.id refl;
      nominal_v = kept name d held.nominal_v refl;
      low_v = kept name d held.low_v refl;
      high_v = now;
    }) refl (sym c.is_named-else-is_named-3.ensures ∙ c.if-is_named-4.true) went.ensures
