use Rattle.std.proofs.Common.{refl, sym, ◌∙◌}
use Rattle.std.specs.Prelude.{codes}
use Rattle.grid_json.specs.Reading.{array_at, id_at}
use Rattle.grid_json.specs.Network.{line_at, substation_at}
use Rattle.grid_json.specs.Kept.{kept}
use Rattle.grid_json.specs.Slots.{NetworkHolds, network_names}
use Rattle.grid_json.proofs.MemberSlots.{offered}
use Rattle.grid_json.proofs.slots.NetworkSlotsSlots.take.Goals as goal

pub returns-then-is_named : goal.returns-then-is_named
returns-then-is_named c =
    let name = codes "id" in
    let went = c.fill in
    offered id_at name network_names (NetworkHolds c.args.format)
    c.args.name.now c.args.depth c.args.reader.now went.new.reader c.args.self.now _ went.new.slot went.result
    (λ d found held now. record {
      id = now;
      substations = kept name d held.substations refl;
      lines = kept name d held.lines refl;
    }) refl (sym c.is_named.ensures ∙ c.if-is_named.true) went.ensures

pub returns-then-is_named-2 : goal.returns-then-is_named-2
returns-then-is_named-2 c =
    let name = codes "substations" in
    let went = c.fill-then-is_named-2 in
    offered (array_at (substation_at c.args.format)) name network_names (NetworkHolds c.args.format)
    c.args.name.now c.args.depth c.args.reader.now went.new.reader c.args.self.now _ went.new.slot went.result
    (λ d found held now. record {
      id = kept name d held.id refl;
      substations = now;
      lines = kept name d held.lines refl;
    }) refl (sym c.is_named-else-is_named.ensures ∙ c.if-is_named-2.true) went.ensures

pub returns-then-is_named-3 : goal.returns-then-is_named-3
returns-then-is_named-3 c =
    let name = codes "lines" in
    let went = c.fill-then-is_named-3 in
    offered (array_at (line_at c.args.format)) name network_names (NetworkHolds c.args.format)
    c.args.name.now c.args.depth c.args.reader.now went.new.reader c.args.self.now _ went.new.slot went.result
    (λ d found held now. record {
      id = kept name d held.id refl;
      substations = kept name d held.substations refl;
      lines = now;
    }) refl (sym c.is_named-else-is_named-2.ensures ∙ c.if-is_named-3.true) went.ensures
