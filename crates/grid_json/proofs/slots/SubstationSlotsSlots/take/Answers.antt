use Rattle.std.proofs.Common.{refl, sym, ◌∙◌}
use Rattle.std.specs.Prelude.{codes}
use Rattle.grid_json.specs.Reading.{array_at, id_at}
use Rattle.grid_json.specs.Network.{any_level_at, transformer_at}
use Rattle.grid_json.specs.Kept.{kept}
use Rattle.grid_json.specs.Slots.{SubstationHolds, substation_names}
use Rattle.grid_json.proofs.MemberSlots.{offered}
use Rattle.grid_json.proofs.slots.SubstationSlotsSlots.take.Goals as goal

pub returns-then-is_named : goal.returns-then-is_named
returns-then-is_named c =
    let name = codes "id" in
    let went = c.fill in
    offered id_at name substation_names (SubstationHolds c.args.format)
    c.args.name.now c.args.depth c.args.reader.now went.new.reader c.args.self.now _ went.new.slot went.result
    (λ d found held now. record {
      id = now;
      levels = kept name d held.levels refl;
      transformers = kept name d held.transformers refl;
    }) refl (sym c.is_named.ensures ∙ c.if-is_named.true) went.ensures

pub returns-then-is_named-2 : goal.returns-then-is_named-2
returns-then-is_named-2 c =
    let name = codes "levels" in
    let went = c.fill-then-is_named-2 in
    offered (array_at (any_level_at c.args.format)) name substation_names (SubstationHolds c.args.format)
    c.args.name.now c.args.depth c.args.reader.now went.new.reader c.args.self.now _ went.new.slot went.result
    (λ d found held now. record {
      id = kept name d held.id refl;
      levels = now;
      transformers = kept name d held.transformers refl;
    }) refl (sym c.is_named-else-is_named.ensures ∙ c.if-is_named-2.true) went.ensures

pub returns-then-is_named-3 : goal.returns-then-is_named-3
returns-then-is_named-3 c =
    let name = codes "transformers" in
    let went = c.fill-then-is_named-3 in
    offered (array_at (transformer_at c.args.format)) name substation_names (SubstationHolds c.args.format)
    c.args.name.now c.args.depth c.args.reader.now went.new.reader c.args.self.now _ went.new.slot went.result
    (λ d found held now. record {
      id = kept name d held.id refl;
      levels = kept name d held.levels refl;
      transformers = now;
    }) refl (sym c.is_named-else-is_named-2.ensures ∙ c.if-is_named-3.true) went.ensures
