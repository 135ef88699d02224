use Rattle.std.proofs.Common.{refl, sym, ◌∙◌}
use Rattle.std.specs.Prelude.{codes}
use Rattle.grid_json.specs.Reading.{whole_at}
use Rattle.grid_json.specs.Kept.{kept}
use Rattle.grid_json.specs.Slots.{NodeHolds, node_names}
use Rattle.grid_json.proofs.MemberSlots.{offered}
use Rattle.grid_json.proofs.slots.NodeSlotsSlots.take.Goals as goal

pub returns-then-is_named : goal.returns-then-is_named
returns-then-is_named c =
    let name = codes "node1" in
    let went = c.fill in
    offered whole_at name node_names (NodeHolds c.args.format)
    c.args.name.now c.args.depth c.args.reader.now went.new.reader c.args.self.now _ went.new.slot went.result
    (λ d found held now. record {
      node1 = now;
      node2 = kept name d held.node2 refl;
    }) refl (sym c.is_named.ensures ∙ c.if-is_named.true) went.ensures

pub returns-then-is_named-2 : goal.returns-then-is_named-2
returns-then-is_named-2 c =
    let name = codes "node2" in
    let went = c.fill-then-is_named-2 in
    offered whole_at name node_names (NodeHolds c.args.format)
    c.args.name.now c.args.depth c.args.reader.now went.new.reader c.args.self.now _ went.new.slot went.result
    (λ d found held now. record {
      node1 = kept name d held.node1 refl;
      node2 = now;
    }) refl (sym c.is_named-else-is_named.ensures ∙ c.if-is_named-2.true) went.ensures
