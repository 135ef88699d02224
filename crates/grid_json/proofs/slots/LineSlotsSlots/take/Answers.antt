use Rattle.std.proofs.Common.{refl, sym, ◌∙◌}
use Rattle.std.specs.Prelude.{codes}
use Rattle.grid_json.specs.Reading.{id_at}
use Rattle.grid_json.specs.Network.{end_draft_at, two_at}
use Rattle.grid_json.specs.Kept.{kept}
use Rattle.grid_json.specs.Slots.{LineHolds, line_names}
use Rattle.grid_json.proofs.MemberSlots.{offered}
use Rattle.grid_json.proofs.slots.LineSlotsSlots.take.Goals as goal

pub returns-then-is_named : goal.returns-then-is_named
returns-then-is_named c =
    let name = codes "id" in
    let went = c.fill in
    offered id_at name line_names (LineHolds c.args.format)
    c.args.name.now c.args.depth c.args.reader.now went.new.reader c.args.self.now _ went.new.slot went.result
    (λ d found held now. record {
      id = now;
      ends = kept name d held.ends refl;
    }) refl (sym c.is_named.ensures ∙ c.if-is_named.true) went.ensures

pub returns-then-is_named-2 : goal.returns-then-is_named-2
returns-then-is_named-2 c =
    let name = codes "ends" in
    let went = c.fill-then-is_named-2 in
    offered (two_at (end_draft_at c.args.format)) name line_names (LineHolds c.args.format)
    c.args.name.now c.args.depth c.args.reader.now went.new.reader c.args.self.now _ went.new.slot went.result
    (λ d found held now. record {
      id = kept name d held.id refl;
      ends = now;
    }) refl (sym c.is_named-else-is_named.ensures ∙ c.if-is_named-2.true) went.ensures
