use Rattle.std.proofs.Common.{refl, sym, ◌∙◌}
use Rattle.std.specs.Prelude.{codes}
use Rattle.grid_json.specs.Kinds.{injection_kind_at}
use Rattle.grid_json.specs.Slots.{InjectionKindHolds, injection_kind_names}
use Rattle.grid_json.proofs.MemberSlots.{offered}
use Rattle.grid_json.proofs.injections.InjectionKindSlotSlots.take.Goals as goal

pub returns-then-is_named : goal.returns-then-is_named
returns-then-is_named c =
    let name = codes "kind" in
    let went = c.fill in
    offered (injection_kind_at c.args.format) name injection_kind_names (InjectionKindHolds c.args.format)
    c.args.name.now c.args.depth c.args.reader.now went.new.reader c.args.self.now _ went.new.slot went.result
    (λ d found held now. record {
      kind = now;
    }) refl (sym c.is_named.ensures ∙ c.if-is_named.true) went.ensures
