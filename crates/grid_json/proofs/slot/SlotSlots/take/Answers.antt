use Rattle.std.proofs.Common.{[], ◌∷◌, ◌||◌, false, refl, sym, ap, ◌∙◌}
use Rattle.std.proofs.lemmas.Slice.Eq.{bytes_eq-Decides}
use Rattle.grid_json.specs.Streams.{Holds}
use Rattle.grid_json.proofs.MemberSlots.{offered}
use Rattle.grid_json.proofs.slot.SlotSlots.take.Goals as goal

pub returns-then-is_named : goal.returns-then-is_named
returns-then-is_named g c =
    let name = g.N.MemberName.name in
    let read = g.T.FromJson.reads c.args.format in
    let went = c.fill in
    offered read name (name ∷ []) (λ slot found. Holds read name found slot.value)
    c.args.name.now c.args.depth c.args.reader.now went.new.reader c.args.self.now _ went.new.slot went.result
    (λ d found held now. now) (ap (λ b. b || false) ((bytes_eq-Decides name name).1 refl))
    (rw c.text.ensures at (sym c.is_named.ensures ∙ c.if-is_named.true)) went.ensures
