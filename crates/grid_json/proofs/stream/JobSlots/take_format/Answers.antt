use Rattle.std.proofs.Common.{◌≡◌, None, refl, arith}
use Rattle.std.specs.Prelude.{codes}
use Rattle.grid_json.specs.Job.{format_at}
use Rattle.grid_json.specs.Kept.{kept}
use Rattle.grid_json.specs.Slots.{JobHolds}
use Rattle.grid_json.proofs.MemberSlots.{taken_where, vacated}
use Rattle.grid_json.proofs.stream.JobSlots.take_format.Goals as goal

pub returns : goal.returns
returns c =
    let s = c.args.self.now in
    let none : (s.network ≡ None) × (s.listeners ≡ None) × (s.workers ≡ None) = c.awaits_format.ensures (grind arith) in
    let name = codes "format" in
    let went = c.fill in
    taken_where (format_at c.args.format) name (JobHolds c.args.format)
    c.args.depth c.args.reader.now went.new.reader s _ went.new.slot went.result (λ d found held now. record {
      format = now;
      network = kept name d (vacated none.0 held.network) refl;
      listeners = kept name d (vacated none.1 held.listeners) refl;
      workers = kept name d (vacated none.2 held.workers) refl;
      order = kept name d held.order refl;
    }) went.ensures
