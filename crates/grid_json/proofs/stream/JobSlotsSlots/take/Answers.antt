use Rattle.std.proofs.Common.{refl, sym, ◌∙◌}
use Rattle.std.specs.Prelude.{unwrap_or, codes}
use Rattle.grid_json.specs.declared.format.Format.TheVariants.{One}
use Rattle.grid_json.specs.Reading.{array_at, whole_at}
use Rattle.grid_json.specs.Network.{network_at}
use Rattle.grid_json.specs.Job.{listeners_at, workers_at}
use Rattle.grid_json.specs.Kept.{kept}
use Rattle.grid_json.specs.Slots.{JobHolds, job_names}
use Rattle.grid_json.proofs.MemberSlots.{offered, taken_known}
use Rattle.grid_json.proofs.stream.JobSlotsSlots.take.Goals as goal

pub returns-then-is_named : goal.returns-then-is_named
returns-then-is_named c =
    let went = c.take_format in
    taken_known job_names (JobHolds c.args.format) (codes "format") c.args.name.now c.args.depth c.args.reader.now
    went.new.reader c.args.self.now went.new.self went.result refl
    (sym c.is_named.ensures ∙ c.if-is_named.true) went.ensures

pub returns-then-is_named-2 : goal.returns-then-is_named-2
returns-then-is_named-2 c =
    let name = codes "network" in
    let went = c.fill_by in
    offered (network_at (unwrap_or c.args.self.now.format One)) name job_names (JobHolds c.args.format)
    c.args.name.now c.args.depth c.args.reader.now went.new.reader c.args.self.now _ went.new.slot went.result
    (λ d found held now. record {
      format = kept name d held.format refl;
      network = now;
      listeners = kept name d held.listeners refl;
      workers = kept name d held.workers refl;
      order = kept name d held.order refl;
    }) refl (sym c.is_named-else-is_named.ensures ∙ c.if-is_named-2.true) went.ensures

pub returns-then-is_named-3 : goal.returns-then-is_named-3
returns-then-is_named-3 c =
    let name = codes "listeners" in
    let went = c.fill_by-then-is_named-3 in
    offered (listeners_at (unwrap_or c.args.self.now.format One)) name job_names (JobHolds c.args.format)
    c.args.name.now c.args.depth c.args.reader.now went.new.reader c.args.self.now _ went.new.slot went.result
    (λ d found held now. record {
      format = kept name d held.format refl;
      network = kept name d held.network refl;
      listeners = now;
      workers = kept name d held.workers refl;
      order = kept name d held.order refl;
    }) refl (sym c.is_named-else-is_named-2.ensures ∙ c.if-is_named-3.true) went.ensures

pub returns-then-is_named-4 : goal.returns-then-is_named-4
returns-then-is_named-4 c =
    let name = codes "workers" in
    let went = c.fill_by-then-is_named-4 in
    offered (workers_at (unwrap_or c.args.self.now.format One)) name job_names (JobHolds c.args.format)
    c.args.name.now c.args.depth c.args.reader.now went.new.reader c.args.self.now _ went.new.slot went.result
    (λ d found held now. record {
      format = kept name d held.format refl;
      network = kept name d held.network refl;
      listeners = kept name d held.listeners refl;
      workers = now;
      order = kept name d held.order refl;
    }) refl (sym c.is_named-else-is_named-3.ensures ∙ c.if-is_named-4.true) went.ensures

pub returns-then-is_named-5 : goal.returns-then-is_named-5
returns-then-is_named-5 c =
    let name = codes "order" in
    let went = c.fill in
    offered (array_at whole_at) name job_names (JobHolds c.args.format)
    c.args.name.now c.args.depth c.args.reader.now went.new.reader c.args.self.now _ went.new.slot went.result
    (λ d found held now. record {
      format = kept name d held.format refl;
      network = kept name d held.network refl;
      listeners = kept name d held.listeners refl;
      workers = kept name d held.workers refl;
      order = now;
    }) refl (sym c.is_named-else-is_named-4.ensures ∙ c.if-is_named-5.true) went.ensures
