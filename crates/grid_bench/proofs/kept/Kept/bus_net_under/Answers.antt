use Rattle.std.proofs.Common.{◌≡◌, ◌∙◌, refl, sym, ap, subst}
use Rattle.grid_level.specs.VoltageLevel.{VoltageLevel}
use Rattle.grid_groups.specs.Nets.{net_where, closed_flags}
use Rattle.grid_bench.specs.Contents.{content}
use Rattle.grid_bench.specs.Costs.{count_changes, CanFollow}
use Rattle.grid_bench.proofs.Alike.{same_many, net_as}
use Rattle.grid_bench.proofs.FlagUpdates.{none_changed}
use Rattle.grid_bench.proofs.kept.Kept.bus_net_under.Goals as goal

pub returns-in-Some-eq0-clause-net : goal.returns-in-Some-eq0-clause-net
returns-in-Some-eq0-clause-net c =
    let now = c.args.self.now in
    let new = content c.args.level.now c.args.opened.now c.args.retained.now in
    let fits = c.keeps.ensures.fits in
    let P : VoltageLevel → Type 0 = λ z. CanFollow now (content z c.args.opened.now c.args.retained.now) in
    let Q : VoltageLevel → Type 0 = λ z. c.in-Some-eq0.field-0 ≡ count_changes now (content z c.args.opened.now c.args.retained.now) in
    let can : CanFollow now new = subst P c.get.ensures (c.in-Some-eq0.ensures.can.0 refl) in
    let many = same_many now.level c.args.level.now can.same_ends in
    let flags : now.opened ≡ c.args.opened.now =
    none_changed now new fits (c.requires.opened ∙ sym many ∙ sym fits.opened) (c.requires.retained ∙ sym many ∙ sym fits.retained) (sym c.in-Some-eq0.field-0-test ∙ subst Q c.get.ensures c.in-Some-eq0.ensures.changes) in
    c.bus_net.ensures.net
    ∙ net_as now.level c.args.level.now (closed_flags now.opened) can.same_ends
    ∙ ap (λ z. net_where c.args.level.now (closed_flags z)) flags
