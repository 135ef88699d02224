use Rattle.std.proofs.Common.{◌≡◌, sym, ap, ◌∙◌, Option, Some, None, length, subst}
use Rattle.std.specs.Prelude.{slice_get}
use Rattle.grid_unions.specs.declared.summed.Sums.{Sums}
use Rattle.grid_figures.specs.Outages.{sums_before, sums_under, pairs_under}
use Rattle.grid_figures.specs.Seen.{IsFirstMain}
use Rattle.grid_figures.proofs.network.Network.main_under.Goals as goal

pub returns-then-found-gt1 : goal.returns-then-found-gt1
returns-then-found-gt1 c = c.requires.seen.many c.if-found-gt1.true

pub returns-in-Some : goal.returns-in-Some
returns-in-Some c =
    let kept = c.args.self.now.kept.now in
    let outage = c.args.outage.now in
    let sums = sums_under kept outage in
    let first : slice_get sums 0 ≡ Some c.in-Some.sums = ap (λ z. slice_get (sums_before kept z (length kept)) 0) (sym c.slice.ensures) ∙ sym c.first_bus.ensures ∙ c.in-Some.is in
    let P : Option Sums → Type 0 = IsFirstMain (length sums) sums (pairs_under kept c.args.self.now.links.now outage) in
    subst P first (c.requires.seen.one c.if-found-gt1.false)

pub returns-in-None : goal.returns-in-None
returns-in-None c =
    let kept = c.args.self.now.kept.now in
    let outage = c.args.outage.now in
    let sums = sums_under kept outage in
    let first : slice_get sums 0 ≡ None = ap (λ z. slice_get (sums_before kept z (length kept)) 0) (sym c.slice.ensures) ∙ sym c.first_bus.ensures ∙ c.in-None.is in
    let P : Option Sums → Type 0 = IsFirstMain (length sums) sums (pairs_under kept c.args.self.now.links.now outage) in
    subst P first (c.requires.seen.one c.if-found-gt1.false)
