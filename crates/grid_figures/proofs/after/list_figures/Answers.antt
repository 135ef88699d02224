use Rattle.std.proofs.Common.{◌≡◌, sym, ap, ◌∙◌, ◌+◌, List, [], ◌∷◌, ◌++◌, get_or, take, arith, subst}
use Rattle.std.specs.List.{AllZip}
use Rattle.std.proofs.lemmas.List.{take_more, take_all}
use Rattle.grid_unions.specs.declared.sweeps.Found.{Found}
use Rattle.grid_figures.specs.declared.Figures.{Figures}
use Rattle.grid_figures.specs.declared.outage.Outage.{Outage}
use Rattle.grid_unions.specs.Summed.{no_sums}
use Rattle.grid_figures.specs.Outages.{OutageFits, AreFiguresUnder}
use Rattle.grid_figures.specs.Seen.{IsSeenUnder}
use Rattle.grid_figures.proofs.Zips.{zip_at, zip_long, zip_push}
use Rattle.grid_figures.proofs.after.list_figures.Goals as goal

pub bounds-found-place : goal.bounds-found-place
bounds-found-place c =
    let network = c.args.network.now in
    omega (arith, c.loop-place-test.true, zip_long (IsSeenUnder network.kept.now network.links.now network.numbers) c.args.outages.now c.args.found.now c.requires.found)

pub figures_after-requires-clause-fits : goal.figures_after-requires-clause-fits
figures_after-requires-clause-fits c =
    let network = c.args.network.now in
    let P : Outage → Type 0 = OutageFits network.kept.now network.links.now in
    subst P (sym c.index-outages-place.is) (c.requires.outages c.loop-place.place c.index-outages-place.result c.loop-place-test.true)

pub figures_after-requires-clause-seen : goal.figures_after-requires-clause-seen
figures_after-requires-clause-seen c =
    let network = c.args.network.now in
    let none : Found = record { classes = 0; main = 0; size = 0; sums = no_sums } in
    let R : Outage → Found → Type 0 = IsSeenUnder network.kept.now network.links.now network.numbers in
    let P : Outage → Type 0 = λ z. R z (get_or c.args.found.now c.loop-place.place none) in
    subst P (sym c.index-outages-place.is) (zip_at R c.args.outages.now c.args.found.now c.requires.found c.loop-place.place c.index-outages-place.result none c.loop-place-test.true)

pub loop-place-preserved : goal.loop-place-preserved
loop-place-preserved c =
    let network = c.args.network.now in
    let outages = c.args.outages.now in
    let i = c.loop-place.place in
    let item : Outage = c.index-outages-place.result in
    let figures : Figures = c.in_ok-figures_after.field-0 in
    let R : Outage → Figures → Type 0 = AreFiguresUnder network.kept.now network.links.now in
    let taken : take i outages ++ item ∷ [] ≡ take (i + 1) outages = ap (λ z. take i outages ++ z ∷ []) c.index-outages-place.is ∙ sym (take_more outages i item c.loop-place-test.true) in
    let P : List Outage → List Figures → Type 0 = AllZip R in
    subst (λ z. P z c.push.new.self.items) taken
    (subst (P (take i outages ++ item ∷ [])) (sym c.in_ok-push.ensures.items) (zip_push R (take i outages) c.loop-place.figures.items item figures c.loop-place.invariant c.in_ok-figures_after.ensures))

pub returns : goal.returns
returns c =
    let network = c.args.network.now in
    let R : Outage → Figures → Type 0 = AreFiguresUnder network.kept.now network.links.now in
    let P : List Outage → Type 0 = λ z. AllZip R z c.loop-place.figures.items in
    subst P (take_all c.loop-place.place c.args.outages.now c.loop-place-test.false) c.loop-place.invariant
