use Rattle.std.proofs.Common.{◌≡◌, sym, ◌∙◌, ℕ, List, length, subst, rules}
use Rattle.std.specs.Prelude.{All}
use Rattle.std.specs.List.{AllZip}
use Rattle.std.proofs.lemmas.Result.{IfOk-weaker}
use Rattle.grid_unions.specs.declared.summed.Sums.{Sums}
use Rattle.grid_unions.specs.declared.sweeps.Found.{Found}
use Rattle.grid_figures.specs.declared.Figures.{Figures}
use Rattle.grid_figures.specs.Layouts.{IsLaidOut}
use Rattle.grid_figures.specs.Outages.{LinkAt, OutageFits, AreFiguresUnder}
use Rattle.grid_figures.specs.Seen.{IsSeenUnder}
use Rattle.grid_figures.specs.declared.outage.ChangedSums.{ChangedSums}
use Rattle.grid_figures.proofs.after.figures_after_each.Goals as goal

pub find_each-requires-clause-layout : goal.find_each-requires-clause-layout
find_each-requires-clause-layout c =
    let layout = c.in_ok-layout.layout in
    let P : List ChangedSums → Type 0 = λ z. IsLaidOut z layout.starts.items layout.weights.items in
    subst P (c.deref.ensures.value ∙ c.in_ok-parts.ensures) c.in_ok-layout.ensures

pub list_figures-requires-clause-outages : goal.list_figures-requires-clause-outages
list_figures-requires-clause-outages c =
    let network = c.in_ok-network.network in
    let P : List (List Sums) → List LinkAt → Type 0 = λ k l. All (OutageFits k l) c.args.outages.now in
    subst (λ z. P z network.links.now) (sym c.in_ok-network.ensures.kept) (subst (P c.args.kept.now) (sym c.in_ok-network.ensures.links) c.requires.outages)

pub list_figures-requires-clause-found : goal.list_figures-requires-clause-found
list_figures-requires-clause-found c =
    let network = c.in_ok-network.network in
    let weights = c.in_ok-layout.layout.weights.items in
    let many : c.len.result ≡ length weights = search rules in
    let numbers : network.numbers ≡ length weights = c.in_ok-network.ensures.numbers ∙ c.in_ok-numbers.ensures.value ∙ many in
    let P : List (List Sums) → List LinkAt → ℕ → List Found → Type 0 = λ k l n f. AllZip (IsSeenUnder k l n) c.args.outages.now f in
    subst (λ z. P z network.links.now network.numbers c.deref-2.result.now) (sym c.in_ok-network.ensures.kept)
    (subst (λ z. P c.args.kept.now z network.numbers c.deref-2.result.now) (sym c.in_ok-network.ensures.links)
    (subst (λ z. P c.args.kept.now c.args.links.now z c.deref-2.result.now) (sym numbers)
    (subst (P c.args.kept.now c.args.links.now (length weights)) (sym c.deref-2.ensures.value) c.in_ok-found.ensures)))

pub returns : goal.returns
returns c =
    let network = c.in_ok-network.network in
    let outages = c.args.outages.now in
    let P : List Figures → List (List Sums) → List LinkAt → Type 0 = λ f k l. AllZip (AreFiguresUnder k l) outages f in
    IfOk-weaker c.list_figures.result (λ figures. P figures.items network.kept.now network.links.now) (λ figures. P figures.items c.args.kept.now c.args.links.now)
    (λ figures h. subst (P figures.items c.args.kept.now) c.in_ok-network.ensures.links (subst (λ z. P figures.items z network.links.now) c.in_ok-network.ensures.kept h))
    c.list_figures.ensures
