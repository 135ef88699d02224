use Rattle.std.proofs.Common.{◌≡◌, sym, ap, ◌∙◌, subst, List, map, arith, length}
use Rattle.std.specs.Prelude.{zip, All}
use Rattle.std.specs.List.{AllZip}
use Rattle.std.proofs.lemmas.Result.{IfOk-weaker}
use Rattle.grid_figures.specs.declared.Figures.{Figures}
use Rattle.grid_figures.specs.declared.outage.Outage.{Outage}
use Rattle.grid_figures.specs.Outages.{LinkAt, OutageFits, AreFiguresUnder}
use Rattle.grid_unions.specs.declared.summed.Sums.{Sums}
use Rattle.grid_screen.specs.declared.Finding.{Finding}
use Rattle.grid_screen.specs.declared.find.End.{End}
use Rattle.grid_screen.specs.Found.{AreFindings}
use Rattle.grid_screen.specs.Starts.{finding_from}
use Rattle.grid_screen.proofs.ContingencyOutages.{starts_fit, ends_few, starts_found}
use Rattle.grid_screen.proofs.part.screen_part.Goals as goal
use Rattle.grid_screen.proofs.part.screen_part.Goals.{After-deref-3}

pub figures_after_each-requires-clause-outages : goal.figures_after_each-requires-clause-outages
figures_after_each-requires-clause-outages c =
    let starts = c.in_ok-starts.starts in
    let kept = c.args.kept.now in
    let fit = starts_fit c.args.case.now kept c.args.part.now starts.outages.items starts.ends.items c.in_ok-starts.ensures in
    let P : List (List Sums) → List LinkAt → List Outage → Type 0 = λ sums joined outages. All (OutageFits sums joined) outages in
    subst (λ z. P z c.slice-2.result.now c.deref.result.now) (sym c.slice.ensures) (subst (λ z. P kept.sums z c.deref.result.now) (sym c.slice-2.ensures) (subst (P kept.sums kept.joined) (sym c.deref.ensures.value) fit))

-- the figures are those of the outages
are_under : (c : After-deref-3) → AllZip (AreFiguresUnder c.args.kept.now.sums c.args.kept.now.joined) c.in_ok-starts.starts.outages.items c.in_ok-figures.figures.items
are_under c =
    let kept = c.args.kept.now in
    let P : List (List Sums) → List LinkAt → List Outage → Type 0 = λ sums joined outages. AllZip (AreFiguresUnder sums joined) outages c.in_ok-figures.figures.items in
    subst (P kept.sums kept.joined) c.deref.ensures.value (subst (λ z. P kept.sums z c.deref.result.now) c.slice-2.ensures (subst (λ z. P z c.slice-2.result.now c.deref.result.now) c.slice.ensures c.in_ok-figures.ensures))

pub list_findings-requires : goal.list_findings-requires
list_findings-requires c =
    let starts = c.in_ok-starts.starts in
    let few = ends_few c.args.case.now c.args.kept.now c.args.part.now starts.outages.items starts.ends.items c.in_ok-figures.figures.items c.in_ok-starts.ensures (are_under (goal.at.list_findings-requires c).After-deref-3) in
    omega (arith, few, ap length c.deref-2.ensures.value, ap length c.deref-3.ensures.value)

pub returns : goal.returns
returns c =
    let case = c.args.case.now in
    let starts = c.in_ok-starts.starts in
    let figures = c.in_ok-figures.figures.items in
    let made : Figures → List End → List Figures → List Finding = λ before ends figures. map (λ (pair : End × Figures). finding_from before pair.1 pair.0) (zip ends figures) in
    IfOk-weaker c.list_findings.result (λ findings. findings ≡ made c.args.before.now c.deref-2.result.now c.deref-3.result.now) (AreFindings case c.args.part.now)
    (λ findings e retained. e ∙ ap (λ z. made c.args.before.now z c.deref-3.result.now) c.deref-2.ensures.value ∙ ap (made c.args.before.now starts.ends.items) c.deref-3.ensures.value ∙ ap (λ z. made z starts.ends.items figures) (c.requires.before retained)
    ∙ starts_found case c.args.kept.now retained c.args.part.now starts.outages.items starts.ends.items figures c.in_ok-starts.ensures (are_under (goal.at.returns c).After-deref-3)) c.list_findings.ensures
