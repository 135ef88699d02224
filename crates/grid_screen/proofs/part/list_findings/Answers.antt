use Rattle.std.proofs.Common.{◌≡◌, sym, ap, ap₂, ◌∙◌, [], ◌∷◌, ◌++◌, ◌<◌, length, get_or, arith, map}
use Rattle.std.specs.Prelude.{zip}
use Rattle.std.proofs.lemmas.List.{take_all}
use Rattle.std.proofs.lemmas.Slice.Zip.{length-zip, get_or-zip}
use Rattle.grid_groups.proofs.Lists.{get_or_any}
use Rattle.grid_groups.proofs.Steps.{map_next}
use Rattle.grid_figures.specs.declared.Figures.{Figures}
use Rattle.grid_screen.specs.declared.Finding.{Finding}
use Rattle.grid_screen.specs.declared.find.End.{End}
use Rattle.grid_screen.specs.Starts.{finding_from}
use Rattle.grid_screen.proofs.part.list_findings.Goals as goal

pub loop-place-preserved : goal.loop-place-preserved
loop-place-preserved c =
    let ends = c.args.ends.now in
    let figures = c.args.figures.now in
    let i = c.loop-place.place in
    let end = c.index-ends-place.result in
    let before = c.args.before.now in
    let fig = get_or figures i before in
    let first : i < length ends = c.loop-place-test.true in
    let second : i < length figures = omega (arith, first, c.requires) in
    let inside : i < length (zip ends figures) = omega (arith, first, second, length-zip ends figures) in
    let F : End × Figures → Finding = λ pair. finding_from before pair.1 pair.0 in
    let at : (end, fig) ≡ get_or (zip ends figures) i (end, fig) =
    ap (λ (z : End). (z, fig)) c.index-ends-place.is ∙ ap (λ (z : Figures). (get_or ends i end, z)) (get_or_any figures i before fig second) ∙ sym (get_or-zip ends figures i (end, fig) first second) in
    c.in_ok-push.ensures.ok ∙ ap₂ (λ zs z. zs ++ z ∷ []) c.loop-place.invariant (c.in_ok-finding_by.ensures ∙ ap (λ z. finding_from before z end) (get_or_any figures i _ before second))
    ∙ map_next F (zip ends figures) i (end, fig) inside at

pub returns : goal.returns
returns c =
    let all = zip c.args.ends.now c.args.figures.now in
    c.loop-place.invariant ∙ ap (map (λ (pair : End × Figures). finding_from c.args.before.now pair.1 pair.0)) (take_all c.loop-place.place all (omega (arith, length-zip c.args.ends.now c.args.figures.now, c.loop-place-test.false, c.requires)))
