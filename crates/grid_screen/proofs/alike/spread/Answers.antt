use Rattle.std.proofs.Common.{sym, ap, ap₂, ◌∙◌, [], ◌∷◌, ◌++◌, get_or, map, Some}
use Rattle.std.specs.Prelude.{slice_get}
use Rattle.std.proofs.lemmas.List.{map-append, take_all}
use Rattle.std.proofs.lemmas.Option.{get_or_from_slice_get}
use Rattle.grid_groups.proofs.Steps.{map_next}
use Rattle.grid_screen.specs.declared.Finding.{Finding}
use Rattle.grid_screen.proofs.Got.{got_or}
use Rattle.grid_screen.proofs.alike.spread.Goals as goal

pub loop-group-init : goal.loop-group-init
loop-group-init c = ap (map (λ (finding : Finding). Some finding)) c.empty-findings.ensures

pub loop-group-preserved : goal.loop-group-preserved
loop-group-preserved c =
    let found = c.args.found.now in
    let old = c.loop-group.findings in
    let v = c.in_ok-copy_at.field-0 in
    let g = get_or c.args.groups.now c.loop-group.group-index 0 in
    ap (map (λ (finding : Finding). Some finding)) c.in_ok-push.ensures.ok ∙ map-append (λ (finding : Finding). Some finding) old (v ∷ [])
    ∙ ap₂ (λ zs z. zs ++ z ∷ []) c.loop-group.invariant (sym c.in_ok-copy_at.ensures)
    ∙ map_next (slice_get found) c.args.groups.now c.loop-group.group-index g c.loop-group-test.true (sym (get_or_from_slice_get c.args.groups.now c.loop-group.group-index g g (got_or c.args.groups.now c.loop-group.group-index 0 c.loop-group-test.true)))

pub returns : goal.returns
returns c = c.loop-group.invariant ∙ ap (map (slice_get c.args.found.now)) (take_all c.loop-group.group-index c.args.groups.now c.loop-group-test.false)
