use Rattle.std.proofs.Common.{sym, ap, ◌∙◌, subst, length}
use Rattle.std.specs.Prelude.{slice_get}
use Rattle.std.proofs.lemmas.Result.{IfOk-weaker}
use Rattle.grid_structure.specs.Network.{Network}
use Rattle.grid_structure.specs.Sites.{levels}
use Rattle.grid_groups.specs.Labels.{labels_where}
use Rattle.grid_screen.specs.Grounds.{fault_flags}
use Rattle.grid_screen.specs.Walks.{AreEnds, CanList, IsTouched, IsUntouched}
use Rattle.grid_screen.proofs.FaultEdges.{flags_long}
use Rattle.grid_screen.proofs.Grown.{can_list, looked}
use Rattle.grid_screen.proofs.walk.look.Goals as goal

pub labels-requires : goal.labels-requires
labels-requires c =
    let l = c.level-level.result.now in
    let at = ap (λ (z : Network). slice_get (levels z) c.args.place) (sym c.structure.ensures) ∙ c.level-level.ensures in
    let fit = ap length c.opened.ensures ∙ c.keeps.ensures.flags c.args.place l at in
    ap length (c.deref.ensures.value ∙ c.in_ok-flags.ensures) ∙ flags_long c.stuck.result.now c.switches.result.now c.opened.result.now (fit ∙ ap length (sym c.switches.ensures))
    ∙ ap length c.switches.ensures

pub list_ends-requires : goal.list_ends-requires
list_ends-requires c =
    let g = c.args.scene.now in
    let l = c.level-level.result.now in
    let at = ap (λ (z : Network). slice_get (levels z) c.args.place) (sym c.structure.ensures) ∙ c.level-level.ensures in
    let flags = c.deref.ensures.value ∙ c.in_ok-flags.ensures
    ∙ ap (λ z. fault_flags z c.switches.result.now c.opened.result.now) c.stuck.ensures ∙ ap (λ z. fault_flags g.stuck z c.opened.result.now) c.switches.ensures ∙ ap (fault_flags g.stuck l.switches) c.opened.ensures in
    let labelled = c.deref-2.ensures.value ∙ c.in_ok-labels.ensures ∙ ap (labels_where l) flags in
    subst (CanList l c.deref-2.result.now) (sym c.placed.ensures) (can_list g c.args.place l c.level.result.now c.deref-2.result.now c.keeps.ensures at c.keeps-2.ensures c.level.ensures labelled)

pub returns-clause-touched : goal.returns-clause-touched
returns-clause-touched c =
    let g = c.args.scene.now in
    let l = c.level-level.result.now in
    let m = c.level.result.now in
    let at = ap (λ (z : Network). slice_get (levels z) c.args.place) (sym c.structure.ensures) ∙ c.level-level.ensures in
    let flags = c.deref.ensures.value ∙ c.in_ok-flags.ensures
    ∙ ap (λ z. fault_flags z c.switches.result.now c.opened.result.now) c.stuck.ensures ∙ ap (λ z. fault_flags g.stuck z c.opened.result.now) c.switches.ensures ∙ ap (fault_flags g.stuck l.switches) c.opened.ensures in
    let labels = c.in_ok-labels.labels.items in
    let ends = c.in_ok-ends.ends.items in
    let labelled = c.in_ok-labels.ensures ∙ ap (labels_where l) flags in
    let listed = subst (λ z. AreEnds l labels z ends) c.placed.ensures (subst (λ z. AreEnds l z c.placed.result.now ends) c.deref-2.ensures.value c.in_ok-ends.ensures) in
    IfOk-weaker c.untouched.result (λ t. IsUntouched l labels ends t.value) (λ t. IsTouched g c.args.place t.value)
    (λ t u. looked g c.args.place l m labels ends t.value at c.level.ensures c.keeps-2.ensures labelled listed u) c.untouched.ensures
