use Rattle.std.proofs.Common.{◌≡◌, sym, subst, ◌∙◌, ap, false, cond, [], ◌∷◌, ◌++◌, take, get_or, ◌+◌, arith, length}
use Rattle.std.proofs.lemmas.List.{append-nil, take_all}
use Rattle.grid_level.specs.declared.Switch.{Switch}
use Rattle.std.specs.Prelude.{IsTrue}
use Rattle.grid_level.specs.VoltageLevel.{VoltageLevel}
use Rattle.grid_level.specs.Kept.{among}
use Rattle.grid_level.specs.Passing.{nodes}
use Rattle.grid_groups.proofs.Steps.{switch_at}
use Rattle.grid_connect.specs.Indexed.{leaves_marked, leaving_marked}
use Rattle.grid_connect.proofs.CoreExits.{leaving_none, leaving_more, few_switches}
use Rattle.grid_connect.proofs.disconnect.leaving.Goals as goal
use Rattle.grid_connect.proofs.disconnect.leaving.Goals.{After-switch-item, then-leaves+in_ok-push, else-leaves, After-leaves}

pub loop-place-init : goal.loop-place-init
loop-place-init c = c.empty-places.ensures ∙ leaving_none (nodes c.args.indices.now) c.args.marks.now c.switches-switch-items.result.now c.args.states.now

-- a switch's ends are nodes
ends_here : (c : After-switch-item) → IsTrue (among (nodes c.args.indices.now) c.switch-item.result.node1) × IsTrue (among (nodes c.args.indices.now) c.switch-item.result.node2)
ends_here c =
    let P : VoltageLevel → Type 0 = λ z. IsTrue (among (nodes z) c.switch-item.result.node1) × IsTrue (among (nodes z) c.switch-item.result.node2) in
    subst P c.level-level.ensures
    (switch_at c.level-level.result.now c.switches-switch-items.result.now c.loop-place.place c.switch-item.result c.keeps.ensures.ends_are_nodes c.switches-switch-items.ensures c.loop-place-test.true c.switch-item.is)

pub leaves-requires-clause-first : goal.leaves-requires-clause-first
leaves-requires-clause-first c = (ends_here (goal.at.leaves-requires-clause-first c).After-switch-item).0

pub leaves-requires-clause-second : goal.leaves-requires-clause-second
leaves-requires-clause-second c = (ends_here (goal.at.leaves-requires-clause-second c).After-switch-item).1

pub overflow_cast-place : goal.overflow_cast-place
overflow_cast-place c =
    let few = few_switches c.level-level.result.now c.switches-switch-items.result.now c.keeps.ensures c.switches-switch-items.ensures in
    omega (arith, few, c.loop-place-test.true)

step : (c : After-leaves) → leaving_marked (nodes c.args.indices.now) c.args.marks.now 0 (take (c.loop-place.place + 1) c.switches-switch-items.result.now) (take (c.loop-place.place + 1) c.args.states.now)
    ≡ leaving_marked (nodes c.args.indices.now) c.args.marks.now 0 (take c.loop-place.place c.switches-switch-items.result.now) (take c.loop-place.place c.args.states.now) ++ cond c.leaves.result (c.loop-place.place ∷ []) []
step c =
    let ns = nodes c.args.indices.now in
    let marks = c.args.marks.now in
    let ss = c.switches-switch-items.result.now in
    let flags = c.args.states.now in
    let i = c.loop-place.place in
    leaving_more ns marks ss flags i c.switch-item.result false (c.requires.flags ∙ ap (λ z. length z) (sym (c.switches-switch-items.ensures ∙ ap (λ (l : VoltageLevel). l.switches) c.level-level.ensures))) c.loop-place-test.true
    ∙ ap (λ z. leaving_marked ns marks 0 (take i ss) (take i flags) ++ cond z (i ∷ []) [])
    (ap (λ (z : Switch). leaves_marked ns marks z (get_or flags i false)) (sym c.switch-item.is) ∙ sym c.leaves.ensures)

pub loop-place-preserved : goal.loop-place-preserved
loop-place-preserved c =
    let s = step (goal.at.loop-place-preserved c).After-leaves in
    let i = c.loop-place.place in
    let old = leaving_marked (nodes c.args.indices.now) c.args.marks.now 0 (take i c.switches-switch-items.result.now) (take i c.args.states.now) in
    elim c.if-leaves.branch [
      | then-leaves+in_ok-push w ↦ w.places-is ∙ w.in_ok-push.ensures.ok ∙ ap (λ z. z ++ i ∷ []) c.loop-place.invariant ∙ ap (λ t. old ++ cond t (i ∷ []) []) (sym w.if-leaves.true) ∙ sym s
      | else-leaves w ↦ w.places-is ∙ c.loop-place.invariant ∙ sym (append-nil old) ∙ ap (λ t. old ++ cond t (i ∷ []) []) (sym w.if-leaves.false) ∙ sym s
    ]

pub returns : goal.returns
returns c =
    let ns = nodes c.args.indices.now in
    let marks = c.args.marks.now in
    let ss = c.switches-switch-items.result.now in
    let flags = c.args.states.now in
    let i = c.loop-place.place in
    let long = c.requires.flags ∙ ap (λ z. length z) (sym (c.switches-switch-items.ensures ∙ ap (λ (l : VoltageLevel). l.switches) c.level-level.ensures)) in
    let le = c.loop-place-test.false in
    c.loop-place.invariant
    ∙ ap (λ z. leaving_marked ns marks 0 z (take i flags)) (take_all i ss le ∙ c.switches-switch-items.ensures ∙ ap (λ (l : VoltageLevel). l.switches) c.level-level.ensures)
    ∙ ap (leaving_marked ns marks 0 c.args.indices.now.switches) (take_all i flags (omega (arith, le, long)))
