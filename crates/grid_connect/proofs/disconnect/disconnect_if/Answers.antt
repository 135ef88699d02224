use Rattle.std.proofs.Common.{◌≡◌, sym, ap, ◌∙◌, subst, length}
use Rattle.std.specs.Option.{option_copied}
use Rattle.grid_level.specs.VoltageLevel.{VoltageLevel}
use Rattle.grid_level.specs.Passing.{nodes, positioned}
use Rattle.grid_groups.proofs.Indices.{among_In}
use Rattle.grid_connect.specs.Plans.{core_of, core_busbar, leaving, opens_or, disconnect_plan_of}
use Rattle.grid_connect.specs.Indexed.{marks_where, marked_busbar, leaving_marked}
use Rattle.grid_connect.specs.Effects.{Disconnects}
use Rattle.grid_connect.specs.declared.DisconnectPlan.{DisconnectPlan}
use Rattle.grid_connect.specs.declared.DisconnectPlan.TheVariants.{Opens, NoBreaker}
use Rattle.grid_connect.proofs.PlanAnswers.{node_positioned}
use Rattle.grid_connect.proofs.Marks.{core_long}
use Rattle.grid_connect.proofs.CoreExits.{leaving_same, bar_same, disconnect_yes, disconnect_no, breaks, opens, core_marks}
use Rattle.grid_connect.proofs.DisconnectPlans.{disconnect_plan-Disconnects}
use Rattle.grid_connect.proofs.disconnect.disconnect_if.Goals as goal
use Rattle.grid_connect.proofs.disconnect.disconnect_if.Goals.{After-first_busbar, In_ok-leaving-in-None}

pub joined_to-requires-clause-flags : goal.joined_to-requires-clause-flags
joined_to-requires-clause-flags c = ap (λ z. length z) (c.as_slice.ensures.value ∙ c.in_ok-closed.ensures) ∙ core_long c.args.level.now.switches c.args.states.now c.requires.flags

core_cells : (c : After-first_busbar) → c.as_slice-2.result.now ≡ core_marks c.args.level.now c.args.states.now c.args.node
core_cells c = c.as_slice-2.ensures.value ∙ c.in_ok-core.ensures.marks ∙ ap (λ z. marks_where c.args.level.now z c.args.node) (c.as_slice.ensures.value ∙ c.in_ok-closed.ensures)

core_bar : (c : After-first_busbar) → option_copied c.first_busbar.result ≡ core_busbar (positioned c.args.level.now c.args.states.now) (core_of (positioned c.args.level.now c.args.states.now) c.args.node)
core_bar c =
    let level = c.args.level.now in
    c.first_busbar.ensures
    ∙ ap (λ (l : VoltageLevel). marked_busbar (nodes l) c.as_slice-2.result.now l.placed) c.in_ok-indices.ensures
    ∙ ap (λ z. marked_busbar (nodes level) z level.placed) (core_cells c)
    ∙ bar_same level c.args.states.now c.args.node c.keeps.ensures c.requires.flags (among_In c.args.node (nodes level) c.requires.node)

-- the plan, once the node is known to be connected
planned : (c : After-first_busbar) → (plan : DisconnectPlan)
    → (let now = positioned c.args.level.now c.args.states.now in opens_or (leaving now (core_of now c.args.node)) (core_busbar now (core_of now c.args.node)) ≡ plan)
    → plan ≡ disconnect_plan_of (positioned c.args.level.now c.args.states.now) c.args.node
planned c plan h =
    sym (disconnect_yes (positioned c.args.level.now c.args.states.now) c.args.node (sym c.requires.connected ∙ c.if-not-connected.false) ∙ h)

pub returns-then-not-connected-clause-plan : goal.returns-then-not-connected-clause-plan
returns-then-not-connected-clause-plan c =
    sym (disconnect_no (positioned c.args.level.now c.args.states.now) c.args.node (sym c.requires.connected ∙ c.if-not-connected.true))

pub returns-in-Some-clause-plan : goal.returns-in-Some-clause-plan
returns-in-Some-clause-plan c =
    let now = positioned c.args.level.now c.args.states.now in
    let at = (goal.at.returns-in-Some-clause-plan c).After-first_busbar in
    ap NoBreaker c.in_ok-copy-in-Some.ensures
    ∙ planned at (NoBreaker c.in-Some.placed.now.terminal)
    (breaks (leaving now (core_of now c.args.node)) (core_busbar now (core_of now c.args.node)) c.in-Some.placed.now (sym (core_bar at) ∙ ap option_copied c.in-Some.is))

opened : (c : In_ok-leaving-in-None) → Opens c.in_ok-leaving-in-None.field-0 ≡ disconnect_plan_of (positioned c.args.level.now c.args.states.now) c.args.node
opened c =
    let level = c.args.level.now in
    let now = positioned level c.args.states.now in
    let at = (goal.at.In_ok-leaving-in-None c).After-first_busbar in
    let places : c.in_ok-leaving-in-None.field-0 ≡ leaving now (core_of now c.args.node) =
    c.in_ok-leaving-in-None.ensures
    ∙ ap (λ (l : VoltageLevel). leaving_marked (nodes l) c.as_slice-in-None.result.now 0 l.switches c.args.states.now) c.in_ok-indices.ensures
    ∙ ap (λ z. leaving_marked (nodes level) z 0 level.switches c.args.states.now)
    (c.as_slice-in-None.ensures.value ∙ c.in_ok-core.ensures.marks ∙ ap (λ z. marks_where level z c.args.node) (c.as_slice.ensures.value ∙ c.in_ok-closed.ensures))
    ∙ leaving_same level c.args.states.now c.args.node c.keeps.ensures c.requires.flags (among_In c.args.node (nodes level) c.requires.node) in
    ap Opens places
    ∙ planned at (Opens (leaving now (core_of now c.args.node)))
    (opens (leaving now (core_of now c.args.node)) (core_busbar now (core_of now c.args.node)) (sym (core_bar at) ∙ ap option_copied c.in-None.is))

pub returns-clause-plan : goal.returns-clause-plan
returns-clause-plan c = opened (goal.at.returns-clause-plan c).In_ok-leaving-in-None

pub returns-clause-disconnects : goal.returns-clause-disconnects
returns-clause-disconnects c =
    let now = positioned c.args.level.now c.args.states.now in
    let P : DisconnectPlan → Type 0 = λ z. Disconnects now c.args.node z in
    subst P (sym (opened (goal.at.returns-clause-disconnects c).In_ok-leaving-in-None))
    (disconnect_plan-Disconnects now c.args.node (node_positioned c.args.level.now c.args.states.now c.args.node c.requires.node))
