use Rattle.std.proofs.Common.{◌≡◌, ℕ, List, Bool, false, arith, sym, ◌∙◌, ap, subst, length}
use Rattle.std.specs.Prelude.{filter, IsTrue, not}
use Rattle.std.specs.List.{slice_index_or}
use Rattle.grid_level.specs.VoltageLevel.{VoltageLevel}
use Rattle.grid_level.specs.Passing.{nodes, positioned}
use Rattle.grid_groups.specs.Labels.{index_in}
use Rattle.grid_groups.proofs.Indices.{among_In, index_below}
use Rattle.grid_groups.proofs.PassingEdges.{nodes-positioned}
use Rattle.grid_paths.specs.Routes.{PathEdge, IsLeastRoute, is_route}
use Rattle.grid_connect.specs.Plans.{connect_plan_of}
use Rattle.grid_connect.specs.Indexed.{path_edges_of, AreBusbars}
use Rattle.grid_connect.specs.Effects.{Connects}
use Rattle.grid_connect.specs.declared.ConnectPlan.TheVariants.{Close}
use Rattle.grid_connect.proofs.PlanAnswers.{closes_along, planned_none}
use Rattle.grid_connect.proofs.connect.connect_over.Goals as goal
use Rattle.grid_connect.proofs.connect.connect_over.Goals.{After-drop-goals-in-Some}

pub least_path-requires-clause-goals : goal.least_path-requires-clause-goals
least_path-requires-clause-goals c =
    ap length c.as_slice.ensures.value ∙ c.in_ok-goals.ensures.long
    ∙ ap length (sym (nodes-positioned c.args.level.now c.args.states.now)) ∙ ap (λ (z : VoltageLevel). length (nodes z)) (sym c.over-paths.ensures)

pub least_path-requires-clause-few : goal.least_path-requires-clause-few
least_path-requires-clause-few c =
    let long = ap length c.as_slice.ensures.value ∙ c.in_ok-goals.ensures.long in
    omega (arith, long, c.keeps.ensures.few_nodes)

pub least_path-requires-clause-from : goal.least_path-requires-clause-from
least_path-requires-clause-from c =
    let low = index_below c.args.node (nodes c.args.level.now) (among_In c.args.node (nodes c.args.level.now) c.requires.node) in
    let long = ap length c.as_slice.ensures.value ∙ c.in_ok-goals.ensures.long in
    omega (arith, low, long, c.index_of.ensures)

along : (c : After-drop-goals-in-Some) → (connect_plan_of (positioned c.args.level.now c.args.states.now) c.args.node ≡ Close c.in_ok-opens-in-Some.opens)
    × Connects (positioned c.args.level.now c.args.states.now) c.args.node (Close c.in_ok-opens-in-Some.opens)
along c =
    let edges = path_edges_of c.over-paths.result in
    let goals = c.as_slice.result.now in
    let least : IsLeastRoute edges goals c.index_of.result c.in-Some.path = rw c.in-Some.is at c.in_ok-path.ensures.least in
    let P : List PathEdge → ℕ → Type 0 = λ es n. IsLeastRoute es goals n c.in-Some.path in
    let Q : List Bool → Type 0 = λ z. AreBusbars c.args.level.now z in
    let opens : c.in_ok-opens-in-Some.opens ≡ filter (λ p. slice_index_or c.args.states.now p false) c.in-Some.path =
    c.in_ok-opens-in-Some.ensures ∙ ap (filter (λ p. slice_index_or c.args.states.now p false)) c.slice.ensures in
    let R : List ℕ → Type 0 = λ z.
    (connect_plan_of (positioned c.args.level.now c.args.states.now) c.args.node ≡ Close z) × Connects (positioned c.args.level.now c.args.states.now) c.args.node (Close z) in
    subst R (sym opens)
    (closes_along c.args.level.now c.args.states.now c.args.node goals c.in-Some.path (subst Q (sym c.as_slice.ensures.value) c.in_ok-goals.ensures.busbars) c.requires.node
    (subst (λ es. P es (index_in (nodes c.args.level.now) c.args.node)) (ap path_edges_of c.over-paths.ensures) (subst (P edges) c.index_of.ensures least)) c.requires.flags c.requires.apart)

pub returns-in-Some-clause-plan : goal.returns-in-Some-clause-plan
returns-in-Some-clause-plan c = sym (along (goal.at.returns-in-Some-clause-plan c).After-drop-goals-in-Some).0

pub returns-in-Some-clause-connects : goal.returns-in-Some-clause-connects
returns-in-Some-clause-connects c = (along (goal.at.returns-in-Some-clause-connects c).After-drop-goals-in-Some).1

pub returns-clause-plan : goal.returns-clause-plan
returns-clause-plan c =
    let edges = path_edges_of c.over-paths.result in
    let goals = c.as_slice.result.now in
    let none : (path : List ℕ) → IsTrue (not (is_route edges goals c.index_of.result path)) = rw c.in-None.is at c.in_ok-path.ensures.none in
    let P : ℕ → Type 0 = λ n. (path : List ℕ) → IsTrue (not (is_route edges goals n path)) in
    let Q : List Bool → Type 0 = λ z. AreBusbars c.args.level.now z in
    sym (planned_none c.args.level.now c.args.states.now c.args.node edges goals
    (ap path_edges_of c.over-paths.ensures) (subst Q (sym c.as_slice.ensures.value) c.in_ok-goals.ensures.busbars) c.requires.node (subst P c.index_of.ensures none))
