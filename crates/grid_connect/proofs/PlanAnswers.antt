-- What the code's answer is.
use Rattle.std.proofs.Common.{◌≡◌, refl, sym, ◌∙◌, subst, ℕ, Bool, true, false, not, List, [], ◌∷◌, length}
use Rattle.std.specs.Prelude.{filter, IsTrue, Option, Some, None}
use Rattle.std.specs.List.{slice_index_or}
use Rattle.grid_graph.proofs.Reach.{In}
use Rattle.grid_level.specs.VoltageLevel.{VoltageLevel}
use Rattle.grid_level.specs.Passing.{nodes, positioned, is_connected}
use Rattle.grid_level.specs.Kept.{among}
use Rattle.grid_groups.specs.Labels.{index_in}
use Rattle.grid_groups.proofs.Indices.{among_In}
use Rattle.grid_groups.proofs.PassingEdges.{nodes-positioned}
use Rattle.grid_paths.specs.Paths.{least_path}
use Rattle.grid_paths.specs.Routes.{PathEdge, is_route, IsLeastRoute}
use Rattle.grid_connect.specs.Plans.{is_open, closable_paths, plan_along, connect_plan_of}
use Rattle.grid_connect.specs.declared.ConnectPlan.{ConnectPlan}
use Rattle.grid_connect.specs.declared.ConnectPlan.TheVariants.{Close, AlreadyConnected, NoPath}
use Rattle.grid_connect.specs.Indexed.{path_edges_of, AreBusbars}
use Rattle.grid_connect.specs.Effects.{Connects}
use Rattle.grid_connect.proofs.Lists.{bars_positioned, opens_positioned}
use Rattle.grid_connect.proofs.LeastPaths.{plan_with, least_closable, plan_least, plan_none}
use Rattle.grid_connect.proofs.SwitchPositions.{plan_connects}

-- a node of the level is one of the level as it stands, of the same index
pub node_positioned : (level : VoltageLevel) (flags : List Bool) (node : ℕ) → among (nodes level) node ≡ true → In node (nodes (positioned level flags))
node_positioned level flags node h = let P : List ℕ → Type 0 = λ z. In node z in subst P (sym (nodes-positioned level flags)) (among_In node (nodes level) h)

module _ (level : VoltageLevel) (flags : List Bool) (node : ℕ) (edges : List PathEdge) (goals : List Bool)
    (made : edges ≡ path_edges_of (positioned level flags)) (bars : AreBusbars level goals) (here : among (nodes level) node ≡ true) where
  pub planned : (path opens : List ℕ) → IsLeastRoute edges goals (index_in (nodes level) node) path → length flags ≡ length level.switches → opens ≡ filter (λ p. slice_index_or flags p false) path
      → (connect_plan_of (positioned level flags) node ≡ plan_with opens) × Connects (positioned level flags) node (plan_with opens)
  planned path opens l same o =
      let now = positioned level flags in
      let P : List PathEdge → Type 0 = λ z. IsLeastRoute z goals (index_in (nodes level) node) path in
      let Q : List ℕ → Type 0 = λ z. IsLeastRoute (path_edges_of now) goals (index_in z node) path in
      let i = node_positioned level flags node here in
      let least = least_closable now goals node path i (bars_positioned level flags goals bars) (subst Q (sym (nodes-positioned level flags)) (subst P made l)) in
      let f : filter (is_open now) path ≡ opens = opens_positioned level flags path same ∙ sym o in
      let R : List ℕ → Type 0 = λ z. (connect_plan_of now node ≡ plan_with z) × Connects now node (plan_with z) in
      subst R f (plan_least now node path i least, plan_connects now node path i least)

  pub planned_none : ((path : List ℕ) → IsTrue (not (is_route edges goals (index_in (nodes level) node) path))) → connect_plan_of (positioned level flags) node ≡ NoPath
  planned_none none =
      let now = positioned level flags in
      let P : List PathEdge → Type 0 = λ z. (path : List ℕ) → IsTrue (not (is_route z goals (index_in (nodes level) node) path)) in
      let Q : List ℕ → Type 0 = λ z. (path : List ℕ) → IsTrue (not (is_route (path_edges_of now) goals (index_in z node) path)) in
      plan_none now goals node (node_positioned level flags node here) (bars_positioned level flags goals bars) (subst Q (sym (nodes-positioned level flags)) (subst P made none))

pub plan_connected : (level : VoltageLevel) (a : ℕ) → is_connected level a ≡ true → connect_plan_of level a ≡ AlreadyConnected
unfolding connect_plan_of
plan_connected level a h = rw h refl

-- no plan along a path says that the node is connected
along_differs : (costs : ℕ → Bool) (path : Option (List ℕ)) → plan_along costs path ≡ AlreadyConnected → ⊥
unfolding plan_along
along_differs costs (Some path) e = cc
along_differs costs None e = cc

-- where the node is not connected, the plan closes something
pub plan_closes : (level : VoltageLevel) (a : ℕ) (opens : List ℕ) → is_connected level a ≡ false → connect_plan_of level a ≡ plan_with opens → plan_with opens ≡ Close opens
unfolding connect_plan_of plan_with
plan_closes level a [] h e = absurd (along_differs (is_open level) (least_path (is_open level) (closable_paths level a)) (rw h at e))
plan_closes level a (p ∷ ps) h e = refl

-- along the least route the plan closes something, and connects the node
pub closes_along : (level : VoltageLevel) (flags : List Bool) (node : ℕ) (goals : List Bool) (path : List ℕ) → AreBusbars level goals → IsTrue (among (nodes level) node)
    → IsLeastRoute (path_edges_of (positioned level flags)) goals (index_in (nodes level) node) path → length flags ≡ length level.switches → is_connected (positioned level flags) node ≡ false
    → (connect_plan_of (positioned level flags) node ≡ Close (filter (λ p. slice_index_or flags p false) path)) × Connects (positioned level flags) node (Close (filter (λ p. slice_index_or flags p false) path))
closes_along level flags node goals path bars here least same apart =
    let opens = filter (λ p. slice_index_or flags p false) path in
    let both = planned level flags node (path_edges_of (positioned level flags)) goals refl bars here path opens least same refl in
    let closes = plan_closes (positioned level flags) node opens apart both.0 in
    let P : ConnectPlan → Type 0 = λ z. Connects (positioned level flags) node z in
    (both.0 ∙ closes, subst P closes both.1)
