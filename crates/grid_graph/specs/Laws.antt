-- What holds of joined nodes and of their groups, whatever the pairs are.
use Rattle.std.specs.Prelude.{◌≡◌, ℕ, ◌≤◌, eqb, Bool, IsTrue, Some, List, All, slice_get}
use Rattle.std.specs.List.{list_any}
use Rattle.std.specs.List.Sorted.{IsStrictlyIncreasing}
use Rattle.grid_graph.specs.Joined.{within, joined, least_nodes, group_of}

abbrev pub is_among : List ℕ → ℕ → Bool
is_among nodes a = list_any (eqb a) nodes

-- both ends of each pair are nodes
abbrev pub EndsAmong : List ℕ → List (ℕ × ℕ) → Type 0
EndsAmong nodes pairs = All (λ pair. IsTrue (is_among nodes pair.0) × IsTrue (is_among nodes pair.1)) pairs

-- ---- joined is an equivalence

abbrev pub JoinedIsReflexive : Type 0
JoinedIsReflexive = (nodes : List ℕ) (pairs : List (ℕ × ℕ)) (a : ℕ) → IsTrue (joined nodes pairs a a)

abbrev pub JoinedIsSymmetric : Type 0
JoinedIsSymmetric =
    (nodes : List ℕ) (pairs : List (ℕ × ℕ)) → EndsAmong nodes pairs → (a b : ℕ)
    → IsTrue (is_among nodes b) → IsTrue (joined nodes pairs a b) → IsTrue (joined nodes pairs b a)

abbrev pub JoinedIsTransitive : Type 0
JoinedIsTransitive =
    (nodes : List ℕ) (pairs : List (ℕ × ℕ)) → EndsAmong nodes pairs → (a b c : ℕ)
    → IsTrue (is_among nodes a) → IsTrue (joined nodes pairs a b) → IsTrue (joined nodes pairs b c) → IsTrue (joined nodes pairs a c)

-- ---- steps

abbrev pub MoreStepsReachNoLess : Type 0
MoreStepsReachNoLess = (pairs : List (ℕ × ℕ)) (fewer more a b : ℕ) → fewer ≤ more → IsTrue (within pairs fewer a b) → IsTrue (within pairs more a b)

-- whatever any number of steps reaches, as many steps as there are nodes do
abbrev pub StepsSuffice : Type 0
StepsSuffice =
    (nodes : List ℕ) (pairs : List (ℕ × ℕ)) → EndsAmong nodes pairs → (steps a b : ℕ)
    → IsTrue (is_among nodes a) → IsTrue (within pairs steps a b) → IsTrue (joined nodes pairs a b)

-- ---- groups

-- a group begins with its least node
abbrev pub LeastNodesComeFirst : Type 0
LeastNodesComeFirst =
    (nodes : List ℕ) (pairs : List (ℕ × ℕ)) → IsStrictlyIncreasing nodes → (a : ℕ)
    → IsTrue (is_among (least_nodes nodes pairs) a) → slice_get (group_of nodes pairs a) 0 ≡ Some a

-- each node is joined to a least node
abbrev pub EachNodeIsLed : Type 0
EachNodeIsLed =
    (nodes : List ℕ) (pairs : List (ℕ × ℕ)) → IsStrictlyIncreasing nodes → EndsAmong nodes pairs → (b : ℕ)
    → IsTrue (is_among nodes b) → (a : ℕ) × IsTrue (is_among (least_nodes nodes pairs) a) × IsTrue (joined nodes pairs a b)

-- no node is joined to two least nodes
abbrev pub LeastNodesAreApart : Type 0
LeastNodesAreApart =
    (nodes : List ℕ) (pairs : List (ℕ × ℕ)) → EndsAmong nodes pairs → (a c b : ℕ)
    → IsTrue (is_among nodes b) → IsTrue (is_among (least_nodes nodes pairs) a) → IsTrue (is_among (least_nodes nodes pairs) c)
    → IsTrue (joined nodes pairs a b) → IsTrue (joined nodes pairs c b) → a ≡ c
