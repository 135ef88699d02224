-- What the search for the least route goes over and keeps: the edges at each node, and the least cost that was found.
use Rattle.std.specs.Prelude.{◌≡◌, ◌≢◌, ℕ, ◌+◌, ◌*◌, ◌<◌, ◌≤◌, Bool, true, false, Option, Some, None, List, [], ◌∷◌, length, slice_get, slice_index, ◌⊎◌, sum, slice_set}
use Rattle.std.specs.List.Sorted.{IsPermutation}
use Rattle.std.specs.List.{Contains, slice_index_or}
use Rattle.grid_paths.specs.declared.Way.{Way}
use Rattle.grid_paths.specs.declared.Way.TheVariants.{Free, Closable, Barred}
use Rattle.grid_queue.specs.declared.net.Next.{Next}
use Rattle.grid_queue.specs.Net.{next_to}
use Rattle.grid_paths.specs.Paths.{across}
use Rattle.grid_paths.specs.Routes.{PathEdge, ends_of, is_goal}

-- more than any route costs
abbrev pub far : ℕ
far = 18446744073709551615

-- a closing weighs more than 2 ^ 32 - 1 edges
abbrev pub weight_of_lem : Way → Option ℕ
weight_of_lem Free = Some 1
weight_of_lem Closable = Some 4294967297
weight_of_lem Barred = None

-- over the edge at a place one goes from u to v, at this weight
pub record Leads (edges : List PathEdge) (u place v weight : ℕ) : Type 0 where
  pub edge : PathEdge
  pub at : slice_get edges place ≡ Some edge
  pub over : across u (ends_of edge) ≡ Some v
  pub weighs : weight_of_lem edge.way ≡ Some weight

-- the costs found so far: a goal's is 0, and a node's other cost is no less than by way of some step
abbrev pub cost_at : List ℕ → ℕ → ℕ
cost_at costs u = slice_index costs u

-- each step from x costs no less than what was found at its end
abbrev pub IsSettled : List PathEdge → List ℕ → ℕ → Type 0
IsSettled edges found x = (place v weight : ℕ) → Leads edges x place v weight → cost_at found v ≤ weight + cost_at found x

-- some step from u costs no more than what was found at u
pub record IsReached (edges : List PathEdge) (found : List ℕ) (u : ℕ) : Type 0 where
  pub place : ℕ
  pub node : ℕ
  pub weight : ℕ
  pub step : Leads edges u place node weight
  pub costs : weight + cost_at found node ≤ cost_at found u

-- the least costs of routes from each node to a goal, as far as they are below a limit; a cost from there on, if below far, is that of some route
pub record AreLeastCosts (edges : List PathEdge) (goals : List Bool) (found : List ℕ) (limit : ℕ) : Type 0 where
  pub long : length found ≡ length goals
  pub goal : (u : ℕ) → u < length goals → is_goal goals u ≡ true → cost_at found u ≡ 0
  pub ground : (u : ℕ) → u < length goals → cost_at found u ≡ 0 → is_goal goals u ≡ true
  pub reached : (u : ℕ) → u < length goals → cost_at found u < far → cost_at found u ≢ 0 → IsReached edges found u
  pub settled : (u : ℕ) → u < length goals → cost_at found u < far → cost_at found u < limit → IsSettled edges found u

-- of the steps from u that cost no more than what was found at u, none has a lesser place
abbrev pub IsLeastPlace : List PathEdge → List ℕ → ℕ → ℕ → Type 0
IsLeastPlace edges found u least = (place v weight : ℕ) → Leads edges u place v weight → weight + cost_at found v ≡ cost_at found u → least ≤ place

-- a walk to a goal, each step of which costs what it is to cost, and has the least place of those
unfoldable pub Walks : List PathEdge → List Bool → List ℕ → ℕ → List ℕ → Type 0
Walks edges goals found u [] = is_goal goals u ≡ true
Walks edges goals found u (place ∷ rest) =
    (v : ℕ) × (weight : ℕ) × Leads edges u place v weight × (weight + cost_at found v ≡ cost_at found u) × IsLeastPlace edges found u place × Walks edges goals found v rest

-- ---- the edges at a node

-- the edge leads on from u, to that node
pub record IsNext (pairs : List (ℕ × ℕ)) (u : ℕ) (next : Next) : Type 0 where
  pub pair : ℕ × ℕ
  pub at : slice_get pairs next.edge ≡ Some pair
  pub over : across u pair ≡ Some next.node

-- of edges by their ends, those that lead on from u, in order of place
pub record AreNexts (pairs : List (ℕ × ℕ)) (u : ℕ) (nexts : List Next) : Type 0 where
  pub each : (i : ℕ) (next : Next) → slice_get nexts i ≡ Some next → IsNext pairs u next
  pub all : (place v : ℕ) → IsNext pairs u (next_to place v) → (i : ℕ) × (slice_get nexts i ≡ Some (next_to place v))
  pub rising : (i j : ℕ) (next other : Next) → i ≤ j → slice_get nexts i ≡ Some next → slice_get nexts j ≡ Some other → next.edge ≤ other.edge

unfoldable pub weight_of_edge : Option PathEdge → Option ℕ
weight_of_edge (Some edge) = weight_of_lem edge.way
weight_of_edge None = None

-- the weight of the edge at a place, if it isn't barred
unfoldable pub step_weight : List PathEdge → ℕ → Option ℕ
step_weight edges place = weight_of_edge (slice_get edges place)

-- ---- the best step

-- the step costs just this much
abbrev pub IsTight : List PathEdge → List ℕ → ℕ → Next → Type 0
IsTight edges found here next = (weight : ℕ) × (step_weight edges next.edge ≡ Some weight) × (weight + cost_at found next.node ≡ here)

-- of the steps from u that cost just what was found at u, the one of least place
abbrev pub IsBest : List PathEdge → List ℕ → ℕ → Option Next → Type 0
IsBest edges found u None = (place v weight : ℕ) → Leads edges u place v weight → weight + cost_at found v ≡ cost_at found u → ⊥
IsBest edges found u (Some next) =
    (weight : ℕ) × Leads edges u next.edge next.node weight × (weight + cost_at found next.node ≡ cost_at found u) × IsLeastPlace edges found u next.edge

-- ---- the search

-- what was found and who waits, by cost and node, in the midst of the search: each node but one waits, is settled, or costs no less than from
pub record IsSearched (edges : List PathEdge) (goals : List Bool) (from : ℕ) (found : List ℕ) (front : List (ℕ × ℕ)) (but : ℕ) : Type 0 where
  pub long : length found ≡ length goals
  pub goal : (u : ℕ) → u < length goals → is_goal goals u ≡ true → cost_at found u ≡ 0
  pub ground : (u : ℕ) → u < length goals → cost_at found u ≡ 0 → is_goal goals u ≡ true
  pub reached : (u : ℕ) → u < length goals → cost_at found u < far → cost_at found u ≢ 0 → IsReached edges found u
  pub faced : (u : ℕ) → u < length goals → cost_at found u < far → cost_at found u < cost_at found from → u ≢ but → Contains front (cost_at found u, u) ⊎ IsSettled edges found u

abbrev pub AreInside : List (ℕ × ℕ) → ℕ → Type 0
AreInside front count = (e : ℕ × ℕ) → Contains front e → e.1 < count

-- the goals among so many first nodes cost 0 and wait, and all else is far
pub record IsStarted (goals : List Bool) (count : ℕ) (found : List ℕ) (front : List (ℕ × ℕ)) : Type 0 where
  pub long : length found ≡ length goals
  pub inside : AreInside front count
  pub goal : (u : ℕ) → u < count → is_goal goals u ≡ true → (cost_at found u ≡ 0) × Contains front (0, u)
  pub other : (u : ℕ) → u < length goals → (is_goal goals u ≡ false) ⊎ (count ≤ u) → cost_at found u ≡ far

-- ---- what the calls of the search do

-- twice the sum of what was found, and the count of those who wait: less after each turn
abbrev pub potential : List ℕ → List (ℕ × ℕ) → ℕ
potential found front = 2 * sum found + length front

-- a step of some weight, if it isn't barred, from a node that costs this much was taken: its end costs no more than by it
pub record Takes (weight : Option ℕ) (to cost : ℕ) (found : List ℕ) (front : List (ℕ × ℕ)) (found' : List ℕ) (front' : List (ℕ × ℕ)) : Type 0 where
  pub cases : (((w : ℕ) → weight ≡ Some w → cost_at found to ≤ w + cost) × (found' ≡ found) × (front' ≡ front))
      ⊎ ((w : ℕ) × (weight ≡ Some w) × (w + cost < cost_at found to) × (found' ≡ slice_set found to (w + cost)) × IsPermutation ((w + cost, to) ∷ front) front')
  pub falls : potential found' front' ≤ potential found front

pub record Spreads (edges : List PathEdge) (x cost : ℕ) (found : List ℕ) (front : List (ℕ × ℕ)) (found' : List ℕ) (front' : List (ℕ × ℕ)) : Type 0 where
  pub long : length found' ≡ length found
  pub inside : AreInside front (length found) → AreInside front' (length found)
  pub falls : potential found' front' ≤ potential found front
  pub settles : (goals : List Bool) (from : ℕ) → x < length goals → cost_at found x ≡ cost → IsSearched edges goals from found front x → IsSearched edges goals from found' front' (length goals)

-- a node that waited at a cost has left the front: where it costs just that, and less than from, its steps were taken
pub record Visits (edges : List PathEdge) (from cost node : ℕ) (found : List ℕ) (front : List (ℕ × ℕ)) (found' : List ℕ) (front' : List (ℕ × ℕ)) : Type 0 where
  pub long : length found' ≡ length found
  pub inside : AreInside front (length found) → AreInside front' (length found)
  pub falls : potential found' front' ≤ potential found front
  pub keeps : (goals : List Bool) → IsSearched edges goals from found ((cost, node) ∷ front) (length goals) → IsSearched edges goals from found' front' (length goals)
