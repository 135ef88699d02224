-- The edges and nodes of a level, and which of its edges pass.
use Rattle.std.specs.Prelude.{ℕ, Bool, true, false, not, ◌&&◌, ◌==◌, nat_lt, if◌then◌else◌, Option, List, [], ◌∷◌, ◌++◌, map, filter, find, flat_map}
use Rattle.std.specs.List.{list_any, list_all}
use Rattle.grid_kinds.specs.declared.SwitchKind.{SwitchKind}
use Rattle.grid_kinds.specs.declared.SwitchKind.TheVariants.{Breaker, Disconnector, LoadBreakSwitch}
use Rattle.grid_level.specs.declared.Switch.{Switch}
use Rattle.grid_level.specs.declared.Internal.{Internal}
use Rattle.grid_level.specs.declared.Placed.{Placed}
use Rattle.grid_level.specs.declared.Stand.{Stand}
use Rattle.grid_level.specs.declared.Stand.TheVariants.{Busbar, Feeder, BranchEnd}
use Rattle.grid_level.specs.VoltageLevel.{VoltageLevel}
use Rattle.grid_graph.specs.Joined.{joined}

-- ---- edges and nodes

pub data Edge : Type 0 where
  switch_edge : Switch → Edge
  internal_edge : Internal → Edge

-- the switches, then the internal connections
unfoldable pub edges : VoltageLevel → List Edge
edges level = map switch_edge level.switches ++ map internal_edge level.internals

-- the two nodes of a switch
abbrev pub switch_ends : Switch → ℕ × ℕ
switch_ends s = (s.node1, s.node2)

unfoldable pub ends : Edge → ℕ × ℕ
ends (switch_edge s) = switch_ends s
ends (internal_edge i) = (i.node1, i.node2)

-- a rising list with one more number, where it is not there yet
unfoldable pub with_node : ℕ → List ℕ → List ℕ
with_node n [] = n ∷ []
with_node n (m ∷ rest) = if nat_lt m n then m ∷ with_node n rest else if m == n then m ∷ rest else n ∷ m ∷ rest

-- the numbers of a list, rising, each once
unfoldable pub rising : List ℕ → List ℕ
rising [] = []
rising (n ∷ rest) = with_node n (rising rest)

unfoldable pub both : ℕ × ℕ → List ℕ
both pair = pair.0 ∷ pair.1 ∷ []

-- each node once for each time that an edge or a terminal names it
unfoldable pub named : VoltageLevel → List ℕ
named level = flat_map (λ e. both (ends e)) (edges level) ++ map (λ p. p.node) level.placed

-- the nodes that an edge or a terminal names, rising
unfoldable pub nodes : VoltageLevel → List ℕ
nodes level = rising (named level)

-- strictly rising
unfoldable pub is_rising : List ℕ → Bool
is_rising [] = true
is_rising (n ∷ rest) = list_all (nat_lt n) rest && is_rising rest

-- ---- passing

pub data Rule : Type 0 where
  bus : Rule
  breaker : Rule
  core : Rule

unfoldable pub is_breaker : SwitchKind → Bool
is_breaker Breaker = true
is_breaker Disconnector = false
is_breaker LoadBreakSwitch = false

-- a breaker that is not fictitious
unfoldable pub is_operable : Switch → Bool
is_operable s = is_breaker s.kind && not s.fictitious

-- whether a closed switch passes
unfoldable pub passes_closed : Rule → Switch → Bool
passes_closed bus s = true
passes_closed breaker s = not s.retained
passes_closed core s = not (is_operable s)

-- an open switch passes under no rule
unfoldable pub switch_passes : Rule → Switch → Bool
switch_passes rule s = not s.opened && passes_closed rule s

-- the ends of the passing edges: the closed switches that the rule lets pass, and each internal connection
unfoldable pub passing : Rule → VoltageLevel → List (ℕ × ℕ)
passing rule level =
    map (λ s. ends (switch_edge s)) (filter (switch_passes rule) level.switches) ++ map (λ i. ends (internal_edge i)) level.internals

-- b is joined to a under the rule
unfoldable pub joined_under : Rule → VoltageLevel → ℕ → ℕ → Bool
joined_under rule level a b = joined (nodes level) (passing rule level) a b

-- ---- present flags

-- the switches, each in its present position, true for open
unfoldable pub with_opened : List Switch → List Bool → List Switch
with_opened (s ∷ rest) (flag ∷ flags) = record s { opened = flag } ∷ with_opened rest flags
with_opened switches flags = switches

-- the switches, each with its present flag retained
unfoldable pub with_retained : List Switch → List Bool → List Switch
with_retained (s ∷ rest) (flag ∷ flags) = record s { retained = flag } ∷ with_retained rest flags
with_retained switches flags = switches

-- the level with its switches in these positions
unfoldable pub positioned : VoltageLevel → List Bool → VoltageLevel
positioned level opened = record level { switches = with_opened level.switches opened }

-- the level as it stands: its switches with their present flags opened and retained
unfoldable pub stood : VoltageLevel → List Bool → List Bool → VoltageLevel
stood level opened retained = record level { switches = with_retained (with_opened level.switches opened) retained }

-- ---- terminals

unfoldable pub stands_at : ℕ → Placed → Bool
stands_at node p = p.node == node

unfoldable pub placed_at : VoltageLevel → ℕ → Option Placed
placed_at level node = find (stands_at node) level.placed

unfoldable pub is_busbar : Stand → Bool
is_busbar Busbar = true
is_busbar (Feeder item) = false
is_busbar BranchEnd = false

unfoldable pub is_branch_end : Stand → Bool
is_branch_end Busbar = false
is_branch_end (Feeder item) = false
is_branch_end BranchEnd = true

-- what stands at the nodes of a list, by rising node
unfoldable pub placed_among : VoltageLevel → List ℕ → List Placed
placed_among level ns = filter (λ p. list_any (λ n. p.node == n) ns) level.placed

unfoldable pub carries_busbar : VoltageLevel → ℕ → Bool
carries_busbar level node = list_any (λ p. stands_at node p && is_busbar p.stand) level.placed

-- joined under bus to a node that carries a busbar section
unfoldable pub is_connected : VoltageLevel → ℕ → Bool
is_connected level a = list_any (λ b. carries_busbar level b && joined_under bus level a b) (nodes level)
