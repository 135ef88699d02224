-- What connects a node to a busbar section, and what parts it from every one.
use Rattle.std.specs.Prelude.{ℕ, Bool, true, false, not, ◌&&◌, ◌||◌, if◌then◌else◌, Option, Some, None, List, length, map, filter, find, slice_get}
use Rattle.std.specs.List.{list_all, enumerate_from}
use Rattle.grid_level.specs.declared.Switch.{Switch}
use Rattle.grid_level.specs.declared.Placed.{Placed}
use Rattle.grid_level.specs.VoltageLevel.{VoltageLevel}
use Rattle.grid_level.specs.Passing.{core, edges, ends, nodes, is_operable, joined_under, is_connected, carries_busbar, is_busbar, placed_among}
use Rattle.grid_paths.specs.Paths.{is_path, last_node, least_path, paths_from, has_node}
use Rattle.grid_connect.specs.declared.ConnectPlan.{ConnectPlan}
use Rattle.grid_connect.specs.declared.ConnectPlan.TheVariants.{Close, AlreadyConnected, NoPath}
use Rattle.grid_connect.specs.declared.DisconnectPlan.{DisconnectPlan}
use Rattle.grid_connect.specs.declared.DisconnectPlan.TheVariants.{Opens, AlreadyDisconnected, NoBreaker}

unfoldable pub all_ends : VoltageLevel → List (ℕ × ℕ)
all_ends level = map ends (edges level)

-- of a switch, if the edge at a place is one
unfoldable pub opened_at : Option Switch → Bool
opened_at (Some s) = s.opened
opened_at None = false

-- the edge at this place is an open switch
unfoldable pub is_open : VoltageLevel → ℕ → Bool
is_open level place = opened_at (slice_get level.switches place)

-- no switch, or a closed one, or an operable breaker
unfoldable pub closable_at : Option Switch → Bool
closable_at (Some s) = not s.opened || is_operable s
closable_at None = true

-- the edge at this place is an internal connection, a closed switch or an open operable breaker
unfoldable pub may_be_closed : VoltageLevel → ℕ → Bool
may_be_closed level place = closable_at (slice_get level.switches place)

-- a path from a whose last node carries a busbar section, over edges that may be closed
unfoldable pub is_closable : VoltageLevel → ℕ → List ℕ → Bool
is_closable level a path =
    is_path (all_ends level) a path
    && carries_busbar level (last_node (all_ends level) a path)
    && list_all (may_be_closed level) path

-- every closable path from a
unfoldable pub closable_paths : VoltageLevel → ℕ → List (List ℕ)
closable_paths level a = filter (is_closable level a) (paths_from (all_ends level) (length (nodes level)) a)

-- the open breakers of the least path, in path order
unfoldable pub plan_along : (ℕ → Bool) → Option (List ℕ) → ConnectPlan
plan_along costs (Some path) = Close (filter costs path)
plan_along costs None = NoPath

unfoldable pub connect_plan_of : VoltageLevel → ℕ → ConnectPlan
connect_plan_of level a =
    if is_connected level a then AlreadyConnected
    else plan_along (is_open level) (least_path (is_open level) (closable_paths level a))

-- ---- disconnecting

-- the nodes joined to a by what no operable breaker can part
unfoldable pub core_of : VoltageLevel → ℕ → List ℕ
core_of level a = filter (joined_under core level a) (nodes level)

-- the first busbar section in the core
unfoldable pub core_busbar : VoltageLevel → List ℕ → Option Placed
core_busbar level ns = find (λ p. is_busbar p.stand) (placed_among level ns)

-- a closed operable breaker with exactly one end in the core
unfoldable pub leaves_core : List ℕ → Switch → Bool
leaves_core ns s =
    not s.opened && is_operable s
    && ((has_node ns s.node1 && not (has_node ns s.node2)) || (not (has_node ns s.node1) && has_node ns s.node2))

unfoldable pub leaving : VoltageLevel → List ℕ → List ℕ
leaving level ns = map (λ e. e.0) (filter (λ e. leaves_core ns e.1) (enumerate_from 0 level.switches))

unfoldable pub opens_or : List ℕ → Option Placed → DisconnectPlan
opens_or places (Some p) = NoBreaker p.terminal
opens_or places None = Opens places

unfoldable pub disconnect_plan_of : VoltageLevel → ℕ → DisconnectPlan
disconnect_plan_of level a =
    let ns = core_of level a in
    if is_connected level a then opens_or (leaving level ns) (core_busbar level ns) else AlreadyDisconnected
