-- Which equipment stands in a bus of a state, and the watts of what stands in none any more.
use Rattle.std.specs.Prelude.{ℕ, ℤ, Bool, not, ◌&&◌, List, filter}
use Rattle.std.specs.List.{list_any}
use Rattle.grid_ids.specs.Name.{same_id}
use Rattle.grid_level.specs.declared.Stand.{Stand}
use Rattle.grid_watts.specs.Watts.{terminals, watts_sum}
use Rattle.grid_core.specs.Solo.{State}
use Rattle.grid_screen.specs.Findings.{state_buses}

-- a terminal of the equipment stands in a bus
unfoldable pub stands_in_bus : State → List ℕ → Bool
stands_in_bus state id = list_any (λ bus. list_any (λ t. same_id id t.equipment) bus.1.terminals) (state_buses state)

-- the equipment stands in a bus before, and in none after
unfoldable pub is_unconnected : State → State → List ℕ → Bool
is_unconnected before after id = stands_in_bus before id && not (stands_in_bus after id)

-- the watts before of just those of which this holds, among what the test picks
unfoldable pub unconnected_watts : (Stand → Bool) → State → State → ℤ
unconnected_watts test before after = watts_sum before.powers (filter (λ p. test p.stand && is_unconnected before after p.terminal.equipment) (terminals before.structure))
