-- The figures of a state.
use Rattle.std.specs.Prelude.{◌≡◌, ℕ, Bool, List, map, flat_map}
use Rattle.std.specs.List.{enumerate_from}
use Rattle.grid_level.specs.VoltageLevel.{VoltageLevel}
use Rattle.grid_structure.specs.Sites.{levels}
use Rattle.grid_islands.specs.Islands.{NetworkBus, bus_pairs}
use Rattle.grid_core.specs.declared.case.Case.{Case}
use Rattle.grid_core.specs.Fitting.{RowsFit}
use Rattle.grid_core.specs.Solo.{State, state_seen, bus_view_at}
use Rattle.grid_figures.specs.declared.Figures.{Figures}
use Rattle.grid_screen.specs.Figures.{figures_over}

-- ---- the figures of a state

-- the buses of the bus view of the level at a place, with the watts of the state
unfoldable pub level_buses : State → ℕ × VoltageLevel → List NetworkBus
level_buses state at = map (λ b. (at.0, b)) (bus_view_at state at.0 at.1).buses

-- those of all levels, by place of level, then by least node: a bus's number is its place here
unfoldable pub state_buses : State → List NetworkBus
state_buses state = flat_map (level_buses state) (enumerate_from 0 (levels state.structure))

-- with the pairs that the branches make of them
unfoldable pub figures_of : State → Figures
figures_of state = figures_over (state_buses state) (bus_pairs state.structure (state_buses state))

-- ---- what is said of a case, whatever flags retained its switches have

-- what a case is as a state, its switches with these flags retained
abbrev pub state_in : Case → List (List Bool) → State
state_in case retained = state_seen case.structure case.states.opened retained case.powers.listed

-- one row per level, one flag per switch
abbrev pub CaseFits : Case → Type 0
CaseFits case = RowsFit case.structure case.states.opened

abbrev pub AreFigures : Case → Figures → Type 0
AreFigures case figures = (retained : List (List Bool)) → figures ≡ figures_of (state_in case retained)
