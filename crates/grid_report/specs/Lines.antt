-- The lines of a report on buses, byte for byte.
use Rattle.std.specs.Prelude.{ℕ, ℤ, List, [], ◌∷◌, ◌++◌, length, codes, decimal}
use Rattle.std.specs.List.{flat_map}
use Rattle.grid_level.specs.declared.Terminal.{Terminal}
use Rattle.grid_busview.specs.declared.ViewBus.{ViewBus}
use Rattle.grid_busview.specs.declared.BusView.{BusView}
use Rattle.grid_report.specs.Words.{signed}

abbrev pub terminal_text : Terminal → List ℕ
terminal_text t = t.equipment ++ codes "." ++ decimal t.side

-- a bus is named by its level's id and its least node
abbrev pub bus_name : List ℕ → ℕ → List ℕ
bus_name level least = level ++ codes "_" ++ decimal least

-- each terminal behind a space, or a dash
abbrev pub terminals_text : List Terminal → List ℕ
terminals_text [] = codes " -"
terminals_text (t ∷ ts) = flat_map (λ x. 32 ∷ terminal_text x) (t ∷ ts)

-- a bus by its name, its nodes and its terminals
abbrev pub bus_text : List ℕ → ℕ → List ℕ → List Terminal → List ℕ
bus_text level least nodes terminals = codes "  bus " ++ bus_name level least
    ++ codes " |" ++ flat_map (λ n. 32 ∷ decimal n) nodes
    ++ codes " |" ++ terminals_text terminals

abbrev pub flows_text : ℤ → ℤ → List ℕ
flows_text load generation = codes " | load " ++ signed load ++ codes " | generation " ++ signed generation ++ codes "\n"

abbrev pub bus_line : List ℕ → ViewBus → List ℕ
bus_line level b = bus_text level b.least b.nodes b.terminals ++ flows_text b.load b.generation

-- the lines of the buses of a view
unfoldable pub bus_lines : BusView → List ℕ
bus_lines v = flat_map (bus_line v.level) v.buses

-- how many buses there are; the word stands for one as well
abbrev pub count_text : BusView → List ℕ
count_text v = decimal (length v.buses) ++ codes " buses"

-- a level's line with its buses
unfoldable pub level_text : BusView → List ℕ
level_text v = codes "level " ++ v.level ++ codes ": " ++ count_text v ++ codes "\n" ++ bus_lines v
