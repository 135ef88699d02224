-- What is told of contingencies on a state, without the last line.
use Rattle.std.specs.Prelude.{ℕ, Bool, true, not, List, ◌++◌, length, filter, flat_map}
use Rattle.grid_json.specs.declared.format.Format.{Format}
use Rattle.grid_core.specs.Solo.{State}
use Rattle.grid_contingencies.specs.declared.Contingency.{Contingency}
use Rattle.grid_contingencies.specs.declared.Each.{Each}
use Rattle.grid_contingencies.specs.declared.Told.{Told}
use Rattle.grid_contingencies.specs.declared.Told.TheVariants as whose
use Rattle.grid_contingencies.specs.Made.{made}
use Rattle.grid_screen.specs.Findings.{figures_of}
use Rattle.grid_screen.specs.Found.{finding_of, is_loss}
use Rattle.grid_screen.specs.Texts.{screen_line}

-- the listed contingencies, and then those that are made of the state's pieces
abbrev pub screened_list : State → List Contingency → List Each → List Contingency
screened_list state listed each = listed ++ made state.structure each

-- the line of a contingency is told
abbrev pub is_told : Told → State → Contingency → Bool
is_told whose.All state contingency = true
is_told whose.Losses state contingency = is_loss (figures_of state) (finding_of state contingency)

unfoldable pub told_line : Format → State → Contingency → List ℕ
told_line format state contingency = screen_line format state.structure contingency.name (finding_of state contingency)

-- the lines that are told, in order
unfoldable pub body_text : Format → Told → State → List Contingency → List Each → List ℕ
body_text format only state listed each = flat_map (told_line format state) (filter (is_told only state) (screened_list state listed each))

-- how many are not told
unfoldable pub left_out : Told → State → List Contingency → List Each → ℕ
left_out only state listed each = length (filter (λ contingency. not (is_told only state contingency)) (screened_list state listed each))
