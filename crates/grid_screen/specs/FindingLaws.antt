-- Laws of findings.
use Rattle.std.specs.Prelude.{◌≡◌, ℕ, ◌+◌, false, None, List, [], ◌++◌}
use Rattle.std.specs.Option.{option_map}
use Rattle.grid_json.specs.declared.format.Format.{Format}
use Rattle.grid_core.specs.Solo.{State}
use Rattle.grid_contingencies.specs.declared.Contingency.{Contingency}
use Rattle.grid_contingencies.specs.declared.Each.{Each}
use Rattle.grid_contingencies.specs.declared.Told.{Told}
use Rattle.grid_screen.specs.declared.Finding.TheVariants.{UnknownId}
use Rattle.grid_screen.specs.Bodies.{body_text, left_out}
use Rattle.grid_screen.specs.Findings.{figures_of}
use Rattle.grid_screen.specs.Found.{effect_of, amiss_or, finding_of}
use Rattle.grid_screen.specs.Outages.{first_unknown, state_without}

-- what is told of two lists, one behind the other, is what is told of the first and then of the second with what is made, and
-- as many are left out
abbrev pub TwoLists : Type 0
TwoLists = (format : Format) (only : Told) (state : State) (first second : List Contingency) (each : List Each)
    → (body_text format only state (first ++ second) each ≡ body_text format only state first [] ++ body_text format only state second each)
    × (left_out only state (first ++ second) each ≡ left_out only state first [] + left_out only state second each)

-- without a fault the finding is the first unknown id, or else the figures after what is out, and what is lost then
abbrev pub OldFindings : Type 0
OldFindings = (state : State) (name : List ℕ) (out : List (List ℕ))
    → finding_of state (record { name = name; event = record { out = out; fault = []; stuck = [] }; has_fault = false })
    ≡ amiss_or (effect_of (figures_of state) (figures_of (state_without state out)) None) (option_map UnknownId (first_unknown state.structure out))
