-- What is written of a contingency, byte for byte.
use Rattle.std.specs.Prelude.{ℕ, Bool, Option, Some, None, List, [], ◌++◌, length, flat_map, codes, decimal}
use Rattle.json.specs.Print.{quoted}
use Rattle.serde_json.specs.Data.{string}
use Rattle.serde_json.specs.Written.{comma_if, compact_text}
use Rattle.grid_json.specs.declared.format.Format.{Format}
use Rattle.grid_json.specs.declared.format.Format.TheVariants as formats
use Rattle.grid_print.specs.Objects.{array_of}
use Rattle.grid_report.specs.Words.{signed}
use Rattle.grid_structure.specs.declared.SwitchAt.{SwitchAt}
use Rattle.grid_structure.specs.Network.{Network}
use Rattle.grid_figures.specs.declared.Figures.{Figures}
use Rattle.grid_screen.specs.declared.Losses.{Losses}
use Rattle.grid_screen.specs.declared.Finding.{Finding}
use Rattle.grid_screen.specs.declared.Finding.TheVariants.{UnknownId, NoBreaker, Effect}
use Rattle.grid_screen.specs.Faults.{switch_ids}

-- how many buses and components there are, and how many buses the main one has
unfoldable pub counts_text : Figures → List ℕ
counts_text f = decimal f.buses ++ codes " buses, " ++ decimal f.components ++ codes " components, main " ++ decimal f.main

unfoldable pub losses_text : Losses → List ℕ
losses_text l = codes ", lost load " ++ signed l.load ++ codes ", lost generation " ++ signed l.generation

unfoldable pub unconnected_text : Losses → List ℕ
unconnected_text l = codes ", unconnected load " ++ signed l.unconnected_load ++ codes ", unconnected generation " ++ signed l.unconnected_generation

-- a text of JSON, behind a comma where another one stands before it
abbrev pub next_text : Bool → List ℕ → List ℕ
next_text later id = comma_if later ++ quoted id

-- ids as an array of JSON, without blanks
unfoldable pub ids_text : List (List ℕ) → List ℕ
ids_text ids = compact_text (array_of string ids)

-- how many breakers tripped, and their ids
abbrev pub tripped_text : Network → Option (List SwitchAt) → List ℕ
tripped_text net None = []
tripped_text net (Some breakers) = codes ", tripped " ++ decimal (length breakers) ++ codes " " ++ ids_text (flat_map (switch_ids net) breakers)

-- in the first format, in which no breaker is stuck
unfoldable pub first_text : Finding → List ℕ
first_text (UnknownId id) = codes "unknown " ++ id
first_text (NoBreaker id) = codes "no breaker " ++ id
first_text (Effect after losses tripped) = counts_text after ++ losses_text losses

-- in the second an id stands in quotes
unfoldable pub second_text : Network → Finding → List ℕ
second_text net (UnknownId id) = codes "unknown " ++ quoted id
second_text net (NoBreaker id) = codes "no breaker " ++ quoted id
second_text net (Effect after losses tripped) = counts_text after ++ losses_text losses ++ unconnected_text losses ++ tripped_text net tripped

abbrev pub finding_text : Format → Network → Finding → List ℕ
finding_text formats.One net finding = first_text finding
finding_text later net finding = second_text net finding

-- a contingency by its name, with what is found of it
unfoldable pub screen_line : Format → Network → List ℕ → Finding → List ℕ
screen_line format net name finding = codes "contingency " ++ name ++ codes ": " ++ finding_text format net finding ++ codes "\n"
