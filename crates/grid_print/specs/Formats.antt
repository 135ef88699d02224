-- The least format of a job.
use Rattle.std.specs.Prelude.{◌≡◌, ℕ, suc, List, Bool, false, ◌||◌, if◌then◌else◌, nat_le}
use Rattle.std.specs.List.{list_any}
use Rattle.grid_kinds.specs.declared.Injection.{Injection}
use Rattle.grid_kinds.specs.declared.Injection.TheVariants.{Load, Generator, Battery, ShuntCompensator, StaticVarCompensator, ConverterStation}
use Rattle.grid_level.specs.declared.Stand.{Stand}
use Rattle.grid_level.specs.declared.Stand.TheVariants.{Busbar, Feeder, BranchEnd}
use Rattle.grid_level.specs.VoltageLevel.{VoltageLevel}
use Rattle.grid_structure.specs.declared.Edit.{Edit}
use Rattle.grid_structure.specs.declared.Edit.TheVariants as edits
use Rattle.grid_structure.specs.Network.{Network}
use Rattle.grid_structure.specs.Sites.{levels}
use Rattle.grid_requests.specs.declared.request.Request.{Request}
use Rattle.grid_requests.specs.declared.request.Request.TheVariants as requests
use Rattle.grid_json.specs.declared.format.Format.{Format}
use Rattle.grid_json.specs.declared.command.Verb.TheVariants.{Change}
use Rattle.grid_json.specs.Formats.{number_of}
use Rattle.grid_json.specs.Command.{verb_format, edit_verb_of, verb_of}

-- the format that a kind of injections came with
unfoldable pub item_format : Injection → ℕ
item_format (Load p0 q0) = 1
item_format (Generator target_p target_v min_p max_p) = 1
item_format (Battery target_p target_q min_p max_p) = 1
item_format (ShuntCompensator section_count max_sections) = 1
item_format (StaticVarCompensator target_q) = 1
item_format (ConverterStation target_q) = 4

unfoldable pub stand_format : Stand → ℕ
stand_format Busbar = 1
stand_format (Feeder item) = item_format item
stand_format BranchEnd = 1

-- some injection of the level came with this format or a later one
unfoldable pub level_needs : ℕ → VoltageLevel → Bool
level_needs format level = list_any (λ p. nat_le format (stand_format p.stand)) level.placed

unfoldable pub network_needs : ℕ → Network → Bool
network_needs format net = list_any (level_needs format) (levels net)

-- the format that a command's words came with: its verb, and the kind of an injection that it adds
unfoldable pub edit_format : Edit → ℕ
edit_format (edits.AddInjection id level node item) = item_format item
edit_format other = verb_format (Change (edit_verb_of other))

unfoldable pub first_format : Request → ℕ
first_format (requests.Change edit) = edit_format edit
first_format other = verb_format (verb_of other)

-- some word of the script came with this format or a later one
unfoldable pub needs : ℕ → List Request → Bool
needs format script = list_any (λ request. nat_le format (first_format request)) script

-- the least format that has the words of the job; networks have words of the first and of the fourth alone
unfoldable pub least_format : Network → List (List Request) → ℕ
least_format net scripts =
    if network_needs 4 net || list_any (needs 4) scripts then 4
    else (if list_any (needs 3) scripts then 3 else (if list_any (needs 2) scripts then 2 else 1))

-- no injection of a level, or of a network, came with a later format than this one
abbrev pub HasWordsOf : Format → VoltageLevel → Type 0
HasWordsOf format level = level_needs (suc (number_of format)) level ≡ false

abbrev pub IsWrittenIn : Format → Network → Type 0
IsWrittenIn format net = network_needs (suc (number_of format)) net ≡ false
