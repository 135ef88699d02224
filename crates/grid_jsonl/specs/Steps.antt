-- Steps with their places and numbers, those that were refused, and their texts.
use Rattle.std.specs.Prelude.{ℕ, suc, ◌==◌, Bool, true, false, List, [], ◌∷◌, ◌++◌, length, take, find, Option, Some, None, codes, decimal}
use Rattle.std.specs.List.{count_by}
use Rattle.serde_json.specs.Data.{Data, string}
use Rattle.grid_requests.specs.declared.request.Request.{Request}
use Rattle.grid_core.specs.declared.journal.Entry.{Entry}
use Rattle.grid_core.specs.declared.reply.Reply.{Reply}
use Rattle.grid_core.specs.declared.reply.Reply.TheVariants as replies
use Rattle.grid_print.specs.Objects.{natural, given}
use Rattle.grid_print.specs.Command.{request_value}
use Rattle.grid_print.specs.Job.{line_of}
use Rattle.grid_report.specs.Commands.{command_text}
use Rattle.grid_report.specs.Replies.{answer_text}
use Rattle.grid_jsonl.specs.Trees.{ordered}
use Rattle.grid_jsonl.specs.Replies.{reply_value}

-- a step: its place in the order from 0, its number among its worker's steps from 1, and what came of it
pub record Step : Type 0 where
  pub place : ℕ
  pub number : ℕ
  pub entry : Entry

abbrev pub step_of : ℕ → ℕ → Entry → Step
step_of place number entry = record { place = place; number = number; entry = entry }

-- how many of the first steps, up to a place, are its worker's
unfoldable pub step_at : List Entry → ℕ → Entry → Step
step_at journal place entry = step_of place (count_by (λ e. e.worker == entry.worker) (take (suc place) journal)) entry

-- the steps of a journal from a place on
unfoldable pub steps_from : List Entry → ℕ → List Entry → List Step
steps_from journal place [] = []
steps_from journal place (entry ∷ rest) = step_at journal place entry ∷ steps_from journal (suc place) rest

unfoldable pub steps : List Entry → List Step
steps journal = steps_from journal 0 journal

-- ---- steps as objects

-- the members of a step that say who asked for what, by its place, its number, its worker, the working variant and the command
abbrev pub asked_fields : ℕ → ℕ → ℕ → List ℕ → Request → List (List ℕ × Data)
asked_fields place number worker variant request =
    (codes "place", natural place)
    ∷ (codes "worker", natural worker)
    ∷ (codes "step", natural number)
    ∷ (codes "variant", string variant)
    ∷ (codes "command", request_value request) ∷ []

-- the members of a step
unfoldable pub step_fields : Step → List (List ℕ × Data)
step_fields s =
    asked_fields s.place s.number s.entry.worker s.entry.variant s.entry.request
    ++ (codes "reply", reply_value s.entry.request s.entry.reply) ∷ []

abbrev pub step_value : Step → Data
step_value s = ordered (step_fields s)

-- ---- refused steps

unfoldable pub is_refused : Reply → Bool
is_refused (replies.Refused refusal) = true
is_refused other = false

unfoldable pub refused_count : List Entry → ℕ
refused_count journal = count_by (λ e. is_refused e.reply) journal

-- the refused step with the least place
unfoldable pub first_refused : List Entry → Option Step
first_refused journal = find (λ s. is_refused s.entry.reply) (steps journal)

-- the line of kind `state`
unfoldable pub state_value : List Entry → Data
state_value journal = ordered
    ((codes "kind", string (codes "state"))
    ∷ (codes "commands", natural (length journal))
    ∷ (codes "refused", natural (refused_count journal))
    ∷ given (codes "first_refused") step_value (first_refused journal))

abbrev pub state_line : List Entry → List ℕ
state_line journal = line_of (state_value journal)

-- ---- the warning

-- of a step its worker and number, and the report's line of it without the number
unfoldable pub told_text : Step → List ℕ
told_text s =
    decimal s.entry.worker ++ codes " step " ++ decimal s.number ++ codes ", "
    ++ s.entry.variant ++ codes " " ++ command_text s.entry.request ++ codes ": " ++ answer_text s.entry.reply

-- the words stand for one command as well
unfoldable pub warning_of : List Entry → Option Step → List ℕ
warning_of journal None = []
warning_of journal (Some s) =
    codes "grid: warning: " ++ decimal (refused_count journal) ++ codes " of " ++ decimal (length journal)
    ++ codes " commands refused; the first: worker " ++ told_text s ++ codes "\n"

-- nothing where no step was refused
unfoldable pub warning_text : List Entry → List ℕ
warning_text journal = warning_of journal (first_refused journal)
