-- What the line of kind `state` tells of a journal.
use Rattle.std.specs.Prelude.{◌≡◌, ℕ, List, length, All, option_map}
use Rattle.grid_core.specs.declared.journal.Entry.{Entry}
use Rattle.grid_jsonl.specs.Steps.{Step, refused_count, first_refused}
use Rattle.grid_told.specs.Held.{IsUnsigned}
use Rattle.grid_told.specs.Outcomes.{IsEntry}
use Rattle.grid_told.specs.Told.{Said, said_of}

-- what a journal's types hold
pub record IsJournal (journal : List Entry) : Type 0 where
  pub entries : All IsEntry journal
  pub commands : IsUnsigned (length journal)

-- a step by its place in the order and its number among its worker's, and what was said: its worker, its working
-- variant, its request and its reply
pub record StepSaid : Type 0 where
  pub place : ℕ
  pub number : ℕ
  pub said : Said

unfoldable pub step_said : Step → StepSaid
step_said s = record { place = s.place; number = s.number; said = said_of s.entry }

-- two journals have equal counts of commands and of refused ones, and equal first refused steps, or neither has one
pub record StepsAlike (journal other : List Entry) : Type 0 where
  pub commands : length journal ≡ length other
  pub refused : refused_count journal ≡ refused_count other
  pub first_refused : option_map step_said (first_refused journal) ≡ option_map step_said (first_refused other)
