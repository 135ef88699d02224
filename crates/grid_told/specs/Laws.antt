-- Laws of lines.
use Rattle.std.specs.Prelude.{Some, ◌≡◌, ℕ, ◌≤◌, List, [], ◌∷◌, ◌++◌, map, All, option_map}
use Rattle.serde_json.specs.Data.{Data, Members, no_members, depth}
use Rattle.serde_json.specs.Written.{compact_text}
use Rattle.serde_json.specs.Read.{max_depth, read}
use Rattle.serde_json.specs.Find.{get_member}
use Rattle.grid_told.specs.Trees.{HasWholes, MemberNamesDiffer, by_name, put_by_name}
use Rattle.grid_core.specs.History.{History, IsHistory}
use Rattle.grid_events.specs.declared.filter.Filter.{Filter}
use Rattle.grid_report.specs.declared.outcome.Outcome.{Outcome}
use Rattle.grid_report.specs.Histories.{outcome_of}
use Rattle.grid_jsonl.specs.Outcomes.{objects, lines}
use Rattle.grid_told.specs.Shapes.{IsReadBack}
use Rattle.grid_told.specs.Outcomes.{IsHeld, IsFitting}
use Rattle.grid_told.specs.Told.{TellAlike}
use Rattle.grid_told.specs.Splits.{split_at_newlines}

-- whatever the object is, the text of its line has no byte below 32
abbrev pub LinesAreApart : Type 0
LinesAreApart = (d : Data) → All (λ byte. 32 ≤ byte) (compact_text d)

-- the lines of objects, split at each newline, are the texts of the objects, and nothing stands behind the last newline
abbrev pub LinesAreSplit : Type 0
LinesAreSplit = (ds : List Data) → split_at_newlines (lines ds) ≡ map compact_text ds ++ [] ∷ []

-- ---- trees

-- the text of a tree of whole numbers is read as that value, with the members of each object by byte order of their names
abbrev pub TreesAreReadBack : Type 0
TreesAreReadBack = (d : Data) → HasWholes d → depth d ≤ max_depth → read (compact_text d) ≡ Some (by_name d)

-- under each name stands what stood under it, so that no member is lost and none comes in
abbrev pub MembersAreKept : Type 0
MembersAreKept = (ms : Members) (name : List ℕ) → MemberNamesDiffer ms → get_member name (put_by_name ms no_members) ≡ option_map by_name (get_member name ms)

-- and no number became a float
abbrev pub NumbersStayWhole : Type 0
NumbersStayWhole = (d : Data) → HasWholes d → HasWholes (by_name d)

-- trees of whole numbers that have one text are one
abbrev pub TextsTellTrees : Type 0
TextsTellTrees = (d e : Data) → HasWholes d → HasWholes e → compact_text d ≡ compact_text e → d ≡ e

-- ---- outcomes

-- each object of an outcome has whole numbers and names that differ, nests at most 6 deep, and its text is read by the
-- reading of jobs as the value with the same members
abbrev pub ObjectsAreReadBack : Type 0
ObjectsAreReadBack = (o : Outcome) → IsHeld o → All IsReadBack (objects o)

-- in every outcome of a history a view, or components, are the reply to a request for them, and a view has the level that
-- its request names
abbrev pub HistoriesFit : Type 0
HistoriesFit = (history : History) (filters : List Filter) → IsHistory history → IsFitting (outcome_of history filters)

-- fitting outcomes of equal lines tell alike
abbrev pub OutcomesAreTold : Type 0
OutcomesAreTold = (o p : Outcome) → IsHeld o → IsHeld p → IsFitting o → IsFitting p → lines (objects o) ≡ lines (objects p) → TellAlike o p
