-- A job with contingencies, or its first fault.
use Rattle.std.specs.Prelude.{ℕ, ◌+◌, Bool, true, false, nat_lt, if◌then◌else◌, ℤ, pos, List, [], ◌∷◌, length, Option, Some, None, is_some, is_none, Result, Ok, Err, codes, unwrap_or}
use Rattle.std.specs.Ordering.{int_eq}
use Rattle.serde_json.specs.Data.{Data}
use Rattle.serde_json.specs.Find.{get}
use Rattle.grid_structure.specs.Network.{Network}
use Rattle.grid_value.specs.Bytes.{reading}
use Rattle.grid_json.specs.declared.fault.Fault.{Fault}
use Rattle.grid_json.specs.declared.fault.Reason.TheVariants.{Unknown, TooManyContingencies}
use Rattle.grid_json.specs.declared.format.Format.{Format}
use Rattle.grid_json.specs.declared.format.Format.TheVariants as formats
use Rattle.grid_json.specs.declared.whole.JobFault.{JobFault}
use Rattle.grid_json.specs.declared.whole.JobFault.TheVariants.{BadJson}
use Rattle.grid_json.specs.Job.{few_at}
use Rattle.grid_json.specs.Reading.{◌>>=◌, here, id_at, array_at, member_at, member_or, optional_at, some_of, only_at, object_at, whole_at, word_at}
use Rattle.grid_json.specs.Whole.{whole_job_at, or_bad_job}
use Rattle.grid_contingencies.specs.declared.Contingency.{Contingency}
use Rattle.grid_contingencies.specs.declared.Each.{Each}
use Rattle.grid_contingencies.specs.declared.Piece.{Piece}
use Rattle.grid_contingencies.specs.declared.Piece.TheVariants as pieces
use Rattle.grid_contingencies.specs.declared.Role.{Role}
use Rattle.grid_contingencies.specs.declared.Role.TheVariants as roles
use Rattle.grid_contingencies.specs.declared.Told.{Told}
use Rattle.grid_contingencies.specs.declared.Told.TheVariants as told
use Rattle.grid_contingencies.specs.declared.ScreenJob.{ScreenJob}
use Rattle.grid_contingencies.specs.Made.{distinct, made}

abbrev pub max_contingencies : ℕ
max_contingencies = 20000

-- ---- the format

abbrev pub format_of : ℤ → Result Format Fault
format_of number = if int_eq number (pos 1) then Ok formats.One else (if int_eq number (pos 2) then Ok formats.Two else Err (here Unknown))

-- it is the first or the second
abbrev pub format_at : Data → Result Format Fault
format_at d = whole_at d >>= format_of

-- ---- contingencies

abbrev pub ids_at : Data → Result (List (List ℕ)) Fault
ids_at d = array_at id_at d

-- a member that must be there where the flag says so
abbrev pub needed_at : {A : Type 0} → Bool → (Data → Result A Fault) → List ℕ → Data → Result (Option A) Fault
needed_at true read name d = some_of (member_at read name d)
needed_at false read name d = optional_at read name d

-- the object has the member
abbrev pub has_member : List ℕ → Data → Bool
has_member name d = is_some (get name d)

-- in the first format: what is out alone
unfoldable pub outage_at : Data → Result Contingency Fault
outage_at d = do
  _ ← only_at (codes "name" ∷ codes "out" ∷ []) d
  name ← member_at id_at (codes "name") d
  out ← member_at ids_at (codes "out") d
  Ok (record { name = name; event = record { out = out; fault = []; stuck = [] }; has_fault = false })

-- in the second: what is out must be there where nothing is hit, and what is hit where a breaker is stuck
unfoldable pub fault_at : Data → Result Contingency Fault
fault_at d = do
  _ ← only_at (codes "name" ∷ codes "out" ∷ codes "fault" ∷ codes "stuck" ∷ []) d
  name ← member_at id_at (codes "name") d
  out ← needed_at (is_none (get (codes "fault") d)) ids_at (codes "out") d
  fault ← needed_at (has_member (codes "stuck") d) ids_at (codes "fault") d
  stuck ← optional_at ids_at (codes "stuck") d
  Ok (record { name = name; event = record { out = unwrap_or out []; fault = unwrap_or fault []; stuck = unwrap_or stuck [] }; has_fault = is_some fault })

abbrev pub contingency_at : Format → Data → Result Contingency Fault
contingency_at formats.One d = outage_at d
contingency_at later d = fault_at d

-- how many there are is looked at before them
abbrev pub contingencies_at : Format → Data → Result (List Contingency) Fault
contingencies_at format d = few_at max_contingencies TooManyContingencies (contingency_at format) d

-- ---- what is made

abbrev pub piece_words : List (List ℕ × Piece)
piece_words =
    (codes "LINE", pieces.Line) ∷ (codes "TWO_WINDINGS", pieces.TwoWindings) ∷ (codes "THREE_WINDINGS", pieces.ThreeWindings) ∷ (codes "GENERATOR", pieces.Generator)
    ∷ (codes "LOAD", pieces.Load) ∷ (codes "BUSBAR_SECTION", pieces.BusbarSection) ∷ (codes "BREAKER", pieces.Breaker) ∷ []

abbrev pub piece_at : Data → Result Piece Fault
piece_at d = word_at piece_words d

abbrev pub role_at : Data → Result Role Fault
role_at d = word_at ((codes "out", roles.Out) ∷ (codes "fault", roles.Fault) ∷ []) d

unfoldable pub item_at : Data → Result Each Fault
item_at d = do
  _ ← only_at (codes "kind" ∷ codes "as" ∷ []) d
  kind ← member_at piece_at (codes "kind") d
  role ← member_at role_at (codes "as") d
  Ok (record { kind = kind; role = role })

-- so many contingencies and those that the loaded network has by the items are few enough
unfoldable pub few_made : Network → ℕ → List Each → Result (List Each) Fault
few_made net listed items = if nat_lt max_contingencies (listed + length (made net items)) then Err (here TooManyContingencies) else Ok (distinct items)

-- the items, each once
abbrev pub each_at : Network → ℕ → Data → Result (List Each) Fault
each_at net listed d = array_at item_at d >>= few_made net listed

abbrev pub told_at : Data → Result Told Fault
told_at d = word_at ((codes "all", told.All) ∷ (codes "losses", told.Losses) ∷ []) d

-- ---- the root

-- in the first format the job is read whole before the contingencies
unfoldable pub first_root_at : Data → Result ScreenJob Fault
first_root_at d = do
  _ ← only_at (codes "format" ∷ codes "job" ∷ codes "contingencies" ∷ []) d
  job ← member_at whole_job_at (codes "job") d
  contingencies ← member_at (contingencies_at formats.One) (codes "contingencies") d
  Ok (record { format = formats.One; job = job; variant = None; contingencies = contingencies; each = []; only = told.All })

-- in the second the variant comes before them; what is made is counted once its items are read
unfoldable pub second_root_at : Data → Result ScreenJob Fault
second_root_at d = do
  _ ← only_at (codes "format" ∷ codes "job" ∷ codes "variant" ∷ codes "contingencies" ∷ codes "each" ∷ codes "only" ∷ []) d
  job ← member_at whole_job_at (codes "job") d
  variant ← optional_at id_at (codes "variant") d
  contingencies ← member_at (contingencies_at formats.Two) (codes "contingencies") d
  each ← member_or [] (each_at job.network (length contingencies)) (codes "each") d
  only ← member_or told.All told_at (codes "only") d
  Ok (record { format = formats.Two; job = job; variant = variant; contingencies = contingencies; each = each; only = only })

abbrev pub root_at : Format → Data → Result ScreenJob Fault
root_at formats.One d = first_root_at d
root_at later d = second_root_at d

-- the format is read before all else, and is the first where it is absent
unfoldable pub screen_at : Data → Result ScreenJob Fault
screen_at d = do
  _ ← object_at d
  format ← member_or formats.One format_at (codes "format") d
  root_at format d

abbrev pub screen_job_in : Option Data → Result ScreenJob JobFault
screen_job_in None = Err BadJson
screen_job_in (Some d) = or_bad_job (screen_at d)

-- BadJson where the bytes spell no JSON value, else the first fault with its place, else the job with its contingencies
unfoldable pub screen_job_of : List ℕ → Result ScreenJob JobFault
screen_job_of bytes = screen_job_in (reading bytes)
