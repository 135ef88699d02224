-- What a run has read and written, by the status that it ends with.
use Rattle.std.specs.Prelude.{◌≡◌, ℕ, ◌≤◌, ◌⊎◌, ⊤, List, length, Option, Some, None, Result, Ok, Err, OnOk, OnErr, nat_lt, if◌then◌else◌}
use Rattle.std.specs.Io.KnownBytes.{Appends, Keeps}
use Rattle.grid_source.specs.declared.whole.TheConstants.{MOST}
use Rattle.grid_source.specs.Whole.{ReadsToEnd, ReadsMoreThan, ReadsUpTo, IsBegun}
use Rattle.grid_report.specs.declared.pieces.ReportFault.{ReportFault}
use Rattle.grid_report.specs.declared.pieces.ReportFault.TheVariants.{Stopped, Memory}
use Rattle.grid_json.specs.declared.whole.JobFault.{JobFault}
use Rattle.grid_json.specs.declared.whole.JobFault.TheVariants as jobs
use Rattle.grid_forms.specs.declared.words.Form.{Form}
use Rattle.grid_forms.specs.declared.status.Status.{Status}
use Rattle.grid_forms.specs.declared.status.Status.TheVariants as statuses
use Rattle.grid_forms.specs.Faults.{status_for}
use Rattle.grid_cli.specs.Services.{Service, Reads, Makes, service}

-- ---- what was read

-- the input was read to its end, within the limit, and was these bytes
pub record ReadsWhole (before after : Option (List ℕ)) (bytes : List ℕ) : Type 0 where
  pub read : ReadsToEnd before after bytes
  pub within : length bytes ≤ MOST

-- the job that was read
abbrev pub ReadsJob : {J : Type 0} → (List ℕ → Result J JobFault) → Option (List ℕ) → Option (List ℕ) → J → Type 0
ReadsJob read left left' job = (bytes : List ℕ) × ReadsWhole left left' bytes × (read bytes ≡ Ok job)

-- why no job was read, and what was read of the input
abbrev pub ReadsNone : {J : Type 0} → (List ℕ → Result J JobFault) → Option (List ℕ) → Option (List ℕ) → Status → Type 0
ReadsNone read left left' statuses.ReadFault = ReadsUpTo MOST left left'
ReadsNone read left left' statuses.TooLong = ReadsMoreThan MOST left left'
ReadsNone read left left' statuses.BadJson = (bytes : List ℕ) × ReadsWhole left left' bytes × (read bytes ≡ Err jobs.BadJson)
ReadsNone read left left' (statuses.BadJob place reason) = (bytes : List ℕ) × ReadsWhole left left' bytes × (read bytes ≡ Err (jobs.BadJob place reason))
ReadsNone read left left' statuses.NoMemory = ReadsUpTo MOST left left'
ReadsNone read left left' other = ⊥

-- why the input was not read whole
abbrev pub ReadsPart : Option (List ℕ) → Option (List ℕ) → Status → Type 0
ReadsPart left left' statuses.ReadFault = ReadsUpTo MOST left left'
ReadsPart left left' statuses.TooLong = ReadsMoreThan MOST left left'
ReadsPart left left' statuses.NoMemory = ReadsUpTo MOST left left'
ReadsPart left left' other = ⊥

-- the status tells of the bytes that were read
abbrev pub TellsOf : Status → Type 0
TellsOf statuses.BadJson = ⊤
TellsOf (statuses.BadJob place reason) = ⊤
TellsOf other = ⊥

-- ---- what was written

-- what was written of a text
abbrev pub Writes : List ℕ → Option (List ℕ) → Option (List ℕ) → Status → Type 0
Writes text old new statuses.Done = Appends old new text
Writes text old new statuses.WriteFault = IsBegun old text new
Writes text old new statuses.NoMemory = IsBegun old text new
Writes text old new other = ⊥

-- a text of which this holds was handed to the sink: the whole of it after Ok, and else a front
pub record HandsOver (IsText : List ℕ → Type 0) (old new : Option (List ℕ)) (written : Result (Unit {0}) ReportFault) : Type 0 where
  pub text : List ℕ
  pub is : IsText text
  pub whole : OnOk written (Appends old new text)
  pub begun : OnErr written (IsBegun old text new)

-- the status after that
abbrev pub status_after : Result (Unit {0}) ReportFault → Status
status_after (Ok done) = statuses.Done
status_after (Err Stopped) = statuses.WriteFault
status_after (Err Memory) = statuses.NoMemory

-- for the job of the input, whole, there is a text, of which this holds
abbrev pub HasOutput : {J : Type 0} → (List ℕ → Result J JobFault) → (J → List ℕ → Type 0) → (List ℕ → Type 0) → Option (List ℕ) → Option (List ℕ) → Type 0
HasOutput {J} read IsText P left left' = (job : J) × (text : List ℕ) × ReadsJob read left left' job × IsText job text × P text

-- what a form that reads has read and written
abbrev pub OutcomeOf : {J : Type 0} → (List ℕ → Result J JobFault) → (J → List ℕ → Type 0) → Option (List ℕ) → Option (List ℕ) → Option (List ℕ) → Option (List ℕ) → Status → Type 0
OutcomeOf read IsText left left' old new statuses.Done = HasOutput read IsText (λ text. Appends old new text) left left'
OutcomeOf read IsText left left' old new statuses.Usage = ⊥
OutcomeOf read IsText left left' old new statuses.ReadFault = ReadsNone read left left' statuses.ReadFault × Keeps old new
OutcomeOf read IsText left left' old new statuses.TooLong = ReadsNone read left left' statuses.TooLong × Keeps old new
OutcomeOf read IsText left left' old new statuses.BadJson = ReadsNone read left left' statuses.BadJson × Keeps old new
OutcomeOf read IsText left left' old new (statuses.BadJob place reason) = ReadsNone read left left' (statuses.BadJob place reason) × Keeps old new
OutcomeOf read IsText left left' old new statuses.WriteFault = HasOutput read IsText (λ text. IsBegun old text new) left left'
OutcomeOf read IsText left left' old new statuses.NoMemory =
    (ReadsNone read left left' statuses.NoMemory × Keeps old new) ⊎ HasOutput read IsText (λ text. IsBegun old text new) left left'

-- what a form that reads nothing has written
abbrev pub WritesAlone : List ℕ → Option (List ℕ) → Option (List ℕ) → Option (List ℕ) → Option (List ℕ) → Status → Type 0
WritesAlone text left left' old new status = (left' ≡ left) × Writes text old new status

-- either
abbrev pub OutcomeBy : Service → Option (List ℕ) → Option (List ℕ) → Option (List ℕ) → Option (List ℕ) → Status → Type 0
OutcomeBy (Reads J read IsText warns) left left' old new status = OutcomeOf read IsText left left' old new status
OutcomeBy (Makes text) left left' old new status = WritesAlone text left left' old new status

-- what a run has read and written, where its words ask for a form, or for none
abbrev pub Outcome : Option Form → Option (List ℕ) → Option (List ℕ) → Option (List ℕ) → Option (List ℕ) → Status → Type 0
Outcome None left left' old new status = (status ≡ statuses.Usage) × (left' ≡ left) × (new ≡ old)
Outcome (Some form) left left' old new status = OutcomeBy (service form) left left' old new status

-- ---- the status that is wanted

-- bytes that are a job are done with, and else the status says why they are none
abbrev pub status_read : {J : Type 0} → Result J JobFault → Status
status_read (Ok job) = statuses.Done
status_read (Err fault) = status_for fault

-- the input may have so many bytes
abbrev pub status_within : {J : Type 0} → (List ℕ → Result J JobFault) → List ℕ → Status
status_within read bytes = if nat_lt MOST (length bytes) then statuses.TooLong else status_read (read bytes)

abbrev pub wanted_by : Service → List ℕ → Status
wanted_by (Reads J read IsText warns) bytes = status_within read bytes
wanted_by (Makes text) bytes = statuses.Done

-- the status that a form and the bytes ask for
abbrev pub wanted : Form → List ℕ → Status
wanted form bytes = wanted_by (service form) bytes

-- A fault of the source or the sink may come in place of the status that is wanted, and so may out of memory.
abbrev pub IsWanted : Status → Status → Type 0
IsWanted asked statuses.ReadFault = Unit {0}
IsWanted asked statuses.WriteFault = asked ≡ statuses.Done
IsWanted asked statuses.NoMemory = Unit {0}
IsWanted asked status = status ≡ asked

abbrev pub Exact : Option Form → Option (List ℕ) → Status → Type 0
Exact form left status = (f : Form) (bytes : List ℕ) → form ≡ Some f → left ≡ Some bytes → IsWanted (wanted f bytes) status
