-- What was read and written, put together.
use Rattle.std.proofs.Common.{◌≡◌, ◌≢◌, ◌∙◌, ◌++◌, ℕ, List, Option, None, Some, Result, Ok, Err, refl, ap, sym, subst, inl, inr, take, drop, append_assoc, take-append-drop}
use Rattle.std.specs.Prelude.{OnOk, OnErr}
use Rattle.std.specs.Result.{IsErr}
use Rattle.std.specs.Io.KnownBytes.{Appends, Keeps}
use Rattle.grid_source.specs.Whole.{IsBegun}
use Rattle.grid_report.specs.declared.pieces.ReportFault.{ReportFault}
use Rattle.grid_report.specs.declared.pieces.ReportFault.TheVariants.{Stopped, Memory}
use Rattle.grid_json.specs.declared.whole.JobFault.{JobFault}
use Rattle.grid_json.specs.declared.whole.JobFault.TheVariants as jobs
use Rattle.grid_forms.specs.declared.status.Status.{Status}
use Rattle.grid_forms.specs.declared.status.Status.TheVariants as statuses
use Rattle.grid_json.specs.Whole.{JobGives}
use Rattle.grid_cli.specs.Once.{ReadsWhole, ReadsJob, ReadsNone, ReadsPart, TellsOf, Writes, HandsOver, OutcomeOf, status_after}
use Rattle.grid_report.proofs.Begun.{at_start}
use Rattle.grid_forms.specs.Faults.{status_for}

-- ---- what was written

-- a text was handed to the sink, and is the one that is wanted
pub handing : (written : Result (Unit {0}) ReportFault) (text wanted : List ℕ) (old new : Option (List ℕ)) → text ≡ wanted → OnOk written (Appends old new text) → OnErr written (IsBegun old text new)
    → HandsOver (λ t. t ≡ wanted) old new written
handing written text wanted old new is ok err = record { text = text; is = is; whole = ok; begun = err }

pub exactly : (written : Result (Unit {0}) ReportFault) (text : List ℕ) (old new : Option (List ℕ)) → OnOk written (Appends old new text) → OnErr written (IsBegun old text new) → HandsOver (λ t. t ≡ text) old new written
exactly written text old new ok err = handing written text text old new refl ok err

-- nothing was handed over
pub unbegun : (written : Result (Unit {0}) ReportFault) (text : List ℕ) (old : Option (List ℕ)) → IsErr written → HandsOver (λ t. t ≡ text) old old written
unbegun (Ok done) text old fails = absurd cc
unbegun (Err fault) text old fails = record { text = text; is = refl; whole = tt; begun = at_start old text }

-- the status after a text was handed to the sink
pub handed : (written : Result (Unit {0}) ReportFault) (text : List ℕ) (old new : Option (List ℕ)) → OnOk written (Appends old new text) → OnErr written (IsBegun old text new) → Writes text old new (status_after written)
handed (Ok done) text old new ok err = ok
handed (Err Stopped) text old new ok err = err
handed (Err Memory) text old new ok err = err

-- what is so at any rate is so where a text was written whole
pub whole_or_not : {P : Type 0} (written : Result (Unit {0}) ReportFault) → P → OnOk written P
whole_or_not (Ok done) p = p
whole_or_not (Err fault) p = tt

-- what is so where a text was written whole is so where the status is Done
pub done_after : {P : Type 0} (written : Result (Unit {0}) ReportFault) → OnOk written P → status_after written ≡ statuses.Done → P
done_after (Ok done) p is = p
done_after (Err Stopped) p is = absurd (cc)
done_after (Err Memory) p is = absurd (cc)

-- the count of faults stays where the sink is not told to have failed
pub calm : (written : Result (Unit {0}) ReportFault) (before now : ℕ) → (written ≢ Err Stopped → now ≡ before) → status_after written ≢ statuses.WriteFault → now ≡ before
calm (Ok done) before now stays told = stays (λ is. absurd (cc))
calm (Err Stopped) before now stays told = absurd (told refl)
calm (Err Memory) before now stays told = stays (λ is. absurd (cc))

-- a text was handed over of a job that was read
pub served : {J : Type 0} (read : List ℕ → Result J JobFault) (IsText : J → List ℕ → Type 0) (left left' old new : Option (List ℕ)) (job : J) (written : Result (Unit {0}) ReportFault)
    → ReadsJob read left left' job → HandsOver (IsText job) old new written → OutcomeOf read IsText left left' old new (status_after written)
served read IsText left left' old new job (Ok done) r w = (job, w.text, r, w.is, w.whole)
served read IsText left left' old new job (Err Stopped) r w = (job, w.text, r, w.is, w.begun)
served read IsText left left' old new job (Err Memory) r w = inr (job, w.text, r, w.is, w.begun)

-- nothing was read, and nothing written
pub unread : {J : Type 0} (read : List ℕ → Result J JobFault) (IsText : J → List ℕ → Type 0) (left left' old new : Option (List ℕ)) (status : Status) → ReadsNone read left left' status → Keeps old new → OutcomeOf read IsText left left' old new status
unread read IsText left left' old new statuses.Done r w = absurd r
unread read IsText left left' old new statuses.Usage r w = absurd r
unread read IsText left left' old new statuses.ReadFault r w = (r, w)
unread read IsText left left' old new statuses.TooLong r w = (r, w)
unread read IsText left left' old new statuses.BadJson r w = (r, w)
unread read IsText left left' old new (statuses.BadJob place reason) r w = (r, w)
unread read IsText left left' old new statuses.WriteFault r w = absurd r
unread read IsText left left' old new statuses.NoMemory r w = inl (r, w)

-- ---- what was read

-- the input was not read whole
pub partly : {J : Type 0} (read : List ℕ → Result J JobFault) (left left' : Option (List ℕ)) (status : Status) → ReadsPart left left' status → ReadsNone read left left' status
partly read left left' statuses.ReadFault r = r
partly read left left' statuses.TooLong r = r
partly read left left' statuses.NoMemory r = r
partly read left left' statuses.Done r = absurd r
partly read left left' statuses.Usage r = absurd r
partly read left left' statuses.BadJson r = absurd r
partly read left left' (statuses.BadJob place reason) r = absurd r
partly read left left' statuses.WriteFault r = absurd r

-- it was, and has a fault
pub faulty : {J : Type 0} (read : List ℕ → Result J JobFault) (left left' : Option (List ℕ)) (bytes : List ℕ) (result : Result J JobFault) (fault : JobFault) → ReadsWhole left left' bytes → result ≡ Err fault → JobGives result (read bytes)
    → ReadsNone read left left' (status_for fault)
faulty {J} read left left' bytes result fault whole is gives = by fault (subst (λ r. JobGives r (read bytes)) is gives)
  where
    by : (f : JobFault) → JobGives {A = J} (Err f) (read bytes) → ReadsNone read left left' (status_for f)
    by jobs.BadJson given = (bytes, whole, given)
    by (jobs.BadJob place reason) given = (bytes, whole, given)
    by jobs.Memory given = record { bytes = bytes; consumed = whole.read.consumed; few = whole.within }

-- ---- what a status tells of

-- no status tells of bytes where the input was not read whole
pub part_silent : {A : Type 0} (left left' : Option (List ℕ)) (status : Status) → ReadsPart left left' status → TellsOf status → A
part_silent left left' statuses.Done r t = absurd t
part_silent left left' statuses.Usage r t = absurd t
part_silent left left' statuses.ReadFault r t = absurd t
part_silent left left' statuses.TooLong r t = absurd t
part_silent left left' statuses.BadJson r t = absurd r
part_silent left left' (statuses.BadJob place reason) r t = absurd r
part_silent left left' statuses.WriteFault r t = absurd t
part_silent left left' statuses.NoMemory r t = absurd t

-- nor where a text was handed over
pub after_silent : {A : Type 0} (written : Result (Unit {0}) ReportFault) → TellsOf (status_after written) → A
after_silent (Ok done) t = absurd t
after_silent (Err Stopped) t = absurd t
after_silent (Err Memory) t = absurd t

-- ---- bytes that are handed over

-- a front of a text was written
pub stopped : (text : List ℕ) (done : ℕ) (old new : Option (List ℕ)) → Appends old new (take done text) → IsBegun old text new
stopped text done None new w = tt
stopped text done (Some o) None w = absurd w
stopped text done (Some o) (Some n) w = (drop done text, ap (λ z. o ++ z) (sym (take-append-drop done text)) ∙ sym (append_assoc o (take done text) (drop done text)) ∙ ap (λ z. z ++ drop done text) (sym w))
