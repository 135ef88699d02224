-- The status that the bytes ask for, from what a run has read and written.
use Rattle.std.proofs.Common.{◌≡◌, ℕ, ◌<◌, ◌++◌, List, length, Option, None, Some, Result, refl, sym, ap, ◌∙◌, subst, append-nil, length-append, arith}
use Rattle.std.specs.Io.KnownBytes.{Consumes, IsAtEnd}
use Rattle.std.proofs.lemmas.Bool.{le-ltb, lt-ltb}
use Rattle.grid_source.specs.declared.whole.TheConstants.{MOST}
use Rattle.grid_json.specs.declared.whole.JobFault.{JobFault}
use Rattle.grid_forms.specs.declared.words.Form.{Form}
use Rattle.grid_forms.specs.declared.status.Status.{Status}
use Rattle.grid_forms.specs.declared.status.Status.TheVariants as statuses
use Rattle.grid_cli.specs.Services.{Service, Reads, Makes, service}
use Rattle.grid_cli.specs.Once.{ReadsWhole, Outcome, OutcomeBy, OutcomeOf, WritesAlone, status_read, status_within, wanted, wanted_by, IsWanted, Exact}

all_of : (bytes b : List ℕ) (left' : Option (List ℕ)) → Consumes (Some bytes) left' b → IsAtEnd left' → bytes ≡ b
all_of bytes b None p q = absurd p
all_of bytes b (Some r) p q = p ∙ ap (λ l. b ++ l) q ∙ append-nil b

-- the bytes that were read whole decide
decided : {J : Type 0} (read : List ℕ → Result J JobFault) (bytes b : List ℕ) (left' : Option (List ℕ)) → ReadsWhole (Some bytes) left' b → status_within read bytes ≡ status_read (read b)
decided read bytes b left' r =
    let e : bytes ≡ b = all_of bytes b left' r.read.consumed r.read.end in
    let small = le-ltb MOST (length b) r.within in
    rw (e, small) refl

front_long : (bytes b : List ℕ) (left' : Option (List ℕ)) → MOST < length b → Consumes (Some bytes) left' b → MOST < length bytes
front_long bytes b None long p = absurd p
front_long bytes b (Some r) long p = omega (arith, ap length p, length-append b r)

-- of a form that reads
exact_read : {J : Type 0} (read : List ℕ → Result J JobFault) (IsText : J → List ℕ → Type 0) (bytes : List ℕ) (left' old new : Option (List ℕ)) (s : Status) → OutcomeOf read IsText (Some bytes) left' old new s → IsWanted (status_within read bytes) s
exact_read read IsText bytes left' old new statuses.Done o = sym (decided read bytes o.2.0 left' o.2.1 ∙ ap status_read o.2.2)
exact_read read IsText bytes left' old new statuses.Usage o = absurd o
exact_read read IsText bytes left' old new statuses.ReadFault o = tt
exact_read read IsText bytes left' old new statuses.TooLong o = rw (lt-ltb MOST (length bytes) (front_long bytes o.0.bytes left' o.0.more o.0.consumed)) refl
exact_read read IsText bytes left' old new statuses.BadJson o = sym (decided read bytes o.0.0 left' o.0.1 ∙ ap status_read o.0.2)
exact_read read IsText bytes left' old new (statuses.BadJob place reason) o = sym (decided read bytes o.0.0 left' o.0.1 ∙ ap status_read o.0.2)
exact_read read IsText bytes left' old new statuses.WriteFault o = decided read bytes o.2.0 left' o.2.1 ∙ ap status_read o.2.2
exact_read read IsText bytes left' old new statuses.NoMemory o = tt

-- of one that reads nothing
exact_made : (text : List ℕ) (left left' old new : Option (List ℕ)) (s : Status) → WritesAlone text left left' old new s → IsWanted statuses.Done s
exact_made text left left' old new statuses.Done o = refl
exact_made text left left' old new statuses.WriteFault o = refl
exact_made text left left' old new statuses.NoMemory o = tt
exact_made text left left' old new statuses.Usage o = absurd o.1
exact_made text left left' old new statuses.ReadFault o = absurd o.1
exact_made text left left' old new statuses.TooLong o = absurd o.1
exact_made text left left' old new statuses.BadJson o = absurd o.1
exact_made text left left' old new (statuses.BadJob place reason) o = absurd o.1

exact_by : (service : Service) (bytes : List ℕ) (left' old new : Option (List ℕ)) (s : Status) → OutcomeBy service (Some bytes) left' old new s → IsWanted (wanted_by service bytes) s
exact_by (Reads J read IsText warns) bytes left' old new s o = exact_read read IsText bytes left' old new s o
exact_by (Makes text) bytes left' old new s o = exact_made text (Some bytes) left' old new s o

pub exact : (form : Option Form) (left left' old new : Option (List ℕ)) (s : Status) → Outcome form left left' old new s → Exact form left s
exact None left left' old new s o f bytes e l = absurd cc
exact (Some g) None left' old new s o f bytes e l = absurd cc
exact (Some g) (Some b) left' old new s o f bytes e l =
    let h : b ≡ bytes = cc in
    let same : g ≡ f = cc in
    subst (λ x. IsWanted (wanted f x) s) h (subst (λ x. IsWanted (wanted x b) s) same (exact_by (service g) b left' old new s o))
