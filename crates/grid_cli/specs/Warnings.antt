-- What a run warns of.
use Rattle.std.specs.Prelude.{◌≡◌, ℕ, List, [], Option, Some, Result}
use Rattle.grid_json.specs.declared.whole.JobFault.{JobFault}
use Rattle.grid_forms.specs.declared.words.Form.{Form}
use Rattle.grid_forms.specs.declared.status.Status.{Status}
use Rattle.grid_forms.specs.declared.status.Status.TheVariants as statuses
use Rattle.grid_cli.specs.Services.{Service, Reads, Makes, service}
use Rattle.grid_cli.specs.Once.{ReadsJob}

-- the warning is that of the job in the bytes that were read
abbrev pub IsWarningOf : {J : Type 0} → (List ℕ → Result J JobFault) → (J → List ℕ) → Option (List ℕ) → Option (List ℕ) → List ℕ → Type 0
IsWarningOf {J} read warns left left' warning = (job : J) × ReadsJob read left left' job × (warning ≡ warns job)

-- what a form that is done with warns of
abbrev pub WarnsBy : Service → Option (List ℕ) → Option (List ℕ) → List ℕ → Type 0
WarnsBy (Reads J read IsText warns) left left' warning = IsWarningOf read warns left left' warning
WarnsBy (Makes text) left left' warning = warning ≡ []

-- and after every other status of nothing
abbrev pub Warns : Option Form → Option (List ℕ) → Option (List ℕ) → Status → List ℕ → Type 0
Warns (Some form) left left' statuses.Done warning = WarnsBy (service form) left left' warning
Warns form left left' status warning = warning ≡ []
