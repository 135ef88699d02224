-- Printed scripts are read back as those scripts.
use Rattle.std.proofs.Common.{◌≡◌, ◌≤◌, suc, false, List, [], ◌∷◌, length, Ok, All, refl}
use Rattle.std.specs.Prelude.{nat_le}
use Rattle.std.specs.List.{list_any, AllByRecursion}
use Rattle.std.proofs.lemmas.Bool.{le-ltb}
use Rattle.grid_lemmas.proofs.Bools.{not_either}
use Rattle.grid_requests.specs.declared.request.Request.{Request}
use Rattle.grid_json.specs.declared.fault.Reason.TheVariants.{TooManyWorkers}
use Rattle.grid_json.specs.declared.format.Format.{Format}
use Rattle.grid_json.specs.Reading.{array_at}
use Rattle.grid_json.specs.Formats.{number_of}
use Rattle.grid_json.specs.Command.{command_at}
use Rattle.grid_json.specs.Job.{max_workers, max_commands, command_total, workers_at}
use Rattle.grid_print.specs.Objects.{array_of}
use Rattle.grid_print.specs.Command.{request_value}
use Rattle.grid_print.specs.Formats.{first_format, needs}
use Rattle.grid_print.specs.Job.{script_value}
use Rattle.grid_print.proofs.Each.{each_of, of_each}
use Rattle.grid_reading_back.specs.Requests.{IsReadableRequest, IsKnownIn}
use Rattle.grid_reading_back.specs.Jobs.{IsReadableScript}
use Rattle.grid_reading_back.proofs.Lists.{array_back, few_back}
use Rattle.grid_reading_back.proofs.Commands.{command_back}

abbrev IsFine : Format → Request → Type 0
IsFine format request = IsReadableRequest request × IsKnownIn format request

each_fine : (format : Format) (script : List Request) → AllByRecursion IsReadableRequest script → list_any (λ r. nat_le (suc (number_of format)) (first_format r)) script ≡ false
    → AllByRecursion (IsFine format) script
each_fine format [] fits known = tt
each_fine format (r ∷ script) fits known =
    let parts = not_either (nat_le (suc (number_of format)) (first_format r)) (list_any (λ q. nat_le (suc (number_of format)) (first_format q)) script) known in
    ((fits.0, parts.0), each_fine format script fits.1 parts.1)

abbrev IsFineScript : Format → List Request → Type 0
IsFineScript format script = IsReadableScript script × (needs (suc (number_of format)) script ≡ false)

pub script_back : (format : Format) (script : List Request) → IsFineScript format script → array_at (command_at format) (script_value script) ≡ Ok script
unfolding needs
script_back format script fine =
    array_back (command_at format) request_value (IsFine format) (λ r fits. command_back format r fits.0 fits.1) script
    (of_each (IsFine format) script (each_fine format script (each_of IsReadableRequest script fine.0) fine.1))

scripts_fine : (format : Format) (scripts : List (List Request)) → AllByRecursion IsReadableScript scripts → list_any (needs (suc (number_of format))) scripts ≡ false → AllByRecursion (IsFineScript format) scripts
scripts_fine format [] fits known = tt
scripts_fine format (s ∷ scripts) fits known =
    let parts = not_either (needs (suc (number_of format)) s) (list_any (needs (suc (number_of format))) scripts) known in
    ((fits.0, parts.0), scripts_fine format scripts fits.1 parts.1)

pub scripts_back : (format : Format) (scripts : List (List Request)) → All IsReadableScript scripts → list_any (needs (suc (number_of format))) scripts ≡ false
    → length scripts ≤ max_workers → command_total scripts ≤ max_commands → workers_at format (array_of script_value scripts) ≡ Ok scripts
scripts_back format scripts fits known few total =
    rw (
      few_back (array_at (command_at format)) script_value (IsFineScript format) (script_back format) max_workers TooManyWorkers scripts
          (of_each (IsFineScript format) scripts (scripts_fine format scripts (each_of IsReadableScript scripts fits) known)) few,
      le-ltb max_commands (command_total scripts) total,
    ) refl
