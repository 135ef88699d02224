-- A printed job is read back as that job.
use Rattle.std.proofs.Common.{◌≡◌, ℕ, List, Option, Some, None, Ok, refl}
use Rattle.std.specs.Prelude.{IfSome}
use Rattle.grid_events.specs.declared.filter.Filter.{Filter}
use Rattle.grid_requests.specs.declared.request.Request.{Request}
use Rattle.grid_structure.specs.Network.{Network}
use Rattle.grid_value.specs.Bytes.{reading}
use Rattle.grid_json.specs.declared.fault.Reason.TheVariants.{TooManyListeners}
use Rattle.grid_json.specs.declared.format.Format.{Format}
use Rattle.grid_json.specs.declared.format.Format.TheVariants.{One}
use Rattle.grid_json.specs.declared.whole.Job.{Job}
use Rattle.grid_json.specs.Formats.{number_of}
use Rattle.grid_json.specs.Job.{max_listeners, format_at, listener_at, draft_at}
use Rattle.grid_json.specs.Whole.{loaded, draft_of, job_of, whole_job_at}
use Rattle.grid_print.specs.Objects.{members_from, natural}
use Rattle.grid_print.specs.Job.{job_value, listener_value}
use Rattle.grid_print.specs.Readable.{IsReadable}
use Rattle.grid_print.proofs.RoundTrips.{networks_are_read}
use Rattle.grid_print.proofs.NetworkLoad.{networks_are_loaded}
use Rattle.grid_reading_back.specs.Jobs.{job_draft, IsReadableFilter, IsScheduleOf, HasReadableParts, IsReadableJob}
use Rattle.grid_reading_back.proofs.Lists.{few_back}
use Rattle.grid_reading_back.proofs.Orders.{order_back}
use Rattle.grid_reading_back.proofs.Listeners.{listener_back}
use Rattle.grid_reading_back.proofs.Formats.{HasAllWords, least_has_all}
use Rattle.grid_reading_back.proofs.Scripts.{scripts_back}

format_back : (format : Format) → format_at One (natural (number_of format)) ≡ Ok format
format_back One = refl
format_back other = refl

-- in the least format
draft_in : (format : Format) (net : Network) (filters : List Filter) (scripts : List (List Request)) (order : Option (List ℕ)) → HasAllWords net scripts format → IsReadable net
    → HasReadableParts filters scripts order → IfSome order (IsScheduleOf scripts) → draft_at (job_value net filters scripts order) ≡ Ok (job_draft net filters scripts order)
unfolding draft_at job_value members_from
draft_in format net filters scripts None words fits parts scheduled =
    rw (
      words.is,
      format_back format,
      networks_are_read format net fits words.network,
      few_back (listener_at format) listener_value IsReadableFilter (listener_back format) max_listeners TooManyListeners filters parts.each_filter parts.few_filters,
      scripts_back format scripts parts.each_script words.known parts.few_scripts parts.few_commands,
    ) refl
draft_in format net filters scripts (Some order) words fits parts scheduled =
    rw (
      words.is,
      format_back format,
      networks_are_read format net fits words.network,
      few_back (listener_at format) listener_value IsReadableFilter (listener_back format) max_listeners TooManyListeners filters parts.each_filter parts.few_filters,
      scripts_back format scripts parts.each_script words.known parts.few_scripts parts.few_commands,
      order_back scripts order parts.few_scripts scheduled,
    ) refl

-- the first pass over a printed job
pub draft_back : (net : Network) (filters : List Filter) (scripts : List (List Request)) (order : Option (List ℕ)) → IsReadable net → HasReadableParts filters scripts order
    → draft_at (job_value net filters scripts order) ≡ Ok (job_draft net filters scripts order)
draft_back net filters scripts order fits parts =
    let least = least_has_all net scripts in
    draft_in least.0 net filters scripts order least.1 fits parts parts.scheduled

-- both passes
pub value_back : (job : Job) → IsReadableJob job → whole_job_at (job_value job.network job.filters job.scripts job.order) ≡ Ok job
unfolding whole_job_at loaded
value_back job fits = rw (draft_back job.network job.filters job.scripts job.order fits.network fits.parts, networks_are_loaded job.network fits.sound) refl

-- bytes that spell the printed job
pub spelled_back : (bytes : List ℕ) (job : Job) → IsReadableJob job → reading bytes ≡ Some (job_value job.network job.filters job.scripts job.order) → job_of bytes ≡ Ok job
unfolding job_of draft_of loaded
spelled_back bytes job fits read = rw (read, draft_back job.network job.filters job.scripts job.order fits.network fits.parts, networks_are_loaded job.network fits.sound) refl
