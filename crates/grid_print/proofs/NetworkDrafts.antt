-- The text of a network is read back as its draft, and as the network where the draft is loaded as it.
use Rattle.std.proofs.Common.{◌≡◌, ℕ, List, [], Some, None, Ok, refl}
use Rattle.grid_structure.specs.Network.{Network}
use Rattle.grid_structure.specs.Soundness.{IsSound}
use Rattle.grid_value.specs.Bytes.{reading}
use Rattle.grid_json.specs.Whole.{loaded, draft_of, job_of}
use Rattle.grid_print.specs.Job.{job_value}
use Rattle.grid_print.specs.Readable.{IsReadable}
use Rattle.grid_print.specs.Laws.{draft_alone}
use Rattle.grid_print.specs.Loads.{job_alone}
use Rattle.grid_print.proofs.RoundTrips.{network_jobs_are_read}
use Rattle.grid_print.proofs.NetworkLoad.{networks_are_loaded}

pub printed_is_drafted : (bytes : List ℕ) (net : Network) → reading bytes ≡ Some (job_value net [] [] None) → IsReadable net → draft_of bytes ≡ Ok (draft_alone net)
unfolding draft_of
printed_is_drafted bytes net read fits = rw (read, network_jobs_are_read net fits) refl

-- the job of the text of a sound network is the job of that network alone
pub printed_is_back : (bytes : List ℕ) (net : Network) → reading bytes ≡ Some (job_value net [] [] None) → IsReadable net → IsSound net → job_of bytes ≡ Ok (job_alone net)
unfolding job_of loaded
printed_is_back bytes net read fits sound = rw (printed_is_drafted bytes net read fits, networks_are_loaded net sound) refl
