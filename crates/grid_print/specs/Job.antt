-- A job as JSON, and its text.
use Rattle.std.specs.Prelude.{ℕ, List, [], ◌∷◌, ◌++◌, codes, Option, None}
use Rattle.serde_json.specs.Data.{Data, string, array}
use Rattle.serde_json.specs.View.{items_of}
use Rattle.serde_json.specs.Written.{compact_text}
use Rattle.grid_requests.specs.declared.request.Request.{Request}
use Rattle.grid_events.specs.declared.filter.Filter.{Filter}
use Rattle.grid_structure.specs.Network.{Network}
use Rattle.grid_json.specs.declared.whole.Job.{Job}
use Rattle.grid_print.specs.Objects.{object_of, array_of, natural, given, word_if}
use Rattle.grid_print.specs.Network.{network_value}
use Rattle.grid_print.specs.Command.{request_value}
use Rattle.grid_print.specs.Formats.{least_format}

-- ---- listeners

-- the kinds that are wanted, in the order in which the format names them
unfoldable pub kinds_value : Filter → Data
kinds_value f = array (items_of
    (word_if f.created (codes "created") ++ (word_if f.removed (codes "removed") ++ (word_if f.updated (codes "updated")
    ++ (word_if f.variant_created (codes "variant_created") ++ (word_if f.variant_overwritten (codes "variant_overwritten") ++ word_if f.variant_removed (codes "variant_removed")))))))

unfoldable pub listener_value : Filter → Data
listener_value f = object_of ((codes "kinds", kinds_value f) ∷ given (codes "variant") string f.variant)

-- ---- jobs

abbrev pub script_value : List Request → Data
script_value script = array_of request_value script

-- the order is written where it is given
unfoldable pub job_value : Network → List Filter → List (List Request) → Option (List ℕ) → Data
job_value net filters scripts order = object_of
    ((codes "format", natural (least_format net scripts)) ∷ (codes "network", network_value net) ∷ (codes "listeners", array_of listener_value filters)
    ∷ (codes "workers", array_of script_value scripts) ∷ given (codes "order") (array_of natural) order)

-- the text, with one newline after it
abbrev pub line_of : Data → List ℕ
line_of d = compact_text d ++ 10 ∷ []

unfoldable pub job_text : Job → List ℕ
job_text job = line_of (job_value job.network job.filters job.scripts job.order)

-- the text of a network: the job with that network, no listeners, no workers and no order
unfoldable pub network_text : Network → List ℕ
network_text net = line_of (job_value net [] [] None)
