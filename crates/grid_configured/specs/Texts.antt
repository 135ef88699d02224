-- The report of what came of a job with configured buses, byte for byte.
use Rattle.std.specs.Prelude.{ℕ, ◌==◌, List, [], ◌∷◌, ◌++◌, length, filter, codes, decimal}
use Rattle.std.specs.List.{flat_map, range_with_len}
use Rattle.grid_requests.specs.declared.request.Request.{Request}
use Rattle.grid_report.specs.Commands.{command_text}
use Rattle.grid_report.specs.Lines.{bus_name, terminals_text, flows_text}
use Rattle.grid_report.specs.Outcomes.{numbered, worker_line, variant_line}
use Rattle.grid_report.specs.Refusals.{refusal_text}
use Rattle.grid_configured.specs.declared.view.ConfiguredBus.{ConfiguredBus}
use Rattle.grid_configured.specs.declared.view.ConfiguredView.{ConfiguredView}
use Rattle.grid_configured.specs.declared.reply.ConfiguredReply.{ConfiguredReply}
use Rattle.grid_configured.specs.declared.reply.ConfiguredReply.TheVariants as replies
use Rattle.grid_configured.specs.declared.outcome.ConfiguredVariant.{ConfiguredVariant}

-- ---- buses

-- a bus by its level's id and its place, the buses that it joins, its connected terminals, and its sums
unfoldable pub bus_line : List ℕ → ConfiguredBus → List ℕ
bus_line level b =
    codes "  bus " ++ bus_name level b.place
    ++ codes " |" ++ flat_map (λ id. 32 ∷ id) b.buses
    ++ codes " |" ++ terminals_text b.terminals
    ++ flows_text b.load b.generation

-- the lines of the buses of a view
unfoldable pub bus_lines : ConfiguredView → List ℕ
bus_lines v = flat_map (bus_line v.level) v.buses

-- how many buses there are; the word stands for one as well
abbrev pub count_text : ConfiguredView → List ℕ
count_text v = decimal (length v.buses) ++ codes " buses"

-- a level's line with its buses
unfoldable pub level_text : ConfiguredView → List ℕ
level_text v = codes "level " ++ v.level ++ codes ": " ++ count_text v ++ codes "\n" ++ bus_lines v

-- ---- replies

-- the answer on the command's line
unfoldable pub answer_text : ConfiguredReply → List ℕ
answer_text replies.Done = codes "done"
answer_text replies.Unchanged = codes "unchanged"
answer_text replies.AlreadyConnected = codes "already connected"
answer_text replies.AlreadyDisconnected = codes "already disconnected"
answer_text (replies.View view) = count_text view
answer_text replies.Created = codes "created"
answer_text replies.Overwritten = codes "overwritten"
answer_text (replies.Refused refusal) = codes "refused " ++ refusal_text refusal

-- the lines below it
unfoldable pub detail_lines : ConfiguredReply → List ℕ
detail_lines (replies.View view) = bus_lines view
detail_lines other = []

-- ---- workers

-- what a report tells of a step: the worker, its working variant before the step, what it asked, and what it was answered
pub record Told : Type 0 where
  pub worker : ℕ
  pub variant : List ℕ
  pub request : Request
  pub reply : ConfiguredReply

-- the worker of each step, in the order of the steps
unfoldable pub order_line : List Told → List ℕ
order_line told = codes "order" ++ flat_map (λ t. codes " " ++ decimal t.worker) told ++ codes "\n"

-- a step with its number and the working variant before it, and the lines below
unfoldable pub step_text : ℕ → Told → List ℕ
step_text number t =
    decimal number ++ codes " " ++ t.variant ++ codes " " ++ command_text t.request ++ codes ": " ++ answer_text t.reply ++ codes "\n" ++ detail_lines t.reply

unfoldable pub steps_by : ℕ → List Told → List Told
steps_by worker told = filter (λ t. t.worker == worker) told

-- a worker's steps, numbered from 1
unfoldable pub worker_text : List Told → ℕ → List ℕ
worker_text told worker = worker_line worker ++ numbered step_text 1 (steps_by worker told)

-- ---- variants

-- a variant with the views of its levels
unfoldable pub variant_text : ConfiguredVariant → List ℕ
variant_text v = variant_line v.name ++ flat_map level_text v.views

-- ---- the report

-- the steps, the oldest first; the count of workers; and the live variants, by byte order of names
pub record Report : Type 0 where
  pub told : List Told
  pub workers : ℕ
  pub views : List ConfiguredVariant

-- the workers are numbered from 0
unfoldable pub report_of : Report → List ℕ
report_of r =
    order_line r.told
    ++ flat_map (worker_text r.told) (range_with_len 0 r.workers)
    ++ flat_map variant_text r.views
    ++ codes "end\n"
