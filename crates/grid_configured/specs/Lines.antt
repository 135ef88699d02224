-- The lines of what came of a job with configured buses.
use Rattle.std.specs.Prelude.{ℕ, suc, ◌==◌, Bool, true, false, List, [], ◌∷◌, ◌++◌, length, filter, map, take, codes}
use Rattle.std.specs.List.{count_by, flat_map, range_with_len}
use Rattle.serde_json.specs.Data.{Data, string}
use Rattle.grid_print.specs.Objects.{array_of}
use Rattle.grid_report.specs.Lines.{bus_name}
use Rattle.grid_jsonl.specs.declared.line.Counts.{Counts}
use Rattle.grid_jsonl.specs.Trees.{ordered, sum_value}
use Rattle.grid_jsonl.specs.Parts.{terminal_value}
use Rattle.grid_jsonl.specs.Replies.{answer_of, refused_value}
use Rattle.grid_jsonl.specs.Steps.{asked_fields}
use Rattle.grid_jsonl.specs.Outcomes.{object_of_kind, order_of, variant_object, end_of}
use Rattle.grid_configured.specs.declared.view.ConfiguredBus.{ConfiguredBus}
use Rattle.grid_configured.specs.declared.view.ConfiguredView.{ConfiguredView}
use Rattle.grid_configured.specs.declared.reply.ConfiguredReply.{ConfiguredReply}
use Rattle.grid_configured.specs.declared.reply.ConfiguredReply.TheVariants as replies
use Rattle.grid_configured.specs.declared.outcome.ConfiguredVariant.{ConfiguredVariant}
use Rattle.grid_configured.specs.Texts.{Told, Report}

-- ---- buses

-- a bus of a configured view of a level
unfoldable pub bus_value : List ℕ → ConfiguredBus → Data
bus_value level b = ordered
    ((codes "id", string (bus_name level b.place))
    ∷ (codes "configured", array_of string b.buses)
    ∷ (codes "terminals", array_of terminal_value b.terminals)
    ∷ (codes "load", sum_value b.load)
    ∷ (codes "generation", sum_value b.generation) ∷ [])

abbrev pub buses_value : ConfiguredView → Data
buses_value v = array_of (bus_value v.level) v.buses

-- ---- replies

unfoldable pub reply_value : ConfiguredReply → Data
reply_value replies.Done = answer_of (codes "done") []
reply_value replies.Unchanged = answer_of (codes "unchanged") []
reply_value replies.AlreadyConnected = answer_of (codes "already connected") []
reply_value replies.AlreadyDisconnected = answer_of (codes "already disconnected") []
reply_value (replies.View view) = answer_of (codes "bus_view") ((codes "buses", buses_value view) ∷ [])
reply_value replies.Created = answer_of (codes "created") []
reply_value replies.Overwritten = answer_of (codes "overwritten") []
reply_value (replies.Refused refusal) = refused_value refusal

unfoldable pub is_refused : ConfiguredReply → Bool
is_refused (replies.Refused refusal) = true
is_refused other = false

-- ---- steps

-- a step with its place in the order from 0, and its number among its worker's steps from 1
pub record Placed : Type 0 where
  pub place : ℕ
  pub number : ℕ
  pub told : Told

abbrev pub placed : ℕ → ℕ → Told → Placed
placed place number told = record { place = place; number = number; told = told }

-- how many of the first steps, up to a place, are its worker's
unfoldable pub placed_at : List Told → ℕ → Told → Placed
placed_at all place t = placed place (count_by (λ u. u.worker == t.worker) (take (suc place) all)) t

-- from a place on
unfoldable pub placed_from : List Told → ℕ → List Told → List Placed
placed_from all place [] = []
placed_from all place (t ∷ rest) = placed_at all place t ∷ placed_from all (suc place) rest

unfoldable pub command_object : Placed → Data
command_object s = object_of_kind (codes "command")
    (asked_fields s.place s.number s.told.worker s.told.variant s.told.request ++ (codes "reply", reply_value s.told.reply) ∷ [])

unfoldable pub worker_objects : List Told → ℕ → List Data
worker_objects told worker = map command_object (filter (λ s. s.told.worker == worker) (placed_from told 0 told))

-- ---- variants

unfoldable pub level_object : List ℕ → ConfiguredView → Data
level_object name view = object_of_kind (codes "level") ((codes "variant", string name) ∷ (codes "level", string view.level) ∷ (codes "buses", buses_value view) ∷ [])

unfoldable pub variant_objects : ConfiguredVariant → List Data
variant_objects v = variant_object v.name ∷ map (level_object v.name) v.views

-- ---- the outcome

-- there are no listeners
unfoldable pub counts_of : Report → Counts
counts_of r = record {
  workers = r.workers;
  commands = length r.told;
  refused = count_by (λ t. is_refused t.reply) r.told;
  variants = length r.views;
  listeners = 0;
}

-- the workers are numbered from 0
unfoldable pub objects : Report → List Data
objects r =
    order_of (λ t. t.worker) r.told
    ∷ (flat_map (worker_objects r.told) (range_with_len 0 r.workers)
    ++ flat_map variant_objects r.views
    ++ end_of (counts_of r) ∷ [])
