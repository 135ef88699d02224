-- Replies as objects.
use Rattle.std.specs.Prelude.{ℕ, ℤ, List, [], ◌∷◌, codes}
use Rattle.serde_json.specs.Data.{Data, no_items, string, array}
use Rattle.grid_busbreaker.specs.declared.BusBreakerView.{BusBreakerView}
use Rattle.grid_islands.specs.declared.BusComponent.{BusComponent}
use Rattle.grid_requests.specs.declared.request.Request.{Request}
use Rattle.grid_requests.specs.declared.request.Request.TheVariants as requests
use Rattle.grid_core.specs.declared.reply.Refusal.{Refusal}
use Rattle.grid_core.specs.declared.reply.Reply.{Reply}
use Rattle.grid_core.specs.declared.reply.Reply.TheVariants as replies
use Rattle.grid_print.specs.Objects.{array_of, natural}
use Rattle.grid_report.specs.Refusals.{refusal_number, reason_text}
use Rattle.grid_jsonl.specs.Trees.{ordered, sum_value}
use Rattle.grid_jsonl.specs.Parts.{terminal_value, view_bus_value, bus_value, switch_value, component_value}

-- an answer, and what it says beside its word
abbrev pub answer_of : List ℕ → List (List ℕ × Data) → Data
answer_of word fields = ordered ((codes "answer", string word) ∷ fields)

-- the switches that were operated, in the reply's order
abbrev pub operated_value : List ℕ → List (List ℕ) → Data
operated_value word ids = answer_of word ((codes "switches", array_of string ids) ∷ [])

abbrev pub breaker_value : BusBreakerView → Data
breaker_value v = answer_of (codes "bus_breaker_view")
    ((codes "buses", array_of (bus_value v.level) v.buses) ∷ (codes "retained", array_of (switch_value v.level) v.switches) ∷ [])

-- buses with their components, of the level that was asked for
unfoldable pub components_value : Request → List BusComponent → Data
components_value (requests.Components level) buses = array_of (component_value level) buses
components_value other buses = array no_items

abbrev pub totals_value : ℤ → ℤ → Data
totals_value load generation = answer_of (codes "totals") ((codes "load", sum_value load) ∷ (codes "generation", sum_value generation) ∷ [])

abbrev pub refused_value : Refusal → Data
refused_value refusal = answer_of (codes "refused") ((codes "number", natural (refusal_number refusal)) ∷ (codes "reason", string (reason_text refusal)) ∷ [])

-- the level of a view is the view's own, and of components the request's
unfoldable pub reply_value : Request → Reply → Data
reply_value request replies.Done = answer_of (codes "done") []
reply_value request replies.Unchanged = answer_of (codes "unchanged") []
reply_value request (replies.Closed ids) = operated_value (codes "closed") ids
reply_value request replies.AlreadyConnected = answer_of (codes "already connected") []
reply_value request replies.NoPath = answer_of (codes "no path") []
reply_value request (replies.Opened ids) = operated_value (codes "opened") ids
reply_value request replies.AlreadyDisconnected = answer_of (codes "already disconnected") []
reply_value request (replies.NoBreaker terminal) = answer_of (codes "no breaker") ((codes "before", terminal_value terminal) ∷ [])
reply_value request (replies.BusBreaker view) = breaker_value view
reply_value request (replies.Bus view) = answer_of (codes "bus_view") ((codes "buses", array_of (view_bus_value view.level) view.buses) ∷ [])
reply_value request (replies.Components buses) = answer_of (codes "components") ((codes "buses", components_value request buses) ∷ [])
reply_value request (replies.Totals load generation) = totals_value load generation
reply_value request replies.Created = answer_of (codes "created") []
reply_value request replies.Overwritten = answer_of (codes "overwritten") []
reply_value request (replies.Refused refusal) = refused_value refusal
