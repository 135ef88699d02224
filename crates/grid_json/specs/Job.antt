-- Jobs: the first pass, which reads the whole value.
use Rattle.std.specs.Prelude.{ℕ, ℤ, pos, negsuc, suc, List, [], ◌∷◌, Bool, true, false, not, ◌&&◌, ◌==◌, nat_lt, int_lt, if◌then◌else◌, Option, Result, Ok, Err, codes, map, length, sum_by, count_by}
use Rattle.std.specs.List.{list_any, list_all}
use Rattle.std.specs.Ordering.{int_eq}
use Rattle.serde_json.specs.Data.{Data}
use Rattle.serde_json.specs.Find.{as_array}
use Rattle.grid_value.specs.View.{items_len}
use Rattle.grid_events.specs.declared.filter.Filter.{Filter}
use Rattle.grid_requests.specs.declared.request.Request.{Request}
use Rattle.grid_json.specs.declared.fault.Fault.{Fault}
use Rattle.grid_json.specs.declared.fault.Reason.{Reason}
use Rattle.grid_json.specs.declared.fault.Reason.TheVariants.{WrongKind, Unknown, Schedule, TooManyCommands, TooManyWorkers, TooManyListeners}
use Rattle.grid_json.specs.declared.format.Format.{Format}
use Rattle.grid_json.specs.declared.format.Format.TheVariants.{One, Two, Three, Four, Five}
use Rattle.grid_json.specs.declared.kinds.EventKind.{EventKind}
use Rattle.grid_json.specs.declared.kinds.EventKind.TheVariants as kinds
use Rattle.grid_json.specs.declared.job.JobDraft.{JobDraft}
use Rattle.grid_json.specs.Reading.{◌>>=◌, or_fault, here, whole_at, id_at, array_at, items_at, member_at, member_or, optional_at, only_at}
use Rattle.grid_json.specs.Kinds.{event_kind_at}
use Rattle.grid_json.specs.Network.{network_at}
use Rattle.grid_json.specs.Command.{command_at}

-- ---- the format

abbrev pub format_of : ℤ → Result Format Fault
format_of number = if int_eq number (pos 1) then Ok One else (if int_eq number (pos 2) then Ok Two else (if int_eq number (pos 3) then Ok Three else (if int_eq number (pos 4) then Ok Four else (if int_eq number (pos 5) then Ok Five else Err (here Unknown)))))

abbrev pub format_at : Format → Data → Result Format Fault
format_at format d = whole_at d >>= format_of

-- ---- arrays with a limit, which is looked at before the items

abbrev pub few_at : {A : Type 0} → ℕ → Reason → (Data → Result A Fault) → Data → Result (List A) Fault
few_at most reason read d = or_fault WrongKind (as_array d) >>= λ ds. if nat_lt most (items_len ds) then Err (here reason) else items_at read 0 ds

-- ---- listeners

abbrev pub max_listeners : ℕ
max_listeners = 16

abbrev pub same_kind : EventKind → EventKind → Bool
same_kind kinds.Created kinds.Created = true
same_kind kinds.Removed kinds.Removed = true
same_kind kinds.Updated kinds.Updated = true
same_kind kinds.VariantCreated kinds.VariantCreated = true
same_kind kinds.VariantOverwritten kinds.VariantOverwritten = true
same_kind kinds.VariantRemoved kinds.VariantRemoved = true
same_kind kind other = false

unfoldable pub has_kind : List EventKind → EventKind → Bool
has_kind listed kind = list_any (same_kind kind) listed

-- a repeated kind counts once
unfoldable pub filter_of : List EventKind → Option (List ℕ) → Filter
filter_of listed variant = record {
  created = has_kind listed kinds.Created;
  removed = has_kind listed kinds.Removed;
  updated = has_kind listed kinds.Updated;
  variant_created = has_kind listed kinds.VariantCreated;
  variant_overwritten = has_kind listed kinds.VariantOverwritten;
  variant_removed = has_kind listed kinds.VariantRemoved;
  variant = variant;
}

unfoldable pub listener_at : Format → Data → Result Filter Fault
listener_at format d = do
  _ ← only_at (codes "kinds" ∷ codes "variant" ∷ []) d
  listed ← member_at (array_at (event_kind_at format)) (codes "kinds") d
  variant ← optional_at id_at (codes "variant") d
  Ok (filter_of listed variant)

abbrev pub listeners_at : Format → Data → Result (List Filter) Fault
listeners_at format d = few_at max_listeners TooManyListeners (listener_at format) d

-- ---- workers

abbrev pub max_workers : ℕ
max_workers = 32

abbrev pub max_commands : ℕ
max_commands = 20000

unfoldable pub command_total : List (List Request) → ℕ
command_total scripts = sum_by length scripts

abbrev pub counted_scripts : List (List Request) → Result (List (List Request)) Fault
counted_scripts scripts = if nat_lt max_commands (command_total scripts) then Err (here TooManyCommands) else Ok scripts

abbrev pub workers_at : Format → Data → Result (List (List Request)) Fault
workers_at format d = few_at max_workers TooManyWorkers (array_at (command_at format)) d >>= counted_scripts

-- ---- the order

abbrev pub stands_for : ℤ → ℤ → Bool
stands_for worker number = int_eq number worker

abbrev pub is_worker : ℕ → ℤ → Bool
is_worker workers number = not (int_lt number (pos 0)) && int_lt number (pos workers)

unfoldable pub counts_from : ℕ → List ℕ → List ℤ → Bool
counts_from worker [] order = true
counts_from worker (n ∷ ns) order = (count_by (stands_for (pos worker)) order == n) && counts_from (suc worker) ns order

-- each worker's number stands as often as its script has commands, and no other number stands
unfoldable pub is_order : List ℕ → List ℤ → Bool
is_order lengths order = list_all (is_worker (length lengths)) order && counts_from 0 lengths order

abbrev pub natural_of : ℤ → ℕ
natural_of (pos n) = n
natural_of (negsuc n) = 0

abbrev pub ordered : List ℕ → List ℤ → Result (List ℕ) Fault
ordered lengths order = if is_order lengths order then Ok (map natural_of order) else Err (here Schedule)

abbrev pub order_at : List (List Request) → Data → Result (List ℕ) Fault
order_at scripts d = array_at whole_at d >>= ordered (map length scripts)

-- ---- the first pass

unfoldable pub draft_at : Data → Result JobDraft Fault
draft_at d = do
  _ ← only_at (codes "format" ∷ codes "network" ∷ codes "listeners" ∷ codes "workers" ∷ codes "order" ∷ []) d
  format ← member_at (format_at One) (codes "format") d
  network ← member_at (network_at format) (codes "network") d
  filters ← member_or [] (listeners_at format) (codes "listeners") d
  scripts ← member_or [] (workers_at format) (codes "workers") d
  order ← optional_at (order_at scripts) (codes "order") d
  Ok (record { network = network; filters = filters; scripts = scripts; order = order })
