-- Replies: their values are readable, and with the request they tell the reply.
use Rattle.std.proofs.Common.{◌≡◌, ℕ, List, [], ◌∷◌, map, All, refl, ap, ap₂, ◌∙◌, arith}
use Rattle.std.specs.Prelude.{IsUtf8, codes, if◌then◌else◌}
use Rattle.std.specs.Str.{bytes_eq}
use Rattle.serde_json.specs.Data.{Data, string, array, no_items}
use Rattle.grid_busview.specs.declared.BusView.{BusView}
use Rattle.grid_busbreaker.specs.declared.BusBreakerView.{BusBreakerView}
use Rattle.grid_islands.specs.declared.BusComponent.{BusComponent}
use Rattle.grid_requests.specs.declared.request.Request.{Request}
use Rattle.grid_requests.specs.declared.request.Request.TheVariants as requests
use Rattle.grid_kinds.specs.declared.CheckFault.{CheckFault}
use Rattle.grid_kinds.specs.declared.CheckFault.TheVariants as checks
use Rattle.grid_structure.specs.declared.EditFault.{EditFault}
use Rattle.grid_structure.specs.declared.EditFault.TheVariants as faults
use Rattle.grid_core.specs.declared.reply.Refusal.{Refusal}
use Rattle.grid_core.specs.declared.reply.Refusal.TheVariants as refusals
use Rattle.grid_core.specs.declared.reply.Reply.{Reply}
use Rattle.grid_core.specs.declared.reply.Reply.TheVariants as replies
use Rattle.grid_print.specs.Objects.{array_of}
use Rattle.grid_print.proofs.Each.{each_of}
use Rattle.grid_report.specs.Refusals.{check_number, fault_number, refusal_number, reason_text}
use Rattle.grid_jsonl.specs.Trees.{ordered}
use Rattle.grid_jsonl.specs.Parts.{view_bus_value, bus_value, switch_value, component_value}
use Rattle.grid_jsonl.specs.Replies.{operated_value, breaker_value, components_value, refused_value, reply_value}
use Rattle.grid_told.specs.Held.{IsUnsigned, IsViewBus, IsBusView, IsBus, IsViewSwitch, IsBreakerView}
use Rattle.grid_told.specs.Requested.{IsRequest, IsComponent}
use Rattle.grid_told.specs.Outcomes.{IsRefusal, IsReply, Fits}
use Rattle.grid_told.specs.Shapes.{IsReadable}
use Rattle.grid_told.proofs.Fields.{text_of, natural_of, list_of, at, items_back}
use Rattle.grid_told.proofs.Readable.{word_readable, text_readable, natural_readable, array_readable, ordered_readable, deeper}
use Rattle.grid_told.proofs.Sums.{sum_readable, sum_of, sum_back}
use Rattle.grid_told.proofs.Parts.{terminal_readable, view_bus_readable, bus_readable, switch_readable, component_readable, terminal_in, terminal_back, view_bus_in, view_bus_back, bus_in, bus_back, switch_in, switch_back, component_in, component_back}
use Rattle.grid_told.proofs.Reasons.{reason_utf8, refusal_by, refusal_back}

-- ---- readable

check_small : (fault : CheckFault) → IsUnsigned (check_number fault)
unfolding check_number
check_small (checks.NominalNotPositive found bound) = omega arith
check_small other = omega arith

fault_small : (fault : EditFault) → IsUnsigned (fault_number fault)
unfolding fault_number
fault_small (faults.Check fault) = check_small fault
fault_small other = omega arith

number_small : (refusal : Refusal) → IsUnsigned (refusal_number refusal)
unfolding refusal_number
number_small (refusals.Edit fault) = fault_small fault
number_small other = omega arith

operated_readable : (word : List ℕ) (ids : List (List ℕ)) → IsReadable 4 (string word) → All IsUtf8 ids → IsReadable 5 (operated_value word ids)
operated_readable word ids known h = ordered_readable 4 _ refl (known, (deeper 1 4 (array_of string ids) (omega arith) (array_readable IsUtf8 0 string (text_readable 0) ids (each_of IsUtf8 ids h)), tt))

breaker_readable : (v : BusBreakerView) → IsBreakerView v → IsReadable 5 (breaker_value v)
breaker_readable v h = ordered_readable 4 _ refl (
  word_readable 4 _ refl,
  (
    array_readable IsBus 3 (bus_value v.level) (bus_readable v.level h.level) v.buses (each_of IsBus v.buses h.buses),
    (
      deeper 2 4 (array_of (switch_value v.level) v.switches) (omega arith)
          (array_readable IsViewSwitch 1 (switch_value v.level) (switch_readable v.level h.level) v.switches (each_of IsViewSwitch v.switches h.switches)),
      tt,
    ),
  ),
)

-- buses of a view of a level
pub buses_readable : (v : BusView) → IsBusView v → IsReadable 4 (array_of (view_bus_value v.level) v.buses)
buses_readable v h = array_readable IsViewBus 3 (view_bus_value v.level) (view_bus_readable v.level h.level) v.buses (each_of IsViewBus v.buses h.buses)

none_readable : IsReadable 4 (array no_items)
none_readable = record { wholes = tt; texts = tt; names = tt; within = omega arith }

components_readable : (r : Request) (buses : List BusComponent) → IsRequest r → All IsComponent buses → IsReadable 4 (components_value r buses)
unfolding components_value
components_readable (requests.Components level) buses known h =
    deeper 2 4 (array_of (component_value level) buses) (omega arith) (array_readable IsComponent 1 (component_value level) (component_readable level (each_of IsUtf8 (level ∷ []) known.0).0) buses (each_of IsComponent buses h))
components_readable other buses known h = none_readable

pub reply_readable : (r : Request) (reply : Reply) → IsRequest r → IsReply reply → IsReadable 5 (reply_value r reply)
unfolding reply_value
reply_readable r (replies.Closed ids) known h = operated_readable (codes "closed") ids (word_readable 4 _ refl) h
reply_readable r (replies.Opened ids) known h = operated_readable (codes "opened") ids (word_readable 4 _ refl) h
reply_readable r (replies.NoBreaker terminal) known h = ordered_readable 4 _ refl (word_readable 4 _ refl, (deeper 1 4 _ (omega arith) (terminal_readable terminal h), tt))
reply_readable r (replies.BusBreaker view) known h = breaker_readable view h
reply_readable r (replies.Bus view) known h = ordered_readable 4 _ refl (word_readable 4 _ refl, (buses_readable view h, tt))
reply_readable r (replies.Components buses) known h = ordered_readable 4 _ refl (word_readable 4 _ refl, (components_readable r buses known h, tt))
reply_readable r (replies.Totals load generation) known h = ordered_readable 4 _ refl (word_readable 4 _ refl, (sum_readable 4 load h.0, (sum_readable 4 generation h.1, tt)))
reply_readable r (replies.Refused refusal) known h =
    ordered_readable 4 _ refl (word_readable 4 _ refl, (natural_readable 4 (refusal_number refusal) (number_small refusal), (text_readable 4 (reason_text refusal) (reason_utf8 refusal h), tt)))
reply_readable r other known h = ordered_readable 4 _ refl (word_readable 4 _ refl, tt)

-- ---- told

-- the level that a request names
unfoldable pub level_asked : Request → List ℕ
level_asked (requests.BusBreakerView level) = level
level_asked (requests.BusView level) = level
level_asked (requests.Components level) = level
level_asked other = []

unfoldable pub ids_in : Data → List (List ℕ)
ids_in d = map text_of (list_of (at (codes "switches") d))

unfoldable pub breaker_in : List ℕ → Data → BusBreakerView
breaker_in level d = record { level = level; buses = map (bus_in level) (list_of (at (codes "buses") d)); switches = map (switch_in level) (list_of (at (codes "retained") d)) }

unfoldable pub view_in : List ℕ → Data → BusView
view_in level d = record { level = level; buses = map (view_bus_in level) (list_of (at (codes "buses") d)) }

unfoldable pub components_in : List ℕ → Data → List BusComponent
components_in level d = map (component_in level) (list_of (at (codes "buses") d))

unfoldable pub refusal_in : Data → Refusal
refusal_in d = refusal_by (natural_of (at (codes "number") d)) (text_of (at (codes "reason") d))

unfoldable pub reply_by : List ℕ → Request → Data → Reply
reply_by answer r d =
    if bytes_eq answer (codes "done") then replies.Done
    else if bytes_eq answer (codes "unchanged") then replies.Unchanged
    else if bytes_eq answer (codes "closed") then replies.Closed (ids_in d)
    else if bytes_eq answer (codes "already connected") then replies.AlreadyConnected
    else if bytes_eq answer (codes "no path") then replies.NoPath
    else if bytes_eq answer (codes "opened") then replies.Opened (ids_in d)
    else if bytes_eq answer (codes "already disconnected") then replies.AlreadyDisconnected
    else if bytes_eq answer (codes "no breaker") then replies.NoBreaker (terminal_in (at (codes "before") d))
    else if bytes_eq answer (codes "bus_breaker_view") then replies.BusBreaker (breaker_in (level_asked r) d)
    else if bytes_eq answer (codes "bus_view") then replies.Bus (view_in (level_asked r) d)
    else if bytes_eq answer (codes "components") then replies.Components (components_in (level_asked r) d)
    else if bytes_eq answer (codes "totals") then replies.Totals (sum_of (at (codes "load") d)) (sum_of (at (codes "generation") d))
    else if bytes_eq answer (codes "created") then replies.Created
    else if bytes_eq answer (codes "overwritten") then replies.Overwritten
    else replies.Refused (refusal_in d)

abbrev pub reply_in : Request → Data → Reply
reply_in r d = reply_by (text_of (at (codes "answer") d)) r d

module _ (r : Request) (d : Data) where
  says_done : reply_by (codes "done") r d ≡ replies.Done
  unfolding reply_by
  says_done = refl

  says_unchanged : reply_by (codes "unchanged") r d ≡ replies.Unchanged
  unfolding reply_by
  says_unchanged = refl

  says_closed : reply_by (codes "closed") r d ≡ replies.Closed (ids_in d)
  unfolding reply_by
  says_closed = refl

  says_connected : reply_by (codes "already connected") r d ≡ replies.AlreadyConnected
  unfolding reply_by
  says_connected = refl

  says_no_path : reply_by (codes "no path") r d ≡ replies.NoPath
  unfolding reply_by
  says_no_path = refl

  says_opened : reply_by (codes "opened") r d ≡ replies.Opened (ids_in d)
  unfolding reply_by
  says_opened = refl

  says_disconnected : reply_by (codes "already disconnected") r d ≡ replies.AlreadyDisconnected
  unfolding reply_by
  says_disconnected = refl

  says_no_breaker : reply_by (codes "no breaker") r d ≡ replies.NoBreaker (terminal_in (at (codes "before") d))
  unfolding reply_by
  says_no_breaker = refl

  says_breaker_view : reply_by (codes "bus_breaker_view") r d ≡ replies.BusBreaker (breaker_in (level_asked r) d)
  unfolding reply_by
  says_breaker_view = refl

  says_view : reply_by (codes "bus_view") r d ≡ replies.Bus (view_in (level_asked r) d)
  unfolding reply_by
  says_view = refl

  says_components : reply_by (codes "components") r d ≡ replies.Components (components_in (level_asked r) d)
  unfolding reply_by
  says_components = refl

  says_totals : reply_by (codes "totals") r d ≡ replies.Totals (sum_of (at (codes "load") d)) (sum_of (at (codes "generation") d))
  unfolding reply_by
  says_totals = refl

  says_created : reply_by (codes "created") r d ≡ replies.Created
  unfolding reply_by
  says_created = refl

  says_overwritten : reply_by (codes "overwritten") r d ≡ replies.Overwritten
  unfolding reply_by
  says_overwritten = refl

  says_refused : reply_by (codes "refused") r d ≡ replies.Refused (refusal_in d)
  unfolding reply_by
  says_refused = refl

pub texts_back : (ids : List (List ℕ)) → map text_of (list_of (array_of string ids)) ≡ ids
texts_back [] = refl
texts_back (id ∷ ids) = ap (λ l. id ∷ l) (texts_back ids)

ids_back : (word : List ℕ) (ids : List (List ℕ)) → ids_in (operated_value word ids) ≡ ids
unfolding ids_in ordered
ids_back word ids = texts_back ids

breaker_back : (v : BusBreakerView) → IsBreakerView v → breaker_in v.level (breaker_value v) ≡ v
unfolding breaker_in ordered
breaker_back v h =
    ap₂ (λ a b. record { level = v.level; buses = a; switches = b })
    (items_back IsBus (bus_value v.level) (bus_in v.level) (bus_back v.level) v.buses (each_of IsBus v.buses h.buses))
    (items_back IsViewSwitch (switch_value v.level) (switch_in v.level) (switch_back v.level) v.switches (each_of IsViewSwitch v.switches h.switches))

pub view_buses_back : (v : BusView) → IsBusView v → map (view_bus_in v.level) (list_of (array_of (view_bus_value v.level) v.buses)) ≡ v.buses
view_buses_back v h = items_back IsViewBus (view_bus_value v.level) (view_bus_in v.level) (view_bus_back v.level) v.buses (each_of IsViewBus v.buses h.buses)

view_back : (r : Request) (v : BusView) → IsBusView v → view_in v.level (reply_value r (replies.Bus v)) ≡ v
unfolding view_in reply_value ordered
view_back r v h = ap (λ b. record { level = v.level; buses = b }) (view_buses_back v h)

components_back : (level : List ℕ) (buses : List BusComponent) → All IsComponent buses → components_in level (reply_value (requests.Components level) (replies.Components buses)) ≡ buses
unfolding components_in reply_value components_value ordered
components_back level buses h = items_back IsComponent (component_value level) (component_in level) (component_back level) buses (each_of IsComponent buses h)

pub refused_back : (refusal : Refusal) → IsRefusal refusal → refusal_in (refused_value refusal) ≡ refusal
unfolding refusal_in ordered
refused_back refusal h = refusal_back refusal h

breaker_level : (r : Request) (level : List ℕ) → r ≡ requests.BusBreakerView level → level_asked r ≡ level
unfolding level_asked
breaker_level r level e = ap level_asked e

view_level : (r : Request) (level : List ℕ) → r ≡ requests.BusView level → level_asked r ≡ level
unfolding level_asked
view_level r level e = ap level_asked e

asked_components : (r : Request) (buses : List BusComponent) (level : List ℕ) → r ≡ requests.Components level → All IsComponent buses → components_in (level_asked r) (reply_value r (replies.Components buses)) ≡ buses
unfolding level_asked
asked_components r buses level e h = ap (λ q. components_in (level_asked q) (reply_value q (replies.Components buses))) e ∙ components_back level buses h

pub reply_back : (r : Request) (reply : Reply) → IsReply reply → Fits r reply → reply_in r (reply_value r reply) ≡ reply
unfolding reply_value ordered
reply_back r replies.Done h fits = says_done r (reply_value r replies.Done)
reply_back r replies.Unchanged h fits = says_unchanged r (reply_value r replies.Unchanged)
reply_back r (replies.Closed ids) h fits = says_closed r (operated_value (codes "closed") ids) ∙ ap replies.Closed (ids_back (codes "closed") ids)
reply_back r replies.AlreadyConnected h fits = says_connected r (reply_value r replies.AlreadyConnected)
reply_back r replies.NoPath h fits = says_no_path r (reply_value r replies.NoPath)
reply_back r (replies.Opened ids) h fits = says_opened r (operated_value (codes "opened") ids) ∙ ap replies.Opened (ids_back (codes "opened") ids)
reply_back r replies.AlreadyDisconnected h fits = says_disconnected r (reply_value r replies.AlreadyDisconnected)
reply_back r (replies.NoBreaker terminal) h fits = says_no_breaker r (reply_value r (replies.NoBreaker terminal)) ∙ ap replies.NoBreaker (terminal_back terminal)
reply_back r (replies.BusBreaker view) h fits =
    says_breaker_view r (breaker_value view) ∙ ap (λ level. replies.BusBreaker (breaker_in level (breaker_value view))) (breaker_level r view.level fits) ∙ ap replies.BusBreaker (breaker_back view h)
reply_back r (replies.Bus view) h fits =
    says_view r (reply_value r (replies.Bus view)) ∙ ap (λ level. replies.Bus (view_in level (reply_value r (replies.Bus view)))) (view_level r view.level fits) ∙ ap replies.Bus (view_back r view h)
reply_back r (replies.Components buses) h fits = says_components r (reply_value r (replies.Components buses)) ∙ ap replies.Components (asked_components r buses fits.0 fits.1 h)
reply_back r (replies.Totals load generation) h fits = says_totals r (reply_value r (replies.Totals load generation)) ∙ ap₂ replies.Totals (sum_back load h.0) (sum_back generation h.1)
reply_back r replies.Created h fits = says_created r (reply_value r replies.Created)
reply_back r replies.Overwritten h fits = says_overwritten r (reply_value r replies.Overwritten)
reply_back r (replies.Refused refusal) h fits = says_refused r (refused_value refusal) ∙ ap replies.Refused (refused_back refusal h)
