-- Configured views and replies: their values are readable, and tell them.
use Rattle.std.proofs.Common.{◌≡◌, ℕ, List, [], map, refl, ap, ◌∙◌, arith}
use Rattle.std.specs.Prelude.{IsUtf8, codes, if◌then◌else◌}
use Rattle.std.specs.Str.{bytes_eq}
use Rattle.std.proofs.lemmas.List.Elements.{All-nil}
use Rattle.serde_json.specs.Data.{Data, string}
use Rattle.grid_requests.specs.declared.request.Request.{Request}
use Rattle.grid_requests.specs.declared.request.Request.TheVariants as requests
use Rattle.grid_core.specs.declared.reply.Refusal.{Refusal}
use Rattle.grid_print.specs.Objects.{array_of}
use Rattle.grid_print.proofs.Each.{each_of}
use Rattle.grid_report.specs.Lines.{bus_name}
use Rattle.grid_jsonl.specs.Trees.{ordered}
use Rattle.grid_jsonl.specs.Parts.{terminal_value}
use Rattle.grid_jsonl.specs.Replies.{refused_value, reply_value as journal_value}
use Rattle.grid_core.specs.declared.reply.Reply.TheVariants as answers
use Rattle.grid_configured.specs.declared.view.ConfiguredBus.{ConfiguredBus}
use Rattle.grid_configured.specs.declared.view.ConfiguredView.{ConfiguredView}
use Rattle.grid_configured.specs.declared.reply.ConfiguredReply.{ConfiguredReply}
use Rattle.grid_configured.specs.declared.reply.ConfiguredReply.TheVariants as replies
use Rattle.grid_configured.specs.Lines.{bus_value, buses_value, reply_value}
use Rattle.grid_told.specs.Held.{IsSigned, IsTerminal}
use Rattle.grid_told.specs.Outcomes as outcomes
use Rattle.grid_told.specs.Shapes.{IsReadable}
use Rattle.grid_told.proofs.Fields.{text_of, list_of, at, items_back}
use Rattle.grid_told.proofs.Readable.{word_readable, text_readable, array_readable, ordered_readable, deeper}
use Rattle.grid_told.proofs.Sums.{sum_readable, sum_of, sum_back, name_utf8, least_in, least_back}
use Rattle.grid_told.proofs.Parts.{terminal_readable, terminals_in, terminals_back}
use Rattle.grid_told.proofs.Replies.{reply_readable as journal_readable, refusal_in, texts_back, refused_back}
use Rattle.grid_told_forms.specs.Reports.{IsBus, IsView, IsReply, Fits}

-- ---- readable

bus_readable : (level : List ℕ) → IsUtf8 level → (b : ConfiguredBus) → IsBus b → IsReadable 3 (bus_value level b)
unfolding bus_value
bus_readable level known b h = ordered_readable 2 _ refl (
  text_readable 2 (bus_name level b.place) (name_utf8 level b.place known h.place),
  (
    deeper 1 2 (array_of string b.buses) (omega arith) (array_readable IsUtf8 0 string (text_readable 0) b.buses (each_of IsUtf8 b.buses h.buses)),
    (array_readable IsTerminal 1 terminal_value terminal_readable b.terminals (each_of IsTerminal b.terminals h.terminals), (sum_readable 2 b.load h.load, (sum_readable 2 b.generation h.generation, tt))),
  ),
)

pub buses_readable : (v : ConfiguredView) → IsView v → IsReadable 4 (buses_value v)
buses_readable v h = array_readable IsBus 3 (bus_value v.level) (bus_readable v.level h.level) v.buses (each_of IsBus v.buses h.buses)

refused_readable : (refusal : Refusal) → outcomes.IsRefusal refusal → IsReadable 5 (refused_value refusal)
unfolding journal_value
refused_readable refusal h = journal_readable requests.Totals (answers.Refused refusal) (All-nil IsUtf8, All-nil IsSigned) h

pub reply_readable : (reply : ConfiguredReply) → IsReply reply → IsReadable 5 (reply_value reply)
unfolding reply_value
reply_readable (replies.View view) h = ordered_readable 4 _ refl (word_readable 4 _ refl, (buses_readable view h, tt))
reply_readable (replies.Refused refusal) h = refused_readable refusal h
reply_readable other h = ordered_readable 4 _ refl (word_readable 4 _ refl, tt)

-- ---- told

abbrev pub bus_in : List ℕ → Data → ConfiguredBus
bus_in level d = record {
  place = least_in level (text_of (at (codes "id") d));
  buses = map text_of (list_of (at (codes "configured") d));
  terminals = terminals_in (at (codes "terminals") d);
  load = sum_of (at (codes "load") d);
  generation = sum_of (at (codes "generation") d);
}

bus_back : (level : List ℕ) (b : ConfiguredBus) → IsBus b → bus_in level (bus_value level b) ≡ b
unfolding bus_value ordered
bus_back level b h = rw (least_back level b.place h.place, texts_back b.buses, terminals_back b.terminals, sum_back b.load h.load, sum_back b.generation h.generation) refl

pub buses_back : (v : ConfiguredView) → IsView v → map (bus_in v.level) (list_of (buses_value v)) ≡ v.buses
buses_back v h = items_back IsBus (bus_value v.level) (bus_in v.level) (bus_back v.level) v.buses (each_of IsBus v.buses h.buses)

-- the level that a request names
unfoldable pub level_asked : Request → List ℕ
level_asked (requests.BusView level) = level
level_asked other = []

unfoldable pub view_in : List ℕ → Data → ConfiguredView
view_in level d = record { level = level; buses = map (bus_in level) (list_of (at (codes "buses") d)) }

unfoldable pub reply_by : List ℕ → Request → Data → ConfiguredReply
reply_by answer r d =
    if bytes_eq answer (codes "done") then replies.Done
    else if bytes_eq answer (codes "unchanged") then replies.Unchanged
    else if bytes_eq answer (codes "already connected") then replies.AlreadyConnected
    else if bytes_eq answer (codes "already disconnected") then replies.AlreadyDisconnected
    else if bytes_eq answer (codes "bus_view") then replies.View (view_in (level_asked r) d)
    else if bytes_eq answer (codes "created") then replies.Created
    else if bytes_eq answer (codes "overwritten") then replies.Overwritten
    else replies.Refused (refusal_in d)

abbrev pub reply_in : Request → Data → ConfiguredReply
reply_in r d = reply_by (text_of (at (codes "answer") d)) r d

module _ (r : Request) (d : Data) where
  says_done : reply_by (codes "done") r d ≡ replies.Done
  unfolding reply_by
  says_done = refl

  says_unchanged : reply_by (codes "unchanged") r d ≡ replies.Unchanged
  unfolding reply_by
  says_unchanged = refl

  says_connected : reply_by (codes "already connected") r d ≡ replies.AlreadyConnected
  unfolding reply_by
  says_connected = refl

  says_disconnected : reply_by (codes "already disconnected") r d ≡ replies.AlreadyDisconnected
  unfolding reply_by
  says_disconnected = refl

  says_view : reply_by (codes "bus_view") r d ≡ replies.View (view_in (level_asked r) d)
  unfolding reply_by
  says_view = refl

  says_created : reply_by (codes "created") r d ≡ replies.Created
  unfolding reply_by
  says_created = refl

  says_overwritten : reply_by (codes "overwritten") r d ≡ replies.Overwritten
  unfolding reply_by
  says_overwritten = refl

  says_refused : reply_by (codes "refused") r d ≡ replies.Refused (refusal_in d)
  unfolding reply_by
  says_refused = refl

view_back : (v : ConfiguredView) → IsView v → view_in v.level (reply_value (replies.View v)) ≡ v
unfolding view_in reply_value ordered
view_back v h = ap (λ b. record { level = v.level; buses = b }) (buses_back v h)

view_level : (r : Request) (level : List ℕ) → r ≡ requests.BusView level → level_asked r ≡ level
unfolding level_asked
view_level r level e = ap level_asked e

pub reply_back : (r : Request) (reply : ConfiguredReply) → IsReply reply → Fits r reply → reply_in r (reply_value reply) ≡ reply
unfolding reply_value ordered
reply_back r replies.Done h fits = says_done r (reply_value replies.Done)
reply_back r replies.Unchanged h fits = says_unchanged r (reply_value replies.Unchanged)
reply_back r replies.AlreadyConnected h fits = says_connected r (reply_value replies.AlreadyConnected)
reply_back r replies.AlreadyDisconnected h fits = says_disconnected r (reply_value replies.AlreadyDisconnected)
reply_back r (replies.View view) h fits =
    says_view r (reply_value (replies.View view)) ∙ ap (λ level. replies.View (view_in level (reply_value (replies.View view)))) (view_level r view.level fits) ∙ ap replies.View (view_back view h)
reply_back r replies.Created h fits = says_created r (reply_value replies.Created)
reply_back r replies.Overwritten h fits = says_overwritten r (reply_value replies.Overwritten)
reply_back r (replies.Refused refusal) h fits = says_refused r (refused_value refusal) ∙ ap replies.Refused (refused_back refusal h)
