-- What a report writes of a reply: the answer on the command's line, and the lines below it.
use Rattle.std.specs.Prelude.{ℕ, Bool, true, false, List, [], ◌∷◌, ◌++◌, length, codes, decimal}
use Rattle.std.specs.List.{flat_map}
use Rattle.grid_busbreaker.specs.declared.Bus.{Bus}
use Rattle.grid_busbreaker.specs.declared.ViewSwitch.{ViewSwitch}
use Rattle.grid_busbreaker.specs.declared.BusBreakerView.{BusBreakerView}
use Rattle.grid_islands.specs.declared.BusComponent.{BusComponent}
use Rattle.grid_requests.specs.declared.request.Request.{Request}
use Rattle.grid_requests.specs.declared.request.Request.TheVariants as requests
use Rattle.grid_core.specs.declared.reply.Reply.{Reply}
use Rattle.grid_core.specs.declared.reply.Reply.TheVariants as replies
use Rattle.grid_report.specs.Lines.{bus_name, bus_text, bus_lines, count_text}
use Rattle.grid_report.specs.Refusals.{refusal_text}
use Rattle.grid_report.specs.Words.{signed}

-- ids, with a comma and a space between them
unfoldable pub ids_text : List (List ℕ) → List ℕ
ids_text [] = []
ids_text (id ∷ rest) = id ++ flat_map (λ other. codes ", " ++ other) rest

-- the words stand for one bus and one switch as well
unfoldable pub counts_text : BusBreakerView → List ℕ
counts_text v = decimal (length v.buses) ++ codes " buses, " ++ decimal (length v.switches) ++ codes " switches"

unfoldable pub answer_text : Reply → List ℕ
answer_text replies.Done = codes "done"
answer_text replies.Unchanged = codes "unchanged"
answer_text (replies.Closed ids) = codes "closed " ++ ids_text ids
answer_text replies.AlreadyConnected = codes "already connected"
answer_text replies.NoPath = codes "no path"
answer_text (replies.Opened ids) = codes "opened " ++ ids_text ids
answer_text replies.AlreadyDisconnected = codes "already disconnected"
answer_text (replies.NoBreaker terminal) = codes "no breaker before " ++ terminal.equipment
answer_text (replies.BusBreaker view) = counts_text view
answer_text (replies.Bus view) = count_text view
answer_text (replies.Components buses) = decimal (length buses) ++ codes " buses"
answer_text (replies.Totals load generation) = codes "load " ++ signed load ++ codes " generation " ++ signed generation
answer_text replies.Created = codes "created"
answer_text replies.Overwritten = codes "overwritten"
answer_text (replies.Refused refusal) = codes "refused " ++ refusal_text refusal

-- ---- the lines below

-- a bus of a bus/breaker view
unfoldable pub plain_line : List ℕ → Bus → List ℕ
plain_line level b = bus_text level b.least b.nodes b.terminals ++ codes "\n"

unfoldable pub position_text : Bool → List ℕ
position_text true = codes " open "
position_text false = codes " closed "

-- a retained switch, between two buses of its level
unfoldable pub switch_line : List ℕ → ViewSwitch → List ℕ
switch_line level s = codes "  switch " ++ s.id ++ position_text s.opened ++ bus_name level s.bus1 ++ codes " " ++ bus_name level s.bus2 ++ codes "\n"

unfoldable pub breaker_lines : BusBreakerView → List ℕ
breaker_lines v = flat_map (plain_line v.level) v.buses ++ flat_map (switch_line v.level) v.switches

-- a bus of a level, with its component
unfoldable pub component_line : List ℕ → BusComponent → List ℕ
component_line level b = codes "  " ++ bus_name level b.least ++ codes " component " ++ decimal b.component ++ codes " of " ++ decimal b.size ++ codes " buses\n"

-- the level is the one that was asked for
unfoldable pub component_lines : Request → List BusComponent → List ℕ
component_lines (requests.Components level) buses = flat_map (component_line level) buses
component_lines other buses = []

unfoldable pub detail_lines : Request → Reply → List ℕ
detail_lines request (replies.BusBreaker view) = breaker_lines view
detail_lines request (replies.Bus view) = bus_lines view
detail_lines request (replies.Components buses) = component_lines request buses
detail_lines request other = []
