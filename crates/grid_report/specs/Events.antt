-- What a report writes of an event.
use Rattle.std.specs.Prelude.{ℕ, Bool, true, false, List, ◌++◌, codes}
use Rattle.grid_events.specs.declared.event.Event.{Event}
use Rattle.grid_events.specs.declared.event.Event.TheVariants as events

unfoldable pub moved_text : Bool → List ℕ
moved_text true = codes " opened"
moved_text false = codes " closed"

unfoldable pub event_text : Event → List ℕ
event_text (events.Created id) = codes "created " ++ id
event_text (events.Removed id) = codes "removed " ++ id
event_text (events.Updated variant switch opened) = codes "updated " ++ variant ++ codes " " ++ switch ++ moved_text opened
event_text (events.VariantCreated from to) = codes "variant_created " ++ from ++ codes " to " ++ to
event_text (events.VariantOverwritten from to) = codes "variant_overwritten " ++ from ++ codes " to " ++ to
event_text (events.VariantRemoved name) = codes "variant_removed " ++ name

unfoldable pub event_line : Event → List ℕ
event_line event = event_text event ++ codes "\n"
