-- The events of a step, wherever they are.
use Rattle.std.specs.Prelude.{List}
use Rattle.grid_events.specs.declared.event.Event.{Event}
use Rattle.grid_core.specs.declared.event_list.Held.{Held}
use Rattle.grid_core.specs.declared.event_list.Held.TheVariants.{Own, Shared}

abbrev pub held_events : Held → List Event
held_events (Own events) = events
held_events (Shared events) = events
