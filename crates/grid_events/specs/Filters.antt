-- Which events a filter matches.
use Rattle.std.specs.Prelude.{ℕ, Bool, true, false, ◌&&◌, List, Option, Some, None}
use Rattle.grid_ids.specs.Name.{same_id}
use Rattle.grid_events.specs.declared.event.Event.{Event}
use Rattle.grid_events.specs.declared.event.Event.TheVariants.{Created, Removed, Updated, VariantCreated, VariantOverwritten, VariantRemoved}
use Rattle.grid_events.specs.declared.filter.Filter.{Filter}

-- the flag of the event's kind
unfoldable pub wants : Filter → Event → Bool
wants f (Created id) = f.created
wants f (Removed id) = f.removed
wants f (Updated variant switch opened) = f.updated
wants f (VariantCreated from to) = f.variant_created
wants f (VariantOverwritten from to) = f.variant_overwritten
wants f (VariantRemoved name) = f.variant_removed

-- the variant that an event names
unfoldable pub named_by : Event → Option (List ℕ)
named_by (Created id) = None
named_by (Removed id) = None
named_by (Updated variant switch opened) = Some variant
named_by (VariantCreated from to) = Some to
named_by (VariantOverwritten from to) = Some to
named_by (VariantRemoved name) = Some name

-- a filter without a variant matches every event's variant
unfoldable pub is_of : Option (List ℕ) → Option (List ℕ) → Bool
is_of None named = true
is_of (Some variant) (Some name) = same_id variant name
is_of (Some variant) None = false

unfoldable pub matches : Filter → Event → Bool
matches f event = wants f event && is_of f.variant (named_by event)
