-- What the listeners have heard.
use Rattle.std.specs.Prelude.{◌≡◌, ℕ, ◌<◌, zero, suc, if◌then◌else◌, List, [], ◌∷◌, ◌++◌, length, map, filter}
use Rattle.grid_events.specs.declared.event.Event.{Event}
use Rattle.grid_events.specs.declared.filter.Filter.{Filter}
use Rattle.grid_events.specs.declared.listener.Subscription.{Subscription}
use Rattle.grid_events.specs.Filters.{matches}

-- a filter, and the events that its listener has heard, in order
pub record Hearing : Type 0 where
  pub filter : Filter
  pub heard : List Event

unfoldable pub hearing : {L : Type 0} → (L → List Event) → Subscription L → Hearing
hearing heard s = record { filter = s.filter; heard = heard s.listener }

-- by the order of subscription
unfoldable pub hearings : {L : Type 0} → (L → List Event) → List (Subscription L) → List Hearing
hearings heard subscriptions = map (hearing heard) subscriptions

-- the event heard last, where the filter matches; else nothing is heard
unfoldable pub after_event : Event → Hearing → Hearing
after_event event h = if matches h.filter event then record h { heard = h.heard ++ event ∷ [] } else h

-- the event told to the first so many
unfoldable pub first_told : Event → ℕ → List Hearing → List Hearing
first_told event zero hs = hs
first_told event (suc count) [] = []
first_told event (suc count) (h ∷ rest) = after_event event h ∷ first_told event count rest

-- the event was told to those before the place of one of them, and the others are as before
abbrev pub IsToldBefore : Event → List Hearing → List Hearing → Type 0
IsToldBefore event old new = (count : ℕ) × (count < length old) × (new ≡ first_told event count old)

-- the events that the filter matches are heard last, in order
unfoldable pub after_events : List Event → Hearing → Hearing
after_events events h = record h { heard = h.heard ++ filter (matches h.filter) events }

-- the events before some event were told, that event was told to those before the place of one of them, and no later one to any
pub record IsToldInPart (events : List Event) (old new : List Hearing) : Type 0 where
  pub told : List Event
  pub last : Event
  pub untold : List Event
  pub all : events ≡ told ++ last ∷ untold
  pub before : IsToldBefore last (map (after_events told) old) new
