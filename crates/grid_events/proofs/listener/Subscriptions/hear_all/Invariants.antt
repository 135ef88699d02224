use Rattle.std.proofs.Common.{◌≡◌, map, take}
use Rattle.grid_events.specs.Hearing.{hearings, after_events}
use Rattle.grid_events.proofs.listener.Subscriptions.hear_all.Given as goal

-- the events so far
abbrev pub invariant-loop-event : goal.invariant-loop-event
invariant-loop-event g l =
    hearings g.L.Listener.heard l.self ≡ map (after_events (take l.event-index l.events)) (hearings g.L.Listener.heard l.initial.self)
