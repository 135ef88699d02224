use Rattle.std.proofs.Common.{◌≡◌}
use Rattle.grid_events.specs.Hearing.{hearings, first_told}
use Rattle.grid_events.proofs.listener.Subscriptions.hear.Given as goal

abbrev pub invariant-loop-place : goal.invariant-loop-place
invariant-loop-place g l =
    hearings g.L.Listener.heard l.self-inside.items.items ≡ first_told l.event l.place (hearings g.L.Listener.heard l.initial.self-inside.items.items)
