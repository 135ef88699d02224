use Rattle.std.proofs.Common.{sym, ap, ◌∙◌, map, take, drop, suc}
use Rattle.grid_events.specs.Hearing.{hearings, after_event, after_events}
use Rattle.grid_events.proofs.ListenerEvents.{none_told, told_next_event, cut_at, one_more}
use Rattle.grid_events.proofs.listener.Subscriptions.hear_all.Goals as goal

pub loop-event-init : goal.loop-event-init
loop-event-init g c = none_told (hearings g.L.Listener.heard c.args.self.now)

pub returns-in-Err-clause-err : goal.returns-in-Err-clause-err
returns-in-Err-clause-err g c = record {
  told = take c.loop-event.event-index c.args.events.now;
  last = c.event-item.result;
  untold = drop (suc c.loop-event.event-index) c.args.events.now;
  all = cut_at c.args.events.now c.loop-event.event-index c.event-item.result c.loop-event-test.true c.event-item.is;
  before = rw (sym c.loop-event.invariant) c.in-Err.ensures.err;
}

pub loop-event-preserved : goal.loop-event-preserved
loop-event-preserved g c =
    let hs = hearings g.L.Listener.heard c.args.self.now in
    let events = c.args.events.now in
    let i = c.loop-event.event-index in
    c.in-Ok.ensures.ok ∙ ap (map (after_event c.event-item.result)) c.loop-event.invariant
    ∙ told_next_event (take i events) c.event-item.result hs
    ∙ ap (λ es. map (after_events es) hs) (sym (one_more events i c.event-item.result c.loop-event-test.true c.event-item.is))
