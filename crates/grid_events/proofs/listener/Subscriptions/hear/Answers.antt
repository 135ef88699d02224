use Rattle.std.proofs.Common.{refl, ap, ◌∙◌, arith, map, length}
use Rattle.grid_events.specs.Hearing.{hearings, first_told, after_event}
use Rattle.grid_events.proofs.ListenerEvents.{told_more, told_same, told_all, hearings_long}
use Rattle.grid_events.proofs.listener.Subscriptions.hear.Goals as goal

pub loop-place-init : goal.loop-place-init
unfolding first_told
loop-place-init g c = refl

pub returns-in-Err-clause-err : goal.returns-in-Err-clause-err
returns-in-Err-clause-err g c =
    let heard = g.L.Listener.heard in
    let size = hearings_long c.args.event.now heard c.args.self.now in
    let long = ap length c.self.view_is in (
      c.loop-place.place,
      omega (arith, size, long, c.loop-place-test.true, c.len-place-end.ensures, c.self.inside.items.ok.0),
      told_same c.args.event.now heard c.loop-place.self-inside.items.items c.loop-place.place c.index_mut.result.now c.hear.new.self c.index_mut.ensures.value c.in-Err.ensures.err
          ∙ c.loop-place.invariant ∙ ap (λ subs. first_told c.args.event.now c.loop-place.place (hearings heard subs)) c.self.view_is,
    )

pub loop-place-preserved : goal.loop-place-preserved
loop-place-preserved g c =
    told_more c.args.event.now g.L.Listener.heard c.self.inside.items.items c.loop-place.self-inside.items.items c.loop-place.place c.index_mut.result.now c.hear.new.self
    c.loop-place.invariant (omega (arith, c.loop-place-test.true, c.len-place-end.ensures, c.self.inside.items.ok.0)) c.index_mut.ensures.value c.in-Ok.ensures.ok

pub returns-clause-ok : goal.returns-clause-ok
returns-clause-ok g c =
    let heard = g.L.Listener.heard in
    let size = hearings_long c.args.event.now heard c.self.inside.items.items in
    c.loop-place.invariant
    ∙ told_all c.args.event.now c.loop-place.place (hearings heard c.self.inside.items.items) (omega (arith, size, c.loop-place-test.false, c.len-place-end.ensures, c.self.inside.items.ok.0))
    ∙ ap (λ subs. map (after_event c.args.event.now) (hearings heard subs)) c.self.view_is
