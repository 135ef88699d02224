use Rattle.std.proofs.Common.{◌∷◌, [], length, take, append_assoc}
use Rattle.std.specs.Prelude.{map}
use Rattle.std.specs.List.{enumerate_from}
use Rattle.grid_configured.specs.Partial.{item_at, item_breaker}
use Rattle.grid_configured.proofs.ListParts.{made_more, item_stands}
use Rattle.grid_configured.proofs.PlainParts.{item_is_plain, got}
use Rattle.grid_configured.proofs.level_lists.items_of.Goals as goal

pub breaker_of-requires-clause-bus : goal.breaker_of-requires-clause-bus
breaker_of-requires-clause-bus c = item_stands c.args.level.now c.slice-item-items.result.now c.loop-own.own c.item-item.result c.requires.stands c.slice-item-items.ensures c.loop-own-test.true c.item-item.is

pub breaker_of-requires-clause-plain : goal.breaker_of-requires-clause-plain
breaker_of-requires-clause-plain c =
    let l = c.args.level.now in
    item_is_plain l c.loop-own.own c.item-item.result c.requires.plain (got l.items c.slice-item-items.result.now c.loop-own.own c.item-item.result c.slice-item-items.ensures c.loop-own-test.true c.item-item.is)

pub loop-own-preserved : goal.loop-own-preserved
loop-own-preserved c =
    let t = c.item-item.result in
    let l = c.args.level.now in
    let more = made_more item_at (length l.buses) c.slice-item-items.result.now c.loop-own.own t c.loop-own-test.true c.item-item.is in
    let more2 = made_more (item_breaker l) (length l.buses) c.slice-item-items.result.now c.loop-own.own t c.loop-own-test.true c.item-item.is in
    let count = c.len.ensures in
    let breaker = c.in_ok-breaker.ensures in
    let pushed = c.in_ok-push.ensures.ok in
    let placed = c.in_ok-placed.ensures in
    let done = c.in_ok-push-2.ensures.ok in
    let made = c.loop-own.invariant.made in
    let breakers = c.loop-own.invariant.breakers in
    let joined = append_assoc c.args.switches.now (map (item_breaker l) (enumerate_from (length l.buses) (take c.loop-own.own c.slice-item-items.result.now))) (c.in_ok-breaker.breaker ∷ []) in
    record { made = cc; breakers = cc }
