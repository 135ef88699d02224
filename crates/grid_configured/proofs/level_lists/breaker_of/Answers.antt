use Rattle.std.proofs.Common.{◌≡◌}
use Rattle.grid_configured.specs.Levels.{item_outlet, bus_place, terminal}
use Rattle.grid_placed.specs.Translation.{outlet_breaker, breaker_id}
use Rattle.grid_configured.proofs.ListParts.{numbered_place, first_side}
use Rattle.grid_configured.proofs.level_lists.breaker_of.Goals as goal

pub returns : goal.returns
unfolding item_outlet outlet_breaker
returns c =
    let t = c.args.item.now in
    let l = c.args.level.now in
    let one : c.number-bus.result ≡ bus_place l.buses t.bus = numbered_place c.args.numbers.now l.buses t.bus c.number-bus.result c.requires.numbered c.requires.bus c.number-bus.ensures in
    let id : c.in_ok-id.id ≡ breaker_id (terminal t.id 1) = first_side t.id c.in_ok-id.id c.in_ok-id.ensures in
    let done = c.breaker_between.ensures in
    cc
