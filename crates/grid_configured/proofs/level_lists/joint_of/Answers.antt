use Rattle.std.proofs.Common.{◌≡◌}
use Rattle.grid_configured.specs.Levels.{joint_of, bus_place}
use Rattle.grid_placed.specs.Translation.{joint_breaker}
use Rattle.grid_configured.proofs.ListParts.{numbered_place}
use Rattle.grid_configured.proofs.level_lists.joint_of.Goals as goal

pub returns : goal.returns
unfolding joint_of joint_breaker
returns c =
    let s = c.args.switch.now in
    let l = c.args.level.now in
    let one : c.number-node1.result ≡ bus_place l.buses s.bus1 = numbered_place c.args.numbers.now l.buses s.bus1 c.number-node1.result c.requires.numbered c.requires.bus1 c.number-node1.ensures in
    let two : c.number-node2.result ≡ bus_place l.buses s.bus2 = numbered_place c.args.numbers.now l.buses s.bus2 c.number-node2.result c.requires.numbered c.requires.bus2 c.number-node2.ensures in
    let id : c.in_ok-id.id ≡ s.id = c.in_ok-id.ensures in
    let done = c.switch_between.ensures in
    cc
