use Rattle.grid_configured.proofs.ListParts.{joints_more, joint_stands}
use Rattle.grid_configured.proofs.level_lists.joints_of.Goals as goal

pub joint_of-requires-clause-bus1 : goal.joint_of-requires-clause-bus1
joint_of-requires-clause-bus1 c = (joint_stands c.args.level.now c.slice-switch-items.result.now c.loop-switch.switch-index c.switch-item.result c.requires.stands c.slice-switch-items.ensures c.loop-switch-test.true c.switch-item.is).0

pub joint_of-requires-clause-bus2 : goal.joint_of-requires-clause-bus2
joint_of-requires-clause-bus2 c = (joint_stands c.args.level.now c.slice-switch-items.result.now c.loop-switch.switch-index c.switch-item.result c.requires.stands c.slice-switch-items.ensures c.loop-switch-test.true c.switch-item.is).1

pub loop-switch-preserved : goal.loop-switch-preserved
loop-switch-preserved c =
    let s = c.switch-item.result in
    let more = joints_more c.args.level.now c.slice-switch-items.result.now c.loop-switch.switch-index s c.loop-switch-test.true c.switch-item.is in
    let own = c.in_ok-joint.ensures in
    let done = c.in_ok-push.ensures.ok in
    let invariant = c.loop-switch.invariant in
    cc
