use Rattle.grid_make.specs.Draws.{same}
use Rattle.grid_make.specs.MadeNetwork.{line_edits}
use Rattle.grid_make.proofs.Turns.{edits_go_on, edits_end, turn_accepted}
use Rattle.grid_make.proofs.network.add_lines.Goals as goal

pub loop-level-preserved : goal.loop-level-preserved
loop-level-preserved c = edits_go_on line_edits same c.loop-level.level c.args.count 0 c.loop-level.structure c.add_line.new.structure _ c.loop-level-test.true c.in_ok-add_line.ensures c.loop-level.invariant

pub returns : goal.returns
returns c = edits_end line_edits same c.loop-level.level c.args.count 0 c.loop-level.structure _ c.loop-level-test.false c.loop-level.invariant

pub add_line-requires-clause-accepted : goal.add_line-requires-clause-accepted
add_line-requires-clause-accepted c = turn_accepted line_edits same c.loop-level.level c.args.count 0 c.loop-level.structure _ c.loop-level-test.true c.loop-level.invariant c.requires.accepted
