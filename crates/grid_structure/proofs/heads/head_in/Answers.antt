use Rattle.std.proofs.Common.{◌≡◌, ◌<◌, ◌≤◌, length, arith}
use Rattle.grid_structure.specs.Blocks.{count_of}
use Rattle.grid_structure.proofs.Blocks.{rest_begins, rest_here, rest_goes, rest_ends}
use Rattle.grid_structure.proofs.heads.head_in.Goals as goal

pub loop-at-init : goal.loop-at-init
loop-at-init c = rest_begins (count_of c.args.own) c.args.heads.now c.args.place c.requires

pub returns-then-rest-count-clause-place : goal.returns-then-rest-count-clause-place
returns-then-rest-count-clause-place c =
    let less : c.loop-at.rest < count_of c.args.own c.index-heads-at.result = omega arith in
    rest_here (count_of c.args.own) c.args.heads.now c.args.place c.loop-at.at c.loop-at.rest c.index-heads-at.result c.loop-at.invariant c.loop-at-test.true c.index-heads-at.is less

pub loop-at-preserved : goal.loop-at-preserved
loop-at-preserved c =
    let more : count_of c.args.own c.index-heads-at.result ≤ c.loop-at.rest = omega arith in
    rw c.count_own-count.ensures (rest_goes (count_of c.args.own) c.args.heads.now c.args.place c.loop-at.at c.loop-at.rest c.index-heads-at.result c.loop-at.invariant c.loop-at-test.true c.index-heads-at.is more)

pub returns : goal.returns
returns c =
    let all : c.loop-at.at ≡ length c.args.heads.now = omega arith in
    absurd (rest_ends (count_of c.args.own) c.args.heads.now c.args.place c.loop-at.at c.loop-at.rest all c.loop-at.invariant)
