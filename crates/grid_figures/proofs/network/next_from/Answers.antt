use Rattle.std.proofs.Common.{ap, ◌∙◌, ◌+◌, [], length, get_or, arith}
use Rattle.std.proofs.lemmas.List.{get_or_default}
use Rattle.grid_figures.proofs.FirstLevels.{next_here, next_later}
use Rattle.grid_figures.proofs.network.next_from.Goals as goal

pub returns-then-len-gt0 : goal.returns-then-len-gt0
returns-then-len-gt0 c =
    let kept = c.args.kept.now in
    let level = c.args.level in
    let is = ap length (c.index-kept-level.is ∙ get_or_default kept level c.index-kept-level.result [] c.requires.there) in
    next_here kept level c.requires.there (omega (arith, is, c.len.ensures, c.if-len-gt0.true))

pub returns-else-len-gt0 : goal.returns-else-len-gt0
returns-else-len-gt0 c =
    let kept = c.args.kept.now in
    let level = c.args.level in
    let is = ap length (c.index-kept-level.is ∙ get_or_default kept level c.index-kept-level.result [] c.requires.there) in
    next_later kept level (get_or c.args.nexts.now (level + 1) 0) (omega (arith, is, c.len.ensures, c.if-len-gt0.false)) c.requires.later
