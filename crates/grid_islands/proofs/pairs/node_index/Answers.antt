use Rattle.std.proofs.Common.{◌∙◌, SFits, w64, rules}
use Rattle.std.proofs.lemmas.Int.{to_z-of_z}
use Rattle.grid_level.specs.Passing.{nodes}
use Rattle.grid_islands.proofs.Nodes.{none_within, index_within}
use Rattle.grid_islands.proofs.pairs.node_index.Goals as goal

pub returns-in-None : goal.returns-in-None
returns-in-None c =
    let fits : SFits w64 c.args.node = search rules in
    let none = simp (to_z-of_z w64 _ fits) at c.in-None.ensures in
    none_within (nodes c.args.level.now) c.args.node c.keeps.ensures.nodes_in_range none

pub returns-in-Some : goal.returns-in-Some
returns-in-Some c =
    let fits : SFits w64 c.args.node = search rules in
    let some = simp (to_z-of_z w64 _ fits) at c.in-Some.ensures in
    c.index_of.ensures ∙ index_within (nodes c.args.level.now) c.args.node c.in-Some.number some
