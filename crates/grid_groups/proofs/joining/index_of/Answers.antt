use Rattle.std.proofs.Common.{sym, ◌∙◌}
use Rattle.grid_level.specs.Passing.{nodes}
use Rattle.grid_groups.proofs.Indices.{among_In, index_found, some_index}
use Rattle.grid_groups.proofs.joining.index_of.Goals as goal

pub unwrap-requires : goal.unwrap-requires
unwrap-requires c = some_index c.args.node (nodes c.args.level.now) c.index_of.result (among_In c.args.node (nodes c.args.level.now) c.requires) c.index_of.ensures

pub returns : goal.returns
returns c = index_found c.args.node (nodes c.args.level.now) c.unwrap.result (among_In c.args.node (nodes c.args.level.now) c.requires) (sym c.unwrap.ensures ∙ c.index_of.ensures)
