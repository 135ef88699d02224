use Rattle.std.proofs.Common.{arith}
use Rattle.grid_structure.proofs.Blocks.{levels_summed}
use Rattle.grid_structure.proofs.heads.Heads.head_of_level.Goals as goal

pub head_at-requires-clause-within : goal.head_at-requires-clause-within
head_at-requires-clause-within c = rw (c.as_slice-heads.ensures.value, c.self.view_is) (omega (arith, levels_summed c.args.self.now, c.requires.within))
