use Rattle.grid_graph.proofs.Reach.{within_le, within_saturates}
use Rattle.grid_graph.proofs.GroupLeaders.{among_holds}
use Rattle.grid_graph.proofs.more_steps_reach_no_less.Goals as goal

pub returns : goal.returns
returns c = record {
  more = within_le;
  enough = λ nodes pairs ends steps a b i h. within_saturates nodes pairs (among_holds nodes pairs ends) steps a b i h;
}
