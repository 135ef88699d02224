use Rattle.grid_graph.proofs.Reach.{joined_refl, joined_symm, joined_trans}
use Rattle.grid_graph.proofs.GroupLeaders.{among_holds}
use Rattle.grid_graph.proofs.joined_is_equivalence.Goals as goal

pub returns : goal.returns
returns c = record {
  reflexive = joined_refl;
  symmetric = λ nodes pairs ends a b i h. joined_symm nodes pairs (among_holds nodes pairs ends) a b i h;
  transitive = λ nodes pairs ends a b x i h k. joined_trans nodes pairs (among_holds nodes pairs ends) a b x i h k;
}
