use Rattle.grid_graph.proofs.GroupLeaders.{among_holds, first_least, led_by, leads_alone}
use Rattle.grid_graph.proofs.least_nodes_lead_groups.Goals as goal

pub returns : goal.returns
returns c = record {
  first = λ nodes pairs rise a i. first_least nodes pairs a rise i;
  each = λ nodes pairs rise ends b i. led_by nodes pairs b rise (among_holds nodes pairs ends) i;
  one = λ nodes pairs ends a x b there i j h k. leads_alone nodes pairs a x b (among_holds nodes pairs ends) there (i, h) (j, k);
}
