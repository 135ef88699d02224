use Rattle.std.proofs.Common.{◌≡◌, ap, sym, ◌∙◌, length, get_or, ◌<◌}
use Rattle.std.proofs.lemmas.Option.{slice_get-get_or}
use Rattle.grid_paths.specs.Routes.{PathEdge}
use Rattle.grid_paths.specs.declared.Way.TheVariants.{Free}
use Rattle.grid_paths.specs.Search.{weight_of_edge, step_weight, weight_of_lem}
use Rattle.grid_paths.proofs.step_weight.Goals as goal

pub returns : goal.returns
unfolding step_weight weight_of_edge
returns g c =
    let edges = g.N.PathNet.edges c.args.net.now in
    let none : PathEdge = record { a = 0; b = 0; way = Free } in
    let at = slice_get-get_or edges c.args.place none c.requires in
    c.weight_of.ensures ∙ ap weight_of_lem (c.way.ensures (get_or edges c.args.place none) at) ∙ sym (ap weight_of_edge at)
