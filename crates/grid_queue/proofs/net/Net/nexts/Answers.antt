use Rattle.std.proofs.Common.{◌≡◌, sym, ◌∙◌, subst, List, ◌<◌}
use Rattle.std.specs.Prelude.{All}
use Rattle.grid_queue.specs.declared.net.Next.{Next}
use Rattle.grid_queue.specs.Net.{NetShape, NextFits, nexts_of, shape}
use Rattle.grid_queue.proofs.Ways.{ways_fit}
use Rattle.grid_queue.proofs.net.Net.nexts.Goals as goal

pub returns-clause-fit : goal.returns-clause-fit
returns-clause-fit c =
    let net = c.self.inside in
    let few : c.args.node < net.nodes = (rw (← c.self.view_is) at c.requires) in
    let same : c.at.result.now ≡ nexts_of net.edges.items c.args.node =
    c.at.ensures ∙ c.self.invariant.each c.args.node few in
    let P : List Next → Type 0 = λ ns. All (NextFits (shape net.nodes net.edges.items)) ns in
    let Q : NetShape → Type 0 = λ s. All (NextFits s) c.at.result.now in
    subst Q c.self.view_is (subst P (sym same) (ways_fit net.nodes net.edges.items c.args.node c.self.invariant.ends))
