use Rattle.std.proofs.Common.{◌≢◌, sym, ap, ◌∙◌, ◌<◌, length, get_or, arith}
use Rattle.std.proofs.lemmas.Option.{get_or_from_slice_get}
use Rattle.grid_level.specs.Passing.{nodes}
use Rattle.grid_groups.specs.Labels.{index_in}
use Rattle.grid_groups.proofs.Indices.{among_In, index_below, index_at, at_index}
use Rattle.grid_busview.proofs.indices.index_from.Goals as goal

pub node_at-requires : goal.node_at-requires
node_at-requires c =
    let ns = nodes c.args.level.now in
    omega (arith, c.loop-index.invariant, index_below c.args.node ns (among_In c.args.node ns c.requires.node))

pub overflow_add-index : goal.overflow_add-index
overflow_add-index c =
    let ns = nodes c.args.level.now in
    omega (arith, c.loop-index.invariant, index_below c.args.node ns (among_In c.args.node ns c.requires.node), c.keeps.ensures.few_nodes)

pub loop-index-smaller : goal.loop-index-smaller
loop-index-smaller c =
    let ns = nodes c.args.level.now in
    omega (arith, c.loop-index.invariant, index_below c.args.node ns (among_In c.args.node ns c.requires.node))

pub loop-index-preserved : goal.loop-index-preserved
loop-index-preserved c =
    let ns = nodes c.args.level.now in
    let node = c.args.node in
    let index = c.loop-index.index in
    let other : index ≢ index_in ns node = λ e. c.loop-index-test.true (sym (get_or_from_slice_get ns index c.node_at.result 0 c.node_at.ensures) ∙ ap (λ k. get_or ns k 0) e ∙ at_index node ns (among_In node ns c.requires.node)) in
    omega (arith, c.loop-index.invariant, other)

pub returns : goal.returns
returns c =
    let ns = nodes c.args.level.now in
    let index = c.loop-index.index in
    let lt : index < length ns = omega (arith, c.loop-index.invariant, index_below c.args.node ns (among_In c.args.node ns c.requires.node)) in
    sym (index_at ns index c.keeps.ensures.nodes_rise lt) ∙ ap (index_in ns) (get_or_from_slice_get ns index c.node_at.result 0 c.node_at.ensures ∙ c.loop-index-test.false)
