use Rattle.std.proofs.Common.{ℕ, ◌+◌, ◌<◌, List, length, arith, sym, subst}
use Rattle.std.proofs.lemmas.Option.{get_or_from_slice_get}
use Rattle.grid_level.specs.Passing.{nodes}
use Rattle.grid_groups.proofs.IndexTables.{HoldsBelow, holds_none, holds_more, holds_all}
use Rattle.grid_groups.proofs.node_indices.table_of.Goals as goal

pub loop-index-init : goal.loop-index-init
loop-index-init c = holds_none (nodes c.args.level.now) _

pub returns : goal.returns
returns c = holds_all (nodes c.args.level.now) c.loop-index.table.items c.loop-index.index (omega arith) c.loop-index.invariant

pub loop-index-preserved : goal.loop-index-preserved
loop-index-preserved c =
    let ns = nodes c.args.level.now in
    let P : List ℕ → Type 0 = λ z. HoldsBelow ns (c.loop-index.index + 1) z in
    let lt : c.loop-index.index < length ns = omega (arith, c.loop-index-test.true, c.node_count-index-end.ensures) in
    subst P (sym c.put_index.ensures)
    (holds_more ns c.loop-index.table.items c.loop-index.index c.node_at.result c.keeps.ensures.nodes_rise lt
    (get_or_from_slice_get ns c.loop-index.index c.node_at.result 0 c.node_at.ensures) c.loop-index.invariant)
