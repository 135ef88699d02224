use Rattle.std.proofs.Common.{ap, ◌∙◌, ◌++◌, map, get_or}
use Rattle.grid_contingencies.specs.Made.{made_of, made_by}
use Rattle.grid_contingencies.proofs.ItemLoops.{flat_more, got}
use Rattle.grid_contingencies.proofs.Once.{none}
use Rattle.grid_contingencies.proofs.making.made.Goals as goal

pub loop-item-preserved : goal.loop-item-preserved
unfolding made_by
loop-item-preserved c =
    let items = c.slice-item-items.result.now in
    let i = c.loop-item.item-index in
    let item = get_or items i none in
    c.in_ok-push_made.ensures ∙ ap (λ z. c.loop-item.list ++ map (made_of item.role) z) (c.slice-in-loop-item.ensures ∙ c.in_ok-ids.ensures)
    ∙ flat_more (made_by c.args.structure.now) items i item c.loop-item.list (got items i none c.loop-item-test.true) c.loop-item.invariant
