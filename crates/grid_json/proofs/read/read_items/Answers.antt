use Rattle.std.proofs.Common.{sym, ap, ◌∙◌, subst, length, arith, length-append}
use Rattle.grid_value.specs.View.{view, items_view, items_len}
use Rattle.grid_json.specs.Reading.{Fails, items_at}
use Rattle.grid_json.proofs.Items.{with_front, goes_on, ends, is_done}
use Rattle.grid_json.proofs.read.read_items.Goals as goal

pub returns-in-Err-clause-items : goal.returns-in-Err-clause-items
returns-in-Err-clause-items g c =
    let reads = g.T.FromJson.reads c.args.format in
    let list = c.loop-item.list in
    subst (λ all. Fails c.under_position.result all) (ap (λ items. with_front list (items_at reads (length list) items)) (sym c.in-Some.ensures) ∙ c.loop-item.invariant.items)
    (ends reads list (view c.in-Some.item) (items_view c.next.new.self) c.in-Err.e c.under_position.result c.in-Err.ensures (rw (← c.len.ensures) c.under_position.ensures))

pub loop-item-preserved : goal.loop-item-preserved
loop-item-preserved g c = record {
  items = let reads = g.T.FromJson.reads c.args.format in let list = c.loop-item.list in rw c.in_ok-push-in-Ok.ensures.ok
      (sym (goes_on reads list (view c.in-Some.item) (items_view c.next.new.self) c.in-Ok.read c.in-Ok.ensures) ∙ ap (λ items. with_front list (items_at reads (length list) items)) (sym c.in-Some.ensures) ∙ c.loop-item.invariant.items);
  count = rw (c.in_ok-push-in-Ok.ensures.ok, length-append) (omega (arith, c.loop-item.invariant.count, ap items_len c.in-Some.ensures));
}

pub returns-clause-items : goal.returns-clause-items
returns-clause-items g c = is_done (g.T.FromJson.reads c.args.format) c.loop-item.list (items_view c.loop-item.left) _ c.in_default.ensures c.loop-item.invariant.items
