use Rattle.grid_jsonl.proofs.Objects.{array_ends, first_and}
use Rattle.grid_jsonl.proofs.items.put_items_in.Goals as goal

pub returns-in_ok-put_others_in-in-len1-up : goal.returns-in_ok-put_others_in-in-len1-up
returns-in_ok-put_others_in-in-len1-up g c =
    array_ends (g.T.WrittenIn.written_in c.args.level.now) c.first-item.result _ c.args.items.now _ _ _
    (first_and c.args.items.now c.first-item.result c.in-len1-up.len_at_least c.first-item.is) c.in_ok-put-in-len1-up.ensures.ok c.in_ok-put_in-in-len1-up.ensures.ok c.in_ok-put_others_in-in-len1-up.ensures.ok c.put-in-len1-up-2.ensures
