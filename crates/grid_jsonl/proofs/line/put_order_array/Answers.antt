use Rattle.std.proofs.Common.{ap, ◌∙◌, ◌++◌}
use Rattle.std.specs.Prelude.{decimal}
use Rattle.grid_core.specs.declared.journal.Entry.{Entry}
use Rattle.grid_print.specs.Objects.{natural}
use Rattle.grid_jsonl.proofs.Objects.{array_ends, first_and}
use Rattle.grid_jsonl.proofs.line.put_order_array.Goals as goal

pub returns-in_ok-put_workers-in-len1-up : goal.returns-in_ok-put_workers-in-len1-up
returns-in_ok-put_workers-in-len1-up c =
    let first = c.in_ok-put_unsigned-in-len1-up.ensures.ok ∙ ap (λ n. c.put-in-len1-up.new.self ++ decimal n) c.from.ensures in
    array_ends (λ (e : Entry). natural e.worker) c.first-item.result _ c.args.journal.now _ _ _
    (first_and c.args.journal.now c.first-item.result c.in-len1-up.len_at_least c.first-item.is) c.in_ok-put-in-len1-up.ensures.ok first c.in_ok-put_workers-in-len1-up.ensures.ok c.put-in-len1-up-2.ensures
