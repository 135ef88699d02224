use Rattle.std.proofs.Common.{sym, subst}
use Rattle.serde_json.specs.Written.{compact_text}
use Rattle.grid_jsonl.proofs.Objects.{begun, ends, more, more_of}
use Rattle.grid_jsonl.proofs.Commands.{injection_is}
use Rattle.grid_report.specs.Puts.{Puts}
use Rattle.grid_jsonl.proofs.command.put_new_injection.Goals as goal

pub returns : goal.returns
returns c =
    subst (λ d. Puts c.args.out.now (compact_text d) c.put.new.self c.put.result)
    (sym (injection_is c.args.id.now c.args.level.now c.args.node.now c.args.item.now))
    (rw (c.injection_word.ensures) at (ends (more_of _ _ (more _ _ (more_of _ _ (more _ _ (more _ _ (more _ _ (begun _ _ _ c.in_ok-open_with.ensures.ok) c.in_ok-put_id.ensures.ok) c.in_ok-put_text.ensures.ok) c.in_ok-put_id-2.ensures.ok) c.in_ok-put_before_node.ensures.ok) c.in_ok-put_whole.ensures.ok) c.in_ok-put_behind_node.ensures.ok) c.put.ensures))
