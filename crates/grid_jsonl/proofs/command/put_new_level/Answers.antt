use Rattle.std.proofs.Common.{sym, subst, append-nil}
use Rattle.serde_json.specs.Written.{compact_text}
use Rattle.grid_jsonl.specs.Commands.{new_level_text}
use Rattle.grid_jsonl.proofs.Commands.{level_is, no_level}
use Rattle.grid_jsonl.proofs.Objects.{begun, ends, more, more_of}
use Rattle.grid_report.specs.Puts.{Puts}
use Rattle.grid_jsonl.proofs.command.put_new_level.Goals as goal

pub returns-in_ok-put_id-in-AddLevel-2 : goal.returns-in_ok-put_id-in-AddLevel-2
unfolding new_level_text
returns-in_ok-put_id-in-AddLevel-2 c =
    let a = c.in-AddLevel in
    rw a.is
    (subst (λ d. Puts c.args.out.now (compact_text d) c.put.new.self c.put.result)
    (sym (level_is a.id a.substation a.nominal_v a.low_v a.high_v))
    (ends (more _ _ (more _ _ (more_of _ _ (more _ _ (more_of _ _ (begun _ _ _ c.in_ok-open_with-in-AddLevel.ensures.ok) c.in_ok-put_given-in-AddLevel.ensures.ok) c.in_ok-put_id-in-AddLevel.ensures.ok) c.in_ok-put_given-in-AddLevel-2.ensures.ok) c.in_ok-put_whole-in-AddLevel.ensures.ok) c.in_ok-put_id-in-AddLevel-2.ensures.ok) c.put.ensures))

pub returns-in_default : goal.returns-in_default
returns-in_default c = rw (no_level c.args.edit.now c.in_default.not-AddLevel) (record { ok = sym (append-nil c.args.out.now); err = tt })
