use Rattle.std.proofs.Common.{sym, subst, append-nil}
use Rattle.serde_json.specs.Written.{compact_text}
use Rattle.grid_jsonl.specs.Commands.{new_switch_text}
use Rattle.grid_jsonl.proofs.Commands.{switch_is, no_switch}
use Rattle.grid_jsonl.proofs.Objects.{begun, ends, more}
use Rattle.grid_report.specs.Puts.{Puts}
use Rattle.grid_jsonl.proofs.command.put_new_switch.Goals as goal

pub returns-in_ok-put_flag-in-AddSwitch-3 : goal.returns-in_ok-put_flag-in-AddSwitch-3
unfolding new_switch_text
returns-in_ok-put_flag-in-AddSwitch-3 c =
    let a = c.in-AddSwitch in
    rw a.is
    (subst (λ d. Puts c.args.out.now (compact_text d) c.put.new.self c.put.result)
    (sym (switch_is a.id a.level a.kind a.node1 a.node2 a.opened a.retained a.fictitious))
    (rw (c.switch_word.ensures) at (ends (more _ _ (more _ _ (more _ _ (more _ _ (more _ _ (more _ _ (more _ _ (more _ _ (begun _ _ _ c.in_ok-open_with-in-AddSwitch.ensures.ok) c.in_ok-put_flag-in-AddSwitch.ensures.ok) c.in_ok-put_id-in-AddSwitch.ensures.ok) c.in_ok-put_text-in-AddSwitch.ensures.ok) c.in_ok-put_id-in-AddSwitch-2.ensures.ok) c.in_ok-put_whole-in-AddSwitch.ensures.ok) c.in_ok-put_whole-in-AddSwitch-2.ensures.ok) c.in_ok-put_flag-in-AddSwitch-2.ensures.ok) c.in_ok-put_flag-in-AddSwitch-3.ensures.ok) c.put.ensures)))

pub returns-in_default : goal.returns-in_default
returns-in_default c = rw (no_switch c.args.edit.now c.in_default.not-AddSwitch) (record { ok = sym (append-nil c.args.out.now); err = tt })
