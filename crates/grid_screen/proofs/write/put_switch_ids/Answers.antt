use Rattle.std.proofs.Common.{sym, ap, ◌∙◌, ◌++◌, ◌∷◌, [], append_assoc, false}
use Rattle.std.specs.Prelude.{flat_map}
use Rattle.grid_jsonl.proofs.Puts.{put_with}
use Rattle.grid_screen.specs.Faults.{switch_ids}
use Rattle.grid_screen.specs.Texts.{ids_text}
use Rattle.grid_screen.proofs.Written.{rest_text, rest_skipped, rest_more, rest_none}
use Rattle.grid_screen.proofs.write.put_switch_ids.Goals as goal

pub loop-at-preserved-in_default : goal.loop-at-preserved-in_default
loop-at-preserved-in_default c =
    rest_skipped (switch_ids c.args.structure.now) c.args.switches.now c.loop-at.at-index _ c.loop-at-test.true c.loop-at.out _ c.loop-at.later (sym (rw c.in_default.is at c.id_at.ensures)) c.loop-at.invariant

pub loop-at-preserved : goal.loop-at-preserved
loop-at-preserved c =
    rest_more (switch_ids c.args.structure.now) c.args.switches.now c.loop-at.at-index _ c.loop-at-test.true c.loop-at.out _ c.loop-at.later c.in-Some.id.now c.put_next.new.out (sym (rw c.in-Some.is at c.id_at.ensures)) c.in_ok-put_next.ensures.ok c.loop-at.invariant

pub returns : goal.returns
unfolding ids_text
returns c =
    let all = flat_map (switch_ids c.args.structure.now) c.args.switches.now in
    let done = rest_none (switch_ids c.args.structure.now) c.args.switches.now c.loop-at.at-index c.loop-at.out _ c.loop-at.later c.loop-at-test.false c.loop-at.invariant in
    put_with (λ e. e ∙ done ∙ ap (λ z. z ++ rest_text false all) c.in_ok-put.ensures.ok ∙ append_assoc c.args.out.now (91 ∷ []) (rest_text false all)) c.put-2.ensures
