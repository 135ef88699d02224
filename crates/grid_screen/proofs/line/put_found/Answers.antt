use Rattle.std.proofs.Common.{sym, ap, ◌∙◌, ◌++◌}
use Rattle.grid_jsonl.proofs.Puts.{put_with}
use Rattle.grid_jsonl.specs.Trees.{more_text}
use Rattle.grid_screen.specs.Lines.{effect_fields, more_fields, finding_fields}
use Rattle.grid_screen.proofs.Written.{more_put}
use Rattle.grid_screen.proofs.line.put_found.Goals as goal

pub returns-in_ok-put_effect-in-Effect : goal.returns-in_ok-put_effect-in-Effect
unfolding finding_fields
returns-in_ok-put_effect-in-Effect c =
    let out = c.args.out.now in
    let telling = c.args.telling.now in
    let effect = c.in-Effect in
    put_with
    (λ e. more_put out c.put_effect.new.out c.put_more.new.out (effect_fields effect.after effect.losses) (more_fields telling.format telling.structure.now effect.losses effect.tripped) c.in_ok-put_effect-in-Effect.ensures.ok e
    ∙ ap (λ z. out ++ more_text (finding_fields telling.format telling.structure.now z)) (sym effect.is)) c.put_more.ensures
