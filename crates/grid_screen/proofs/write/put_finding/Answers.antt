use Rattle.std.proofs.Common.{ap, ◌∙◌, ◌++◌}
use Rattle.std.specs.Prelude.{codes}
use Rattle.grid_jsonl.proofs.Puts.{put_with}
use Rattle.grid_screen.specs.Texts.{screen_line, finding_text}
use Rattle.grid_screen.proofs.Written.{five_puts}
use Rattle.grid_screen.proofs.write.put_finding.Goals as goal

pub returns : goal.returns
unfolding screen_line
returns c =
    put_with
    (five_puts c.args.out.now c.put.new.self c.put-2.new.self c.put-3.new.self c.put_found.new.out c.put-4.new.self (codes "contingency ") c.args.name.now (codes ": ") (finding_text c.args.telling.now.format c.args.telling.now.structure.now c.args.finding.now) (codes "\n")
    c.in_ok-put.ensures.ok (c.in_ok-put-2.ensures.ok ∙ ap (λ t. c.put.new.self ++ t) c.text.ensures.text) c.in_ok-put-3.ensures.ok c.in_ok-put_found.ensures.ok) c.put-4.ensures
