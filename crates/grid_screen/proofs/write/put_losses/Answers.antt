use Rattle.std.specs.Prelude.{codes}
use Rattle.grid_jsonl.proofs.Puts.{put_with}
use Rattle.grid_report.specs.Words.{signed}
use Rattle.grid_screen.specs.Texts.{losses_text}
use Rattle.grid_screen.proofs.Written.{four_puts}
use Rattle.grid_screen.proofs.write.put_losses.Goals as goal

pub returns : goal.returns
unfolding losses_text
returns c =
    put_with
    (four_puts c.args.out.now c.put.new.self c.put_signed.new.self c.put-2.new.self c.put_signed-2.new.self (codes ", lost load ") (signed c.args.losses.now.load) (codes ", lost generation ") (signed c.args.losses.now.generation)
    c.in_ok-put.ensures.ok c.in_ok-put_signed.ensures.ok c.in_ok-put-2.ensures.ok) c.put_signed-2.ensures
