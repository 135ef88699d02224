use Rattle.std.proofs.Common.{◌∷◌, ◌++◌, ap}
use Rattle.std.specs.Prelude.{codes, decimal}
use Rattle.grid_report.specs.Lines.{terminal_text}
use Rattle.grid_jsonl.proofs.Plain.{quoted_ends}
use Rattle.grid_jsonl.proofs.Reasons.{taken_escaped}
use Rattle.grid_jsonl.proofs.reply.put_taken.Goals as goal

pub returns : goal.returns
returns c =
    let terminal = c.args.terminal.now in
    quoted_ends (codes "\"node taken by ") terminal.equipment (codes ".") (decimal terminal.side) (codes "node taken by " ++ terminal_text terminal) c.args.out.now c.put_escaped.new.out
    (ap (λ l. 34 ∷ l) (taken_escaped terminal)) (rw (c.text.ensures.text) at c.in_ok-put_escaped.ensures.ok) (rw (c.from.ensures) at c.in_ok-put_unsigned.ensures.ok) c.put.ensures
