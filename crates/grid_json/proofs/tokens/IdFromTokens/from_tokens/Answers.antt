use Rattle.grid_json.proofs.Leaves.{id_streams}
use Rattle.grid_json.proofs.tokens.IdFromTokens.from_tokens.Goals as goal

pub returns-clause-read : goal.returns-clause-read
returns-clause-read c =
    let made = c.new.ensures in
    rw c.ok.ensures.value (id_streams c.args._depth c.args.reader.now c.next_text.new.reader c.in_ok-next_text.field-0.now c.new.result c.in_ok-next_text.ensures.text made.made made.valid)
