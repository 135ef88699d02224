use Rattle.grid_json.proofs.Leaves.{whole_streams}
use Rattle.grid_json.proofs.tokens.I64FromTokens.from_tokens.Goals as goal

pub returns-clause-read : goal.returns-clause-read
returns-clause-read c = whole_streams c.args._depth c.args.reader.now c.next_whole.new.reader c.next_whole.result c.next_whole.ensures.whole
