use Rattle.grid_json.proofs.Leaves.{flag_streams}
use Rattle.grid_json.proofs.tokens.BoolFromTokens.from_tokens.Goals as goal

pub returns-clause-read : goal.returns-clause-read
returns-clause-read c = flag_streams c.args._depth c.args.reader.now c.next_flag.new.reader c.next_flag.result c.next_flag.ensures.flag
