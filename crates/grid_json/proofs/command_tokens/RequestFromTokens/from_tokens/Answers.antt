use Rattle.grid_json.proofs.CommandTokens.{command_read}
use Rattle.grid_json.proofs.command_tokens.RequestFromTokens.from_tokens.Goals as goal

pub returns-clause-read : goal.returns-clause-read
returns-clause-read c =
    command_read c.args.format c.in_ok-verb.verb c.args.depth c.args.reader.now c.first_verb.new.reader
    c.request_behind.new.reader c.request_behind.result c.in_ok-verb.ensures.verb c.request_behind.ensures.request
