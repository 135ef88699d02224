use Rattle.grid_json.proofs.Limits.{workers_read}
use Rattle.grid_json.proofs.stream.WorkersFromTokens.from_tokens.Goals as goal

pub returns-clause-read : goal.returns-clause-read
returns-clause-read c =
    let scripts = c.in_ok-scripts in
    let found = c.in_ok-workers.ensures in
    rw found.scripts (workers_read c.args.format c.args.depth c.args.reader.now c.from_tokens.new.reader scripts.scripts scripts.ensures.read found.few found.total)
