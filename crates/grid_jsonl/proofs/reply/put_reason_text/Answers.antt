use Rattle.std.proofs.Common.{sym}
use Rattle.grid_jsonl.proofs.Reasons.{reason_stays, reason_taken}
use Rattle.grid_jsonl.proofs.reply.put_reason_text.Goals as goal

pub returns-in-Some : goal.returns-in-Some
returns-in-Some c = rw (reason_taken c.args.refusal.now c.in-Some.terminal.now (sym c.in-Some.ensures)) c.put_taken.ensures

pub returns-in-None : goal.returns-in-None
returns-in-None c = rw (reason_stays c.args.refusal.now (sym c.in-None.ensures)) c.put_plain.ensures
