use Rattle.grid_jsonl.proofs.Plain.{whole_text}
use Rattle.grid_jsonl.proofs.member.put_whole_number.Goals as goal

pub returns : goal.returns
returns c = rw (whole_text c.args.number.now) c.put_whole.ensures
