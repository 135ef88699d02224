use Rattle.std.proofs.Common.{append_assoc}
use Rattle.json.specs.Print.{escape_byte}
use Rattle.grid_jsonl.specs.Trees.{field_text, name_text}
use Rattle.grid_jsonl.proofs.part.open_bus.Goals as goal

pub returns : goal.returns
unfolding field_text name_text escape_byte
returns c = let a = c.in_ok-put.ensures.ok in let f = c.put_bus_id.ensures in record { ok = simp append_assoc (simp (a, append_assoc) at f.ok); err = f.err }
