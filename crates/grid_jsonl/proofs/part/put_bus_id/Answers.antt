use Rattle.std.proofs.Common.{◌∷◌, ap}
use Rattle.std.specs.Prelude.{codes, decimal}
use Rattle.grid_report.specs.Lines.{bus_name}
use Rattle.grid_jsonl.proofs.Plain.{bus_name_escaped, quoted_ends}
use Rattle.grid_jsonl.proofs.part.put_bus_id.Goals as goal

pub returns : goal.returns
returns c =
    let level = c.args.level.now in
    let least = c.args.least in
    quoted_ends (codes "\"") level (codes "_") (decimal least) (bus_name level least) c.args.out.now c.put_escaped.new.out
    (ap (λ l. 34 ∷ l) (bus_name_escaped level least)) (rw (c.text.ensures.text) at c.in_ok-put_escaped.ensures.ok) (rw (c.from.ensures) at c.in_ok-put_unsigned.ensures.ok) c.put.ensures
