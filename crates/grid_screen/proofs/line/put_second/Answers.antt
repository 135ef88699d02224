use Rattle.grid_jsonl.proofs.Puts.{put_with}
use Rattle.grid_screen.specs.Lines.{unconnected_fields, tripped_fields}
use Rattle.grid_screen.proofs.Written.{more_put}
use Rattle.grid_screen.proofs.line.put_second.Goals as goal

pub returns : goal.returns
returns c =
    put_with
    (more_put c.args.out.now c.put_unconnected.new.out c.put_tripped.new.out (unconnected_fields c.args.losses.now) (tripped_fields c.args.structure.now c.args.tripped.now) c.in_ok-put_unconnected.ensures.ok)
    c.put_tripped.ensures
