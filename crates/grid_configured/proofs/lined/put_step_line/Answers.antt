use Rattle.std.proofs.Common.{[], ◌∷◌}
use Rattle.std.specs.Prelude.{codes}
use Rattle.serde_json.specs.Data.{string}
use Rattle.grid_print.specs.Command.{request_value}
use Rattle.grid_print.specs.Objects.{natural}
use Rattle.grid_jsonl.proofs.Objects.{begun, line_ends, more, more_in}
use Rattle.grid_configured.specs.Lines.{command_object}
use Rattle.grid_configured.proofs.lined.put_step_line.Goals as goal

pub returns : goal.returns
unfolding command_object
returns c =
    let s = c.args.step.now in
    let e = s.entry.now in
    let rest = (codes "worker", natural e.worker) ∷ (codes "step", natural s.number) ∷ (codes "variant", string e.variant) ∷ (codes "command", request_value e.request) ∷ [] in
    line_ends (more _ _ (more_in _ _ (codes "place", natural s.place) rest (begun _ _ _ c.in_ok-open_with.ensures.ok) c.in_ok-put.ensures.ok c.in_ok-put_asked_step.ensures.ok) c.in_ok-put_answered.ensures.ok) c.put-2.ensures
