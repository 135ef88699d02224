use Rattle.std.proofs.Common.{[], ◌∷◌}
use Rattle.std.specs.Prelude.{codes}
use Rattle.serde_json.specs.Data.{string}
use Rattle.grid_print.specs.Command.{request_value}
use Rattle.grid_print.specs.Objects.{natural}
use Rattle.grid_jsonl.specs.Steps.{step_fields}
use Rattle.grid_jsonl.proofs.Objects.{last_member, members}
use Rattle.grid_jsonl.proofs.step.put_step.Goals as goal

pub returns : goal.returns
unfolding step_fields
returns c =
    let e = c.args.entry.now in
    last_member {fields = (codes "worker", natural e.worker) ∷ (codes "step", natural c.args.step) ∷ (codes "variant", string e.variant) ∷ (codes "command", request_value e.request) ∷ []}
    _ (members _ _ _ c.in_ok-put_asked_step.ensures.ok) c.put_answered.ensures
