use Rattle.std.proofs.Common.{◌≡◌, subst, List, ℤ}
use Rattle.std.specs.Prelude.{IfOk}
use Rattle.grid_busview.specs.Views.{record_watts}
use Rattle.grid_watts.specs.Watts.{level_watts}
use Rattle.grid_watts.proofs.RecordWatts.{records_stand}
use Rattle.grid_watts.proofs.watts.level_watts.Goals as goal

pub returns-then-is_empty : goal.returns-then-is_empty
returns-then-is_empty c =
    let same : record_watts c.args.level.now ≡ level_watts c.args.powers.now.listed c.args.level.now = records_stand c.args.powers.now.listed c.args.level.now (c.is_empty.ensures.0 c.if-is_empty.true) in
    subst (λ (ws : List ℤ). IfOk c.record_watts.result (λ values. values ≡ ws)) same c.record_watts.ensures
