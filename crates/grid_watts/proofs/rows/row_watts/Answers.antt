use Rattle.std.proofs.Common.{◌≡◌, sym, ◌∙◌, subst, length, List, ℤ}
use Rattle.std.proofs.lemmas.Bool.{eqb-true}
use Rattle.std.specs.Prelude.{IfOk}
use Rattle.grid_busview.specs.Views.{record_watts}
use Rattle.grid_watts.proofs.Merges.{ended}
use Rattle.grid_watts.proofs.RowWatts.{records_of_level}
use Rattle.grid_watts.proofs.rows.row_watts.Goals as goal

pub returns-then-is_empty : goal.returns-then-is_empty
returns-then-is_empty c = λ listed is.
    let none : length c.args.row.now ≡ 0 = eqb-true _ _ (sym c.is_empty.ensures ∙ c.if-is_empty.true) in
    let empty = ended c.args.row.now none in
    subst (λ (ws : List ℤ). IfOk c.record_watts.result (λ values. values ≡ ws)) (records_of_level listed c.args.level.now c.args.row.now empty is) c.record_watts.ensures
