use Rattle.std.proofs.Common.{◌≡◌, sym, ap, ◌∙◌, Some, None}
use Rattle.std.specs.Prelude.{slice_get}
use Rattle.std.proofs.lemmas.Result.{IfOk-weaker}
use Rattle.grid_states.specs.Rows.{row_at}
use Rattle.grid_structure.specs.Sites.{levels}
use Rattle.grid_outages.specs.Changes.{change_at, shown_levels, shown_rows}
use Rattle.grid_outages.proofs.ShownLevels.{level_changed, level_kept, row_changed, row_kept}
use Rattle.grid_outages.proofs.outage.take_standing.Goals as goal

pub returns-in-Some-clause-level : goal.returns-in-Some-clause-level
returns-in-Some-clause-level c =
    let changes = c.args.changes.now in
    let here : change_at changes c.args.place ≡ Some c.in-Some.changed = sym c.take.ensures.taken ∙ c.in-Some.is in
    level_changed changes (levels c.args.structure.now) c.args.place c.in-Some.changed c.requires.changes c.requires.place here

pub returns-in-Some-clause-opened : goal.returns-in-Some-clause-opened
returns-in-Some-clause-opened c =
    let changes = c.args.changes.now in
    let here : change_at changes c.args.place ≡ Some c.in-Some.changed = sym c.take.ensures.taken ∙ c.in-Some.is in
    sym (row_changed changes c.args.states.now.opened c.args.place c.in-Some.changed (c.requires.changes ∙ sym c.requires.rows) here)

pub returns-in-None-clause-level : goal.returns-in-None-clause-level
returns-in-None-clause-level c =
    let changes = c.args.changes.now in
    let ls = levels c.args.structure.now in
    let k = c.args.place in
    let here : change_at changes k ≡ None = sym c.take.ensures.taken ∙ c.in-None.is in
    IfOk-weaker c.standing.result (λ s. s.value.level ≡ c.level.result.now) (λ s. slice_get (shown_levels changes ls) k ≡ Some s.value.level)
    (λ s e. level_kept changes ls k c.level.result.now c.requires.changes c.level.ensures here ∙ ap (λ z. Some z) (sym e)) c.standing.ensures.level

pub returns-in-None-clause-opened : goal.returns-in-None-clause-opened
returns-in-None-clause-opened c =
    let changes = c.args.changes.now in
    let rows = c.args.states.now.opened in
    let k = c.args.place in
    let here : change_at changes k ≡ None = sym c.take.ensures.taken ∙ c.in-None.is in
    IfOk-weaker c.standing.result (λ s. s.value.opened ≡ c.opened_row.result.now) (λ s. s.value.opened ≡ row_at (shown_rows changes rows) k)
    (λ s e. e ∙ c.opened_row.ensures ∙ sym (row_kept changes rows k (c.requires.changes ∙ sym c.requires.rows) here)) c.standing.ensures.opened
