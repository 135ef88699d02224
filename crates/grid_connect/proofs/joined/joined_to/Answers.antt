use Rattle.std.proofs.Common.{◌≡◌, ap, ◌∙◌, length}
use Rattle.std.specs.Prelude.{map, eqb}
use Rattle.grid_level.specs.Passing.{nodes}
use Rattle.grid_groups.specs.Labels.{label_of, labels_where}
use Rattle.grid_paths.proofs.CallAnswers.{IfOk_then}
use Rattle.grid_connect.specs.Indexed.{marks_where}
use Rattle.grid_connect.proofs.Marks.{labels_full, marks_long}
use Rattle.grid_connect.proofs.joined.joined_to.Goals as goal
use Rattle.grid_connect.proofs.joined.joined_to.Goals.{After-equal_to}

pub label_at-own-requires-clause-long : goal.label_at-own-requires-clause-long
label_at-own-requires-clause-long c = labels_full c.args.level.now c.args.passes.now c.as_slice.result.now c.keeps.ensures (c.as_slice.ensures.value ∙ c.in_ok-labels.ensures)

made : (c : After-equal_to) → map (λ label. eqb label c.label_at-own.result) c.as_slice-2.result.now ≡ marks_where c.args.level.now c.args.passes.now c.args.node
unfolding marks_where
made c =
    let ns = nodes c.args.level.now in
    let labels = labels_where c.args.level.now c.args.passes.now in
    let own : c.label_at-own.result ≡ label_of ns labels c.args.node = c.label_at-own.ensures ∙ ap (λ z. label_of ns z c.args.node) (c.as_slice.ensures.value ∙ c.in_ok-labels.ensures) in
    ap (map (λ label. eqb label c.label_at-own.result)) (c.as_slice-2.ensures.value ∙ c.in_ok-labels.ensures)
    ∙ ap (λ n. map (λ label. eqb label n) labels) own

pub returns-clause-marks : goal.returns-clause-marks
returns-clause-marks c = IfOk_then c.equal_to.result _ _ c.equal_to.ensures (λ marks e. e ∙ made (goal.at.returns-clause-marks c).After-equal_to)

pub returns-clause-long : goal.returns-clause-long
returns-clause-long c =
    IfOk_then c.equal_to.result _ _ c.equal_to.ensures
    (λ marks e. ap (λ z. length z) (e ∙ made (goal.at.returns-clause-long c).After-equal_to) ∙ marks_long c.args.level.now c.args.passes.now c.args.node c.keeps.ensures)
