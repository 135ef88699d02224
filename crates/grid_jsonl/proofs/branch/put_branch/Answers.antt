use Rattle.std.proofs.Common.{◌∷◌, [], sym, subst, ℕ, List}
use Rattle.std.specs.Prelude.{codes}
use Rattle.serde_json.specs.Data.{Data, string}
use Rattle.serde_json.specs.Written.{compact_text}
use Rattle.grid_print.specs.Network.{end_value}
use Rattle.grid_print.specs.Objects.{array_of, whole}
use Rattle.grid_print.specs.Command.{add_branch_value}
use Rattle.grid_jsonl.proofs.Commands.{line_is, transformer_is}
use Rattle.grid_jsonl.proofs.Objects.{begun, ends, more, more_of}
use Rattle.grid_report.specs.Puts.{Puts}
use Rattle.grid_jsonl.proofs.branch.put_branch.Goals as goal

abbrev kind_fields : List ℕ → List ℕ → List (List ℕ × Data)
kind_fields id word = (codes "id", string id) ∷ (codes "kind", string word) ∷ []

pub returns-in_ok-put_kind-in-Line : goal.returns-in_ok-put_kind-in-Line
unfolding add_branch_value
returns-in_ok-put_kind-in-Line c =
    let a = c.in-Line in
    rw a.is
    (subst (λ d. Puts c.args.out.now (compact_text d) c.put.new.self c.put.result)
    (sym (line_is c.args.id.now (array_of end_value (a.end1 ∷ a.end2 ∷ []))))
    (ends (more_of _ (kind_fields c.args.id.now (codes "LINE")) (more _ _ (begun _ _ _ c.in_ok-open_with-in-Line.ensures.ok) c.in_ok-put_pair-in-Line.ensures.ok) c.in_ok-put_kind-in-Line.ensures.ok) c.put.ensures))

pub returns-in_ok-put_id-in-TwoWindings : goal.returns-in_ok-put_id-in-TwoWindings
unfolding add_branch_value
returns-in_ok-put_id-in-TwoWindings c =
    let a = c.in-TwoWindings in
    rw a.is
    (subst (λ d. Puts c.args.out.now (compact_text d) c.put-in-TwoWindings.new.self c.put-in-TwoWindings.result)
    (sym (transformer_is (codes "TWO_WINDINGS") c.args.id.now a.substation (array_of end_value (a.end1 ∷ a.end2 ∷ [])) (array_of whole (a.rated_u1 ∷ a.rated_u2 ∷ []))))
    (ends (more _ _ (more _ _ (more_of _ (kind_fields c.args.id.now (codes "TWO_WINDINGS")) (more _ _ (begun _ _ _ c.in_ok-open_with-in-TwoWindings.ensures.ok) c.in_ok-put_pair-in-TwoWindings.ensures.ok) c.in_ok-put_kind-in-TwoWindings.ensures.ok) c.in_ok-put_pair-in-TwoWindings-2.ensures.ok) c.in_ok-put_id-in-TwoWindings.ensures.ok) c.put-in-TwoWindings.ensures))

pub returns-in_ok-put_id-in-ThreeWindings : goal.returns-in_ok-put_id-in-ThreeWindings
unfolding add_branch_value
returns-in_ok-put_id-in-ThreeWindings c =
    let a = c.in-ThreeWindings in
    rw a.is
    (subst (λ d. Puts c.args.out.now (compact_text d) c.put-in-ThreeWindings.new.self c.put-in-ThreeWindings.result)
    (sym (transformer_is (codes "THREE_WINDINGS") c.args.id.now a.substation (array_of end_value (a.end1 ∷ a.end2 ∷ a.end3 ∷ [])) (array_of whole (a.rated_u1 ∷ a.rated_u2 ∷ a.rated_u3 ∷ []))))
    (ends (more _ _ (more _ _ (more_of _ (kind_fields c.args.id.now (codes "THREE_WINDINGS")) (more _ _ (begun _ _ _ c.in_ok-open_with-in-ThreeWindings.ensures.ok) c.in_ok-put_triple-in-ThreeWindings.ensures.ok) c.in_ok-put_kind-in-ThreeWindings.ensures.ok) c.in_ok-put_triple-in-ThreeWindings-2.ensures.ok) c.in_ok-put_id-in-ThreeWindings.ensures.ok) c.put-in-ThreeWindings.ensures))
