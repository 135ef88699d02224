use Rattle.std.proofs.Common.{◌∷◌, [], ◌∙◌, sym, subst, arith}
use Rattle.std.specs.Prelude.{Result}
use Rattle.grid_structure.specs.declared.EditFault.{EditFault}
use Rattle.grid_structure.specs.Network.{Network}
use Rattle.grid_structure.specs.Editing.{IsTold}
use Rattle.grid_structure.proofs.EditLists.{lone}
use Rattle.grid_structure.proofs.ListLoops.{goes_on, ends, is_done}
use Rattle.grid_structure.proofs.lists.add_each.Goals as goal

pub loop-part-preserved : goal.loop-part-preserved
loop-part-preserved g c =
    let l = c.loop-part in
    let edit = g.T.Part.edit c.args.owner.now in
    goes_on (λ x. edit x ∷ []) l.structure c.add.new.structure l.part-iterator.rest.items _ c.in-Some.part _ c.in-Some.ensures.steps.0 (lone l.structure (edit c.in-Some.part) ∙ c.in_ok-add.ensures.done) l.invariant

pub returns-in_err-add : goal.returns-in_err-add
returns-in_err-add g c =
    let l = c.loop-part in
    let edit = g.T.Part.edit c.args.owner.now in
    let told = subst (λ (z : Result Network EditFault). IsTold z c.in_err-add.field-0.0) (sym (lone l.structure (edit c.in-Some.part))) c.in_err-add.ensures.refused in
    ends (λ x. edit x ∷ []) c.args.structure.now l.structure c.add.new.structure c.args.parts l.part-iterator.rest.items _ c.in-Some.part c.from_residual.result c.in_err-add.field-0.0 c.in-Some.ensures.steps.0 c.from_residual.ensures.1 told l.invariant

pub returns : goal.returns
returns g c =
    let l = c.loop-part in
    let none = c.in-None.ensures.steps.0 in
    is_done (λ x. g.T.Part.edit c.args.owner.now x ∷ []) l.structure l.part-iterator.rest.items _ (omega (arith, none, l.part-iterator.rest.ok)) l.invariant
