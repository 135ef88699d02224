use Rattle.std.proofs.Common.{sym, ap, ◌∙◌, ◌++◌, ◌∷◌, [], arith}
use Rattle.std.proofs.lemmas.List.{take_all}
use Rattle.grid_structure.specs.declared.NamedBranch.{NamedBranch}
use Rattle.grid_structure.specs.Sites.{branches}
use Rattle.grid_contingencies.specs.Pieces.{is_branch_of, branches_of}
use Rattle.grid_contingencies.proofs.ItemLoops.{passed_more, passed_left, branch_read, shape_read}
use Rattle.grid_contingencies.proofs.listing.list_branches.Goals as goal

pub loop-place-init : goal.loop-place-init
unfolding branches_of
loop-place-init c = c.empty-ids.ensures

pub loop-place-preserved-then-not-is_branch_of : goal.loop-place-preserved-then-not-is_branch_of
unfolding branches_of
loop-place-preserved-then-not-is_branch_of c =
    let bs = branches c.args.structure.now in
    let b = shape_read bs c.loop-place.place c.branch-structure.result.now c.branch-structure.ensures in
    passed_left (λ (b : NamedBranch). b.id) (λ (b : NamedBranch). is_branch_of c.args.kind b.shape) bs c.loop-place.place b.0 b.1 [] c.loop-place.ids
    (ap (is_branch_of c.args.kind) b.2 ∙ sym c.is_branch_of.ensures ∙ c.if-not-is_branch_of.true) c.loop-place.invariant

pub loop-place-preserved : goal.loop-place-preserved
unfolding branches_of
loop-place-preserved c =
    let bs = branches c.args.structure.now in
    let b = branch_read bs c.loop-place.place c.branch-structure.result.now c.branch_id.result.now c.branch-structure.ensures c.branch_id.ensures in
    passed_more (λ (b : NamedBranch). b.id) (λ (b : NamedBranch). is_branch_of c.args.kind b.shape) bs c.loop-place.place b.0 b.1 [] c.loop-place.ids _
    (ap (is_branch_of c.args.kind) b.2 ∙ sym c.is_branch_of.ensures ∙ c.if-not-is_branch_of.false) c.loop-place.invariant
    (c.in_ok-push.ensures.ok ∙ ap (λ z. c.loop-place.ids ++ z ∷ []) (c.in_ok-copy.ensures ∙ sym b.3))

pub returns : goal.returns
returns c =
    c.loop-place.invariant ∙ ap (branches_of c.args.kind) (take_all c.loop-place.place (branches c.args.structure.now) (omega (arith, c.loop-place-test.false, c.branch_count-place-end.ensures)))
