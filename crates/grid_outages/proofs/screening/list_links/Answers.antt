use Rattle.std.proofs.Common.{◌∙◌, ap, arith}
use Rattle.std.specs.Prelude.{flat_map}
use Rattle.std.proofs.lemmas.List.{take_all}
use Rattle.grid_structure.specs.Sites.{branches}
use Rattle.grid_outages.specs.Changes.{branch_links, network_links}
use Rattle.grid_outages.proofs.BranchLinks.{branch_more}
use Rattle.grid_outages.proofs.screening.list_links.Goals as goal

pub loop-place-preserved : goal.loop-place-preserved
loop-place-preserved c =
    c.in_ok-push_branch.ensures
    ∙ branch_more c.args.structure.now c.args.rows.now (branches c.args.structure.now) c.loop-place.place c.loop-place.links c.branch-structure.result.now (omega (arith, c.loop-place-test.true, c.branch_count-place-end.ensures))
    c.loop-place.invariant c.branch-structure.ensures

pub returns : goal.returns
unfolding network_links
returns c =
    let bs = branches c.args.structure.now in
    c.loop-place.invariant ∙ ap (flat_map (λ b. branch_links c.args.structure.now c.args.rows.now b.shape)) (take_all c.loop-place.place bs (omega (arith, c.loop-place-test.false, c.branch_count-place-end.ensures)))
