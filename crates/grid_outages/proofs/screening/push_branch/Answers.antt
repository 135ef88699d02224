use Rattle.std.proofs.Common.{sym, ap, ◌∙◌, ◌++◌, append_assoc}
use Rattle.grid_outages.specs.Changes.{link_between, spot_of}
use Rattle.grid_outages.proofs.BranchLinks.{two_links, three_links}
use Rattle.grid_outages.proofs.screening.push_branch.Goals as goal

pub returns-in_default : goal.returns-in_default
returns-in_default c =
    c.in_ok-push_link.ensures
    ∙ ap (λ z. c.args.links.now ++ z)
    (sym (two_links c.args.structure.now c.args.rows.now c.args.branch.now c.ends.result.end1.now c.ends.result.end2.now (c.ends.ensures.two c.in_default.is)))

pub returns-in_ok-push_link-3 : goal.returns-in_ok-push_link-3
returns-in_ok-push_link-3 c =
    let net = c.args.structure.now in
    let rows = c.args.rows.now in
    let old = c.args.links.now in
    let a = c.ends.result.end1.now in
    let b = c.ends.result.end2.now in
    let d = c.in-Some.end3.now in
    let first = link_between (spot_of net rows a) (spot_of net rows b) in
    let second = link_between (spot_of net rows a) (spot_of net rows d) in
    let third = link_between (spot_of net rows b) (spot_of net rows d) in
    c.in_ok-push_link-3.ensures ∙ ap (λ z. z ++ third) (c.in_ok-push_link-2.ensures ∙ ap (λ z. z ++ second) c.in_ok-push_link.ensures)
    ∙ append_assoc (old ++ first) second third ∙ append_assoc old first (second ++ third)
    ∙ ap (λ z. old ++ z) (sym (three_links net rows c.args.branch.now a b d (c.ends.ensures.three c.in-Some.end3 c.in-Some.is)))
