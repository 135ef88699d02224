use Rattle.std.proofs.Common.{◌≡◌, IfOk, All, length, ap, ap₂, subst, ◌∙◌, arith}
use Rattle.std.proofs.lemmas.Result.{on_ok_weaker}
use Rattle.serde_json.specs.View.{view}
use Rattle.grid_structure.specs.Sites.{branches}
use Rattle.grid_print.specs.Objects.{array_of}
use Rattle.grid_print.specs.Network.{named_branch_value, network_of, network_value}
use Rattle.grid_print.specs.Cutting.{between}
use Rattle.grid_print.specs.Readable.{IsId, IsReadableBranch}
use Rattle.grid_print.proofs.Each.{within_both}
use Rattle.grid_print.proofs.ReadableNetworks.{network_readable}
use Rattle.grid_print.proofs.SubstationPlaces.{transformers_within, lines_are}
use Rattle.grid_print.proofs.network.StructureToJson.to_json.Goals as goal

pub branches-requires-clause-order : goal.branches-requires-clause-order
branches-requires-clause-order c =
    omega (arith, c.in_ok-substations.ensures.lines, c.branch_count.ensures, transformers_within c.args.self.now (length c.args.self.now.substations))

pub returns-clause-value : goal.returns-clause-value
unfolding network_value
returns-clause-value c =
    let net = c.args.self.now in
    let lines : view c.in_ok-lines.lines ≡ array_of named_branch_value net.lines =
    c.in_ok-lines.ensures.value ∙ ap₂ (λ a b. array_of named_branch_value (between a b (branches net))) c.in_ok-substations.ensures.lines c.branch_count.ensures
    ∙ ap (array_of named_branch_value) (lines_are net) in
    subst (λ d. IfOk c.whole.result (λ v. view v ≡ d))
    (ap (λ i. network_of i (view c.in_ok-substations.substations) (view c.in_ok-lines.lines)) c.id.ensures ∙ ap₂ (network_of net.id) c.in_ok-substations.ensures.values lines)
    c.whole.ensures.value

pub returns-clause-readable : goal.returns-clause-readable
returns-clause-readable c =
    let net = c.args.self.now in
    let made = c.in_ok-substations.ensures in
    let shapes : All IsReadableBranch (branches net) =
    λ k d high. within_both IsReadableBranch (branches net) 0 c.in_ok-substations.first_line c.branch_count.result made.transformers c.in_ok-lines.ensures.readable k d (omega arith) (omega (arith, high, c.branch_count.ensures)) in
    on_ok_weaker c.whole.result (λ id. network_readable net c.keeps.ensures (subst IsId c.id.ensures id) made.ids made.levels shapes) c.whole.ensures.readable
