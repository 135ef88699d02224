use Rattle.std.proofs.Common.{sym, ap, subst, ◌∙◌, arith, map}
use Rattle.serde_json.specs.View.{view}
use Rattle.grid_structure.specs.Sites.{branches}
use Rattle.grid_print.specs.Network.{named_branch_value}
use Rattle.grid_print.specs.Readable.{IsId, IsReadableShape, IsReadableBranch}
use Rattle.grid_print.proofs.Each.{within_more}
use Rattle.grid_print.proofs.SubstationPlaces.{between_more, mapped_more, branch_made}
use Rattle.grid_print.proofs.network.branches.Goals as goal

pub loop-place-preserved : goal.loop-place-preserved
loop-place-preserved c =
    let net = c.args.network.now in
    let here = c.loop-place.invariant in
    let b = branch_made net c.loop-place.place _ _ c.branch_id.ensures c.branch-network.ensures in
    let made = c.in_ok-branch.ensures in
    record {
      order = omega (arith, here.order);
      values = ap (map view) c.in_ok-push.ensures.items ∙ mapped_more named_branch_value _ _ c.in_ok-branch.field-0 b.0 here.values (made.value ∙ b.2)
          ∙ ap (map named_branch_value) (sym (between_more (branches net) c.args.from c.loop-place.place b.0 here.order b.1));
      readable = within_more IsReadableBranch (branches net) c.args.from c.loop-place.place b.0 b.1 here.readable
          (subst IsId (sym b.3) made.readable.0, subst IsReadableShape (sym b.4) made.readable.1);
    }
