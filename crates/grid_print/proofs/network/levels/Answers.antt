use Rattle.std.proofs.Common.{sym, ap, ◌∙◌, arith, map}
use Rattle.serde_json.specs.View.{view}
use Rattle.grid_structure.specs.Sites.{levels}
use Rattle.grid_print.specs.Network.{level_value}
use Rattle.grid_print.specs.Readable.{IsReadableLevel}
use Rattle.grid_print.proofs.Each.{within_more}
use Rattle.grid_print.proofs.SubstationPlaces.{between_more, mapped_more}
use Rattle.grid_print.proofs.network.levels.Goals as goal

pub loop-place-preserved : goal.loop-place-preserved
loop-place-preserved c =
    let net = c.args.network.now in
    let here = c.loop-place.invariant in
    record {
      order = omega (arith, here.order);
      values = ap (map view) c.in_ok-push.ensures.items ∙ mapped_more level_value _ _ c.in_ok-to_json.field-0 c.level.result.now here.values c.in_ok-to_json.ensures.value
          ∙ ap (map level_value) (sym (between_more (levels net) c.args.from c.loop-place.place c.level.result.now here.order c.level.ensures));
      readable = within_more IsReadableLevel (levels net) c.args.from c.loop-place.place c.level.result.now c.level.ensures here.readable c.in_ok-to_json.ensures.readable;
    }
