use Rattle.std.proofs.Common.{◌≡◌, ◌+◌, sym, ap, ◌∙◌, subst, arith}
use Rattle.grid_ids.specs.Name.{has_id}
use Rattle.grid_kinds.specs.Records.{injection_fault}
use Rattle.grid_json.specs.Reading.{Fails}
use Rattle.grid_configured.specs.declared.reasons.Counts.{Counts}
use Rattle.grid_configured.specs.Checks.{item_check, item_reasons}
use Rattle.grid_configured.proofs.CheckLoops.{goes_on, ends, is_done}
use Rattle.grid_configured.proofs.LevelParts.{item_as, items_known}
use Rattle.grid_configured.proofs.contents.check_items.Goals as goal

pub returns-in-Err-clause-check : goal.returns-in-Err-clause-check
returns-in-Err-clause-check c =
    let ids = c.args.ids.now in
    let buses = c.args.buses.now in
    let counts = c.args.counts in
    let items = c.args.items.now in
    let t = c.index-items-i.result in
    let same = item_as ids c.loop-i.ids buses counts.nodes counts.edges counts.switches items c.loop-i.i t c.loop-i-test.true c.index-items-i.is c.loop-i.invariant.known in
    let at : item_reasons (has_id c.loop-i.ids t.id) (has_id buses t.bus) (injection_fault t.item) c.counts_after.result.nodes c.counts_after.result.edges c.counts_after.result.switches
    ≡ item_reasons (has_id c.loop-i.ids t.id) (has_id buses t.bus) (injection_fault t.item) (counts.nodes + c.loop-i.i) (counts.edges + c.loop-i.i) (counts.switches + c.loop-i.i) =
    ap (λ (k : Counts). item_reasons (has_id c.loop-i.ids t.id) (has_id buses t.bus) (injection_fault t.item) k.nodes k.edges k.switches) c.counts_after.ensures in
    ends (item_check ids buses counts.nodes counts.edges counts.switches) items c.loop-i.i t _ c.loop-i-test.true c.index-items-i.is c.loop-i.invariant.left c.in-Err.e c.under_position.result (subst (Fails c.in-Err.e) (at ∙ sym same) c.in-Err.ensures.check) c.under_position.ensures

pub loop-i-preserved : goal.loop-i-preserved
loop-i-preserved c =
    let ids = c.args.ids.now in
    let buses = c.args.buses.now in
    let counts = c.args.counts in
    let items = c.args.items.now in
    let t = c.index-items-i.result in
    let same = item_as ids c.loop-i.ids buses counts.nodes counts.edges counts.switches items c.loop-i.i t c.loop-i-test.true c.index-items-i.is c.loop-i.invariant.known in
    let at : item_reasons (has_id c.loop-i.ids t.id) (has_id buses t.bus) (injection_fault t.item) c.counts_after.result.nodes c.counts_after.result.edges c.counts_after.result.switches
    ≡ item_reasons (has_id c.loop-i.ids t.id) (has_id buses t.bus) (injection_fault t.item) (counts.nodes + c.loop-i.i) (counts.edges + c.loop-i.i) (counts.switches + c.loop-i.i) =
    ap (λ (k : Counts). item_reasons (has_id c.loop-i.ids t.id) (has_id buses t.bus) (injection_fault t.item) k.nodes k.edges k.switches) c.counts_after.ensures in
    let room = c.in-Ok.ensures.room in
    let nodes = ap (λ (k : Counts). k.nodes) c.counts_after.ensures in
    let edges = ap (λ (k : Counts). k.edges) c.counts_after.ensures in
    let total = ap (λ (k : Counts). k.switches) c.counts_after.ensures in
    record {
      known = items_known ids c.loop-i.ids buses counts.nodes counts.edges counts.switches items c.loop-i.i t c.loop-i-test.true c.index-items-i.is c.loop-i.invariant.known c.check_item.new.ids c.in-Ok.ensures.known;
      nodes = omega (arith, room.0, nodes);
      edges = omega (arith, room.1, edges);
      room = omega (arith, room.2, total);
      left = goes_on (item_check ids buses counts.nodes counts.edges counts.switches) items c.loop-i.i t _ c.loop-i-test.true c.index-items-i.is c.loop-i.invariant.left (same ∙ sym at ∙ c.in-Ok.ensures.check);
    }

pub returns-clause-check : goal.returns-clause-check
returns-clause-check c = is_done (item_check c.args.ids.now c.args.buses.now c.args.counts.nodes c.args.counts.edges c.args.counts.switches) c.args.items.now c.loop-i.i _ c.loop-i-test.false c.loop-i.invariant.left
