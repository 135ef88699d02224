use Rattle.std.proofs.Common.{◌≡◌, ◌+◌, pos, to_z, w64, rules, arith}
use Rattle.grid_configured.specs.Partial.{bus_at}
use Rattle.grid_configured.proofs.ListParts.{made_more}
use Rattle.grid_configured.proofs.level_lists.busbars_of.Goals as goal

pub loop-place-preserved : goal.loop-place-preserved
loop-place-preserved c =
    let bus = c.index-buses-place.result in
    let number : to_z w64 c.loop-place.place ≡ pos c.loop-place.place = search rules in
    let more = made_more bus_at 0 c.args.buses.now c.loop-place.place bus c.loop-place-test.true c.index-buses-place.is in
    let zero_more : 0 + c.loop-place.place ≡ c.loop-place.place = omega arith in
    let copy : c.in_ok-copy.field-0 ≡ bus = c.in_ok-copy.ensures in
    let done = c.in_ok-push.ensures.ok in
    let invariant = c.loop-place.invariant in
    cc
