use Rattle.std.proofs.Common.{ap}
use Rattle.std.proofs.lemmas.List.{take_all}
use Rattle.grid_ids.specs.Name.{has_id}
use Rattle.grid_json.specs.Seen.{Knows}
use Rattle.grid_outages.proofs.Again.{knows_more}
use Rattle.grid_screen.proofs.scene.set_of.Goals as goal
use Rattle.std.proofs.Common.{subst}

pub loop-id-init : goal.loop-id-init
loop-id-init c = λ q. ap (λ z. has_id z q) c.empty-set.ensures

pub loop-id-preserved : goal.loop-id-preserved
loop-id-preserved c = knows_more c.loop-id.set c.add.new.self c.args.ids.now c.loop-id.id-index c.id-item.result c.loop-id-test.true c.id-item.is c.loop-id.invariant c.in_ok-add.ensures.known

pub returns : goal.returns
returns c = subst (Knows c.loop-id.set) (take_all c.loop-id.id-index c.args.ids.now c.loop-id-test.false) c.loop-id.invariant
