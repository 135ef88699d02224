use Rattle.std.proofs.Common.{arith}
use Rattle.std.proofs.lemmas.Bool.{leb-true, le-leb}
use Rattle.grid_level.proofs.CodePromises.{nodes_counted, room_is}
use Rattle.grid_level.proofs.Level.has_room.Goals as goal

pub overflow_cast-result : goal.overflow_cast-result
overflow_cast-result c = omega (arith, nodes_counted _ _ c.self.invariant, c.self.invariant.within.few_nodes)

pub overflow_add-result : goal.overflow_add-result
overflow_add-result c = omega (arith, nodes_counted _ _ c.self.invariant, c.self.invariant.within.few_nodes)

pub returns : goal.returns
returns c =
    let room = room_is _ _ c.args.node c.self.invariant in
    rw (← c.self.view_is, room, c.len.ensures, c.missing.ensures.value) ((λ h. leb-true _ _ h), (λ h. le-leb _ _ h))
