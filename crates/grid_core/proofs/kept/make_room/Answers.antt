use Rattle.std.proofs.Common.{sym, subst, List}
use Rattle.grid_core.specs.declared.kept.SlotKept.{SlotKept}
use Rattle.grid_core.specs.Kept.{AreBySlot}
use Rattle.grid_core.proofs.BySlot.{one_more_so}
use Rattle.grid_core.proofs.kept.make_room.Goals as goal

pub loop-alloc-preserved : goal.loop-alloc-preserved
loop-alloc-preserved c net variants k =
    one_more_so net variants c.loop-alloc.all.items c.push.new.self.items c.empty.result c.in_ok-push.ensures.items c.empty.ensures (c.loop-alloc.invariant net variants k)

pub returns-in_err-push-clause-kept : goal.returns-in_err-push-clause-kept
returns-in_err-push-clause-kept c net variants k =
    subst (λ (z : List SlotKept). AreBySlot net variants z) (sym c.in_err-push.ensures.items) (c.loop-alloc.invariant net variants k)
