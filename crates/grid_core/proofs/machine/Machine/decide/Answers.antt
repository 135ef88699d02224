use Rattle.std.proofs.Common.{refl}
use Rattle.grid_core.proofs.VariantSteps.{stands_slot}
use Rattle.grid_core.proofs.VerdictSteps.{rows_fit, rows_listed, found_decides}
use Rattle.grid_core.proofs.BySlot.{lent_so, given_back_so}
use Rattle.grid_core.proofs.machine.Machine.decide.Goals as goal

pub states-states-requires : goal.states-states-requires
states-states-requires c = stands_slot c.args.self.now c.args.variant.now c.in-Some.slot c.in-Some.ensures

pub find_verdict-requires-clause-opened : goal.find_verdict-requires-clause-opened
find_verdict-requires-clause-opened c = (rows_fit c.args.self.now c.in-Some.slot c.args.variant.now c.in-Some.ensures c.states-states.result.now c.states-states.ensures c.requires.held).0

pub find_verdict-requires-clause-retained : goal.find_verdict-requires-clause-retained
find_verdict-requires-clause-retained c = (rows_fit c.args.self.now c.in-Some.slot c.args.variant.now c.in-Some.ensures c.states-states.result.now c.states-states.ensures c.requires.held).1

pub find_verdict-requires-clause-listed : goal.find_verdict-requires-clause-listed
find_verdict-requires-clause-listed c = rows_listed c.args.self.now c.in-Some.slot c.args.variant.now c.in-Some.ensures c.states-states.result.now c.states-states.ensures c.requires.held

pub returns-clause-decided : goal.returns-clause-decided
returns-clause-decided c = found_decides c.args.self.now c.in-Some.slot c.args.variant.now c.in-Some.ensures c.states-states.result.now c.states-states.ensures c.args.request.now c.in_ok-verdict.verdict c.in_ok-verdict.ensures.found

pub find_verdict-requires-clause-buses : goal.find_verdict-requires-clause-buses
find_verdict-requires-clause-buses c =
    lent_so c.args.self.now.structure c.args.self.now.slots c.in-Some.slot c.states-states.result.now c.states-states.ensures c.make_room.new.all.items c.index_mut-own.result.now
    (c.in_ok-make_room.ensures.kept c.args.self.now.structure c.args.self.now.slots (c.bound_benches.ensures c.args.self.now.structure c.args.self.now.slots c.requires.kept).slots) c.in_ok-make_room.ensures.room c.index_mut-own.ensures.value

pub find_verdict-requires-clause-copies : goal.find_verdict-requires-clause-copies
find_verdict-requires-clause-copies c = (c.bound_benches.ensures c.args.self.now.structure c.args.self.now.slots c.requires.kept).copies

pub returns-in_err-make_room-clause-kept : goal.returns-in_err-make_room-clause-kept
returns-in_err-make_room-clause-kept c = record {
  slots = c.in_err-make_room.ensures.kept c.args.self.now.structure c.args.self.now.slots (c.bound_benches.ensures c.args.self.now.structure c.args.self.now.slots c.requires.kept).slots;
  copies = (c.bound_benches.ensures c.args.self.now.structure c.args.self.now.slots c.requires.kept).copies;
}

pub returns-in_err-verdict-clause-kept : goal.returns-in_err-verdict-clause-kept
returns-in_err-verdict-clause-kept c = record {
  slots =
      given_back_so c.args.self.now.structure c.args.self.now.slots c.in-Some.slot c.states-states.result.now c.states-states.ensures c.make_room.new.all.items _ c.find_verdict.new.own refl
      c.in_err-verdict.ensures.buses (c.in_ok-make_room.ensures.kept c.args.self.now.structure c.args.self.now.slots (c.bound_benches.ensures c.args.self.now.structure c.args.self.now.slots c.requires.kept).slots);
  copies = c.in_err-verdict.ensures.copies;
}

pub returns-clause-kept : goal.returns-clause-kept
returns-clause-kept c = record {
  slots =
      given_back_so c.args.self.now.structure c.args.self.now.slots c.in-Some.slot c.states-states.result.now c.states-states.ensures c.make_room.new.all.items _ c.find_verdict.new.own refl
      c.in_ok-verdict.ensures.buses (c.in_ok-make_room.ensures.kept c.args.self.now.structure c.args.self.now.slots (c.bound_benches.ensures c.args.self.now.structure c.args.self.now.slots c.requires.kept).slots);
  copies = c.in_ok-verdict.ensures.copies;
}
