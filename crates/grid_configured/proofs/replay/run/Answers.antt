use Rattle.std.proofs.Common.{◌≡◌, ◌<◌, rules, subst, sym, ◌∙◌, length, get_or, arith, ◌+◌, Fits, w64}
use Rattle.grid_core.specs.History.{command}
use Rattle.grid_configured.specs.Histories.{ConfiguredHistory}
use Rattle.grid_configured.specs.Names.{IsConfiguredRequest}
use Rattle.grid_report.proofs.ScriptCursors.{at_start, behind, known, cursor_is, left, found, moved}
use Rattle.grid_configured.proofs.OrderSteps.{asked_as, grown, whole, answered, all_answered, none_answered}
use Rattle.grid_configured.proofs.replay.run.Goals as goal

pub loop-worker-init : goal.loop-worker-init
loop-worker-init c = record {
  within = omega arith;
  world = c.requires.start;
  replies = c.empty-replies.ensures ∙ none_answered c.args.world.now.network c.args.scripts.now c.args.order.now;
  cursors = at_start c.args.scripts.now c.args.order.now c.in_ok-cursors.cursors.items (c.in_ok-cursors.ensures.items_if_clones_equal (λ y e. e));
}

pub bounds-scripts-place : goal.bounds-scripts-place
bounds-scripts-place c = known c.args.scripts.now c.args.order.now c.loop-worker.worker-index c.loop-worker-test.true c.requires.order

pub index-requires : goal.index-requires
index-requires c =
    let below = known c.args.scripts.now c.args.order.now c.loop-worker.worker-index c.loop-worker-test.true c.requires.order in
    omega (arith, below, c.loop-worker.invariant.cursors.many, c.loop-worker.cursors.ok.0)

pub index-request-requires : goal.index-request-requires
index-request-requires c =
    let at = cursor_is c.args.scripts.now c.args.order.now c.loop-worker.worker-index c.loop-worker-test.true c.loop-worker.cursors.items c.index.result.now c.requires.order c.loop-worker.invariant.cursors c.index.ensures in
    left c.args.scripts.now c.args.order.now c.loop-worker.worker-index c.loop-worker-test.true c.index-scripts-place.result c.index.result.now c.requires.order c.index-scripts-place.is at

pub step-requires-clause-worker : goal.step-requires-clause-worker
step-requires-clause-worker c =
    let below = known c.args.scripts.now c.args.order.now c.loop-worker.worker-index c.loop-worker-test.true c.requires.order in
    subst (λ (w : ConfiguredHistory). get_or c.args.order.now c.loop-worker.worker-index 0 < w.workers) (sym c.loop-worker.invariant.world) below

pub step-requires-clause-plain : goal.step-requires-clause-plain
step-requires-clause-plain c =
    let scripts = c.args.scripts.now in
    let order = c.args.order.now in
    let k = c.loop-worker.worker-index in
    let lt = c.loop-worker-test.true in
    let at = cursor_is scripts order k lt c.loop-worker.cursors.items c.index.result.now c.requires.order c.loop-worker.invariant.cursors c.index.ensures in
    let within = left scripts order k lt c.index-scripts-place.result c.index.result.now c.requires.order c.index-scripts-place.is at in
    asked_as IsConfiguredRequest scripts (get_or order k 0) c.index-scripts-place.result c.index.result.now c.index-request.result.now c.requires.plain (known scripts order k lt c.requires.order) c.index-scripts-place.is within c.index-request.ensures

pub index_mut-requires : goal.index_mut-requires
index_mut-requires c =
    let below = known c.args.scripts.now c.args.order.now c.loop-worker.worker-index c.loop-worker-test.true c.requires.order in
    omega (arith, below, c.loop-worker.invariant.cursors.many, c.loop-worker.cursors.ok.0)

pub overflow_add-index_mut : goal.overflow_add-index_mut
overflow_add-index_mut c =
    let at = cursor_is c.args.scripts.now c.args.order.now c.loop-worker.worker-index c.loop-worker-test.true c.loop-worker.cursors.items c.index_mut.result.now c.requires.order c.loop-worker.invariant.cursors c.index_mut.ensures.value in
    let fits : Fits w64 (c.loop-worker.worker-index + 1) = search rules in
    omega (arith, at, behind c.args.order.now c.loop-worker.worker-index (get_or c.args.order.now c.loop-worker.worker-index 0), fits)

pub loop-worker-preserved : goal.loop-worker-preserved
loop-worker-preserved c =
    let network = c.args.world.now.network in
    let scripts = c.args.scripts.now in
    let order = c.args.order.now in
    let k = c.loop-worker.worker-index in
    let lt = c.loop-worker-test.true in
    let worker = get_or c.args.order.now c.loop-worker.worker-index 0 in
    let inv = c.loop-worker.invariant in
    let at = cursor_is scripts order k lt c.loop-worker.cursors.items c.index.result.now c.requires.order inv.cursors c.index.ensures in
    let at_mut = cursor_is scripts order k lt c.loop-worker.cursors.items c.index_mut.result.now c.requires.order inv.cursors c.index_mut.ensures.value in
    let step = found scripts order k lt c.index-scripts-place.result c.index.result.now c.index-request.result.now c.requires.order c.index-scripts-place.is at c.index-request.ensures in
    record {
      within = omega (arith, lt);
      world = grown network scripts order k (command worker c.index-request.result.now) c.loop-worker.world c.step.new.self step inv.world c.in_ok-reply.ensures.ok;
      replies =
          answered network scripts order k (command worker c.index-request.result.now) c.loop-worker.world c.in_ok-reply.reply c.loop-worker.replies c.push.new.self step inv.world c.in_ok-reply.ensures.reply inv.replies
          c.in_ok-push.ensures.ok;
      cursors = moved scripts order k lt c.loop-worker.cursors.items c.index_mut.result.now c.requires.order inv.cursors at_mut;
    }

pub returns-clause-world : goal.returns-clause-world
returns-clause-world c =
    let all : c.loop-worker.worker-index ≡ length c.args.order.now = omega (arith, c.loop-worker.invariant.within, c.loop-worker-test.false) in
    whole c.args.world.now.network c.args.scripts.now c.args.order.now c.loop-worker.worker-index c.loop-worker.world all c.loop-worker.invariant.world

pub returns-clause-replies : goal.returns-clause-replies
returns-clause-replies c =
    let all : c.loop-worker.worker-index ≡ length c.args.order.now = omega (arith, c.loop-worker.invariant.within, c.loop-worker-test.false) in
    all_answered c.args.world.now.network c.args.scripts.now c.args.order.now c.loop-worker.worker-index c.loop-worker.replies all c.loop-worker.invariant.replies
