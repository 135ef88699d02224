use Rattle.grid_report.proofs.ReportPlans.{part_more, flat_range}
use Rattle.grid_configured.specs.Texts.{worker_text}
use Rattle.grid_configured.specs.Outcomes.{told_of}
use Rattle.grid_configured.specs.Lines.{worker_objects}
use Rattle.grid_configured.proofs.PartObjects.{objects_more, objects_range}
use Rattle.grid_configured.proofs.plan.push_workers.Goals as goal

pub loop-worker-preserved : goal.loop-worker-preserved
loop-worker-preserved c =
    let told = told_of c.args.journal.now c.args.replies.now in
    record {
      text = part_more _ _ _ _ _ _ c.loop-worker.invariant.text c.in_ok-push_worker.ensures.text (flat_range (worker_text told) c.loop-worker.worker);
      lines = objects_more _ _ _ _ _ _ c.loop-worker.invariant.lines c.in_ok-push_worker.ensures.lines (objects_range (worker_objects told) c.loop-worker.worker);
    }
