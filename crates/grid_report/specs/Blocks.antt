-- The text of each part of a report.
use Rattle.std.specs.Prelude.{ℕ, List, codes}
use Rattle.grid_report.specs.declared.plan.Block.{Block}
use Rattle.grid_report.specs.declared.plan.Block.TheVariants as blocks
use Rattle.grid_report.specs.Lines.{level_text}
use Rattle.grid_report.specs.Events.{event_line}
use Rattle.grid_report.specs.Outcomes.{order_line, worker_line, step_text, variant_line, listener_line}

abbrev pub block_text : Block → List ℕ
block_text (blocks.Order journal) = order_line journal.now
block_text (blocks.Worker worker) = worker_line worker
block_text (blocks.Step number entry) = step_text number entry.now
block_text (blocks.Variant name) = variant_line name.now
block_text (blocks.Level view) = level_text view.now
block_text (blocks.Listener number) = listener_line number
block_text (blocks.Heard event) = event_line event.now
block_text blocks.End = codes "end\n"
