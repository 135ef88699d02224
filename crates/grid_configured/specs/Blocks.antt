-- The text of each part of a report, and its lines.
use Rattle.std.specs.Prelude.{ℕ, List, [], ◌∷◌, codes}
use Rattle.serde_json.specs.Data.{Data}
use Rattle.grid_report.specs.Outcomes as outcomes
use Rattle.grid_report.specs.Outcomes.{worker_line, variant_line}
use Rattle.grid_configured.specs.declared.plan.Block.{Block}
use Rattle.grid_configured.specs.declared.plan.Block.TheVariants as blocks
use Rattle.grid_jsonl.specs.Outcomes.{order_object, variant_object, end_of, lines}
use Rattle.grid_configured.specs.Lines.{placed, command_object, level_object}
use Rattle.grid_configured.specs.Texts.{step_text, level_text}
use Rattle.grid_configured.specs.Outcomes.{told_entry}

abbrev pub block_text : Block → List ℕ
block_text (blocks.Order journal) = outcomes.order_line journal.now
block_text (blocks.Worker worker) = worker_line worker
block_text (blocks.Step step) = step_text step.number (told_entry step.entry.now step.reply.now)
block_text (blocks.Variant name) = variant_line name.now
block_text (blocks.Level name view) = level_text view.now
block_text (blocks.End counts) = codes "end\n"

-- the objects of its lines; a worker has none
abbrev pub block_objects : Block → List Data
block_objects (blocks.Order journal) = order_object journal.now ∷ []
block_objects (blocks.Worker worker) = []
block_objects (blocks.Step step) = command_object (placed step.place step.number (told_entry step.entry.now step.reply.now)) ∷ []
block_objects (blocks.Variant name) = variant_object name.now ∷ []
block_objects (blocks.Level name view) = level_object name.now view.now ∷ []
block_objects (blocks.End counts) = end_of counts ∷ []

abbrev pub block_lines : Block → List ℕ
block_lines block = lines (block_objects block)
