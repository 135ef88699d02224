-- The warning of a job's refused commands.
use Rattle.std.proofs.Common.{◌≡◌, ap, ◌∙◌, ℕ, List, [], ◌++◌}
use Rattle.grid_core.specs.declared.journal.Entry.{Entry}
use Rattle.grid_core.specs.History.{History}
use Rattle.grid_core.specs.Journals.{journal_of}
use Rattle.grid_report.specs.Histories.{history_of}
use Rattle.grid_jsonl.specs.Steps.{warning_text}
use Rattle.grid_json.specs.declared.whole.Job.{Job}
use Rattle.grid_cli.specs.Orders.{order_of, replay_warning, warning_after}

-- put after the commands were made in its order
pub warned : (job : Job) (world : History) (journal : List Entry) (old new : List ℕ) → new ≡ old ++ warning_text journal → old ≡ [] → journal ≡ journal_of world.origin world.steps
    → world ≡ history_of job.network job.scripts (order_of job) → new ≡ replay_warning job
warned job world journal old new put silent told made = put ∙ ap (λ t. t ++ warning_text journal) silent ∙ ap warning_text told ∙ ap warning_after made
