-- The report of scripts that are run in some order on a network with configured buses. It is told of the network's history
-- alone.
use Rattle.std.specs.Prelude.{◌≡◌, ℕ, List, [], ◌∷◌, ◌++◌, length, map, slice_get, codes, decimal}
use Rattle.std.specs.List.{flat_map, filter_map, range_with_len}
use Rattle.grid_requests.specs.declared.request.Request.{Request}
use Rattle.grid_core.specs.History.{Command, live, working}
use Rattle.grid_report.specs.Histories.{steps_of, told_order, script_of, IsOrder}
use Rattle.grid_configured.specs.declared.network.ConfiguredNetwork.{ConfiguredNetwork}
use Rattle.grid_configured.specs.declared.reply.ConfiguredReply.{ConfiguredReply}
use Rattle.grid_configured.specs.declared.outcome.ConfiguredVariant.{ConfiguredVariant}
use Rattle.grid_configured.specs.Histories.{ConfiguredHistory, reply, view}
use Rattle.grid_configured.specs.Texts.{Told, Report, order_line, steps_by, report_of}

-- ---- steps

-- of a step after those before it
unfoldable pub told_step : ConfiguredNetwork → List Command → Command → Told
told_step network before step = record {
  worker = step.worker;
  variant = working before step.worker;
  request = step.request;
  reply = reply network before step;
}

-- in the order of the steps, the oldest first
unfoldable pub told_steps : ConfiguredNetwork → List Command → List Told
told_steps network [] = []
told_steps network (step ∷ before) = told_steps network before ++ told_step network before step ∷ []

-- the replies alone, the oldest first
unfoldable pub replies_of : ConfiguredNetwork → List Command → List ConfiguredReply
replies_of network [] = []
replies_of network (step ∷ before) = replies_of network before ++ reply network before step ∷ []

-- ---- variants

-- the view of each level, by place
unfoldable pub variant_view : ConfiguredNetwork → List Command → List ℕ → ConfiguredVariant
variant_view network steps name = record {
  name = name;
  views = filter_map (view network steps name) (range_with_len 0 (length network.levels));
}

-- of the live variants, by byte order of names
unfoldable pub variant_views : ConfiguredNetwork → List Command → List ConfiguredVariant
variant_views network steps = map (variant_view network steps) (live steps)

-- ---- the report

unfoldable pub report_after : ConfiguredHistory → Report
report_after history = record {
  told = told_steps history.network history.steps;
  workers = history.workers;
  views = variant_views history.network history.steps;
}

-- scripts that are run in an order
unfoldable pub history_of : ConfiguredNetwork → List (List Request) → List ℕ → ConfiguredHistory
history_of network scripts order = record { network = network; workers = length scripts; steps = steps_of scripts order }

unfoldable pub configured_text : ConfiguredNetwork → List (List Request) → List ℕ → List ℕ
configured_text network scripts order = report_of (report_after (history_of network scripts order))

-- ---- what it shows

-- the first line of the report of a history tells the order of its steps
abbrev pub ReportShowsOrder : Type 0
ReportShowsOrder = (network : ConfiguredNetwork) (steps : List Command) → order_line (told_steps network steps) ≡ codes "order" ++ flat_map (λ worker. codes " " ++ decimal worker) (told_order steps) ++ codes "\n"

-- the report of scripts in an order of theirs has for each worker its script, in order
abbrev pub ReportShowsScripts : Type 0
ReportShowsScripts = (network : ConfiguredNetwork) (scripts : List (List Request)) (order : List ℕ) → IsOrder scripts order → (worker : ℕ) → map (λ t. t.request) (steps_by worker (told_steps network (steps_of scripts order))) ≡ script_of (slice_get scripts worker)
