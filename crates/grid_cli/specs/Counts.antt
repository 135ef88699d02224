-- What a job has, counted.
use Rattle.std.specs.Prelude.{ℕ, List, ◌++◌, length, codes, decimal}
use Rattle.grid_structure.specs.Sites.{levels, switches}
use Rattle.grid_json.specs.declared.whole.Job.{Job}
use Rattle.grid_json.specs.Job.{command_total}
use Rattle.grid_cli.specs.declared.counts.Counts.{Counts}

unfoldable pub counts_of : Job → Counts
counts_of job = record {
  substations = length job.network.substations;
  levels = length (levels job.network);
  switches = length (switches job.network);
  commands = command_total job.scripts;
}

-- the line of the counts; the words stand for one as well
unfoldable pub counts_text : Counts → List ℕ
counts_text c =
    codes "ok: " ++ decimal c.substations ++ codes " substations, " ++ decimal c.levels ++ codes " levels, "
    ++ decimal c.switches ++ codes " switches, " ++ decimal c.commands ++ codes " commands\n"

unfoldable pub check_text : Job → List ℕ
check_text job = counts_text (counts_of job)
