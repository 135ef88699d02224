use Rattle.std.proofs.Common.{◌≡◌, ◌++◌, take}
use Rattle.std.specs.List.{flat_map}
use Rattle.grid_core.specs.History.{live}
use Rattle.grid_core.specs.Journals.{journal_of}
use Rattle.grid_jsonl.specs.Steps.{state_line}
use Rattle.grid_jsonl.specs.Outcomes.{lines}
use Rattle.grid_cli.specs.Hvdc.{named_objects, named_text, part_lines, part_text}
use Rattle.grid_cli.proofs.hvdc.parts_of.Given as goal

-- what is told of the steps, and the variants so far
abbrev pub invariant-loop-place : goal.invariant-loop-place
invariant-loop-place l = record {
  text : flat_map part_text l.parts.items ≡ flat_map (named_text l.world l.hvdc) (take l.place (live l.world.steps));
  lined : flat_map part_lines l.parts.items ≡ state_line (journal_of l.world.origin l.world.steps) ++ lines (flat_map (named_objects l.world l.hvdc) (take l.place (live l.world.steps)));
}
