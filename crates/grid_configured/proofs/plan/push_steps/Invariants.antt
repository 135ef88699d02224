use Rattle.std.proofs.Common.{◌≡◌, ◌++◌, take, map, length}
use Rattle.std.specs.Prelude.{zip}
use Rattle.std.specs.List.{flat_map}
use Rattle.grid_report.specs.Outcomes.{numbered}
use Rattle.grid_configured.specs.Texts.{step_text, steps_by}
use Rattle.grid_configured.specs.Outcomes.{told_pair}
use Rattle.grid_configured.specs.Blocks.{block_objects, block_text}
use Rattle.grid_configured.proofs.PartObjects.{first_objects}
use Rattle.grid_configured.proofs.plan.push_steps.Given as goal

-- how many of the worker's steps there were, and what is planned of them
abbrev pub invariant-loop-entry : goal.invariant-loop-entry
invariant-loop-entry l = record {
  counted : l.number ≡ length (steps_by l.worker (map told_pair (take (length l.yielded) (zip l.journal l.replies))));
  placed : l.place ≡ length l.yielded;
  lined : flat_map block_objects l.blocks.items ≡ flat_map block_objects l.fn.blocks.items ++ first_objects l.worker (map told_pair (zip l.journal l.replies)) (length l.yielded);
  planned : flat_map block_text l.blocks.items ≡ flat_map block_text l.fn.blocks.items ++ numbered step_text 1 (steps_by l.worker (map told_pair (take (length l.yielded) (zip l.journal l.replies))));
}
