-- A step as the code holds it.
use Rattle.grid_jsonl.specs.declared.step.Step as borrowed
use Rattle.grid_jsonl.specs.Steps.{Step, step_of}

abbrev pub step_in : borrowed.Step → Step
step_in s = step_of s.place s.number s.entry.now
