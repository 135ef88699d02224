use Rattle.std.proofs.Common.{◌≡◌, map, take}
use Rattle.grid_report.specs.Lines.{level_text}
use Rattle.grid_report.proofs.variants.level_texts.Given as goal

-- the texts so far
abbrev pub invariant-loop-view : goal.invariant-loop-view
invariant-loop-view l = l.texts.items ≡ map level_text (take l.view-index l.views)
