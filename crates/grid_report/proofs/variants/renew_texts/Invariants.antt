use Rattle.std.proofs.Common.{◌≡◌, ◌++◌, map, take, drop}
use Rattle.grid_report.specs.Lines.{level_text}
use Rattle.grid_report.proofs.variants.renew_texts.Given as goal

-- the texts of the views so far, and behind them those of the variant before
abbrev pub invariant-loop-place : goal.invariant-loop-place
invariant-loop-place l = l.texts ≡ map level_text (take l.place l.views ++ drop l.place l.earlier)
