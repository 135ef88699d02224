use Rattle.std.proofs.Common.{◌≡◌, take}
use Rattle.std.specs.List.{count_by}
use Rattle.grid_configured.specs.Lines.{is_refused}
use Rattle.grid_configured.proofs.plan.count_refused.Given as goal

-- those so far
abbrev pub invariant-loop-reply : goal.invariant-loop-reply
invariant-loop-reply l = l.count ≡ count_by is_refused (take l.reply-index l.replies)
