use Rattle.std.proofs.Common.{◌≡◌, ◌++◌, length, take}
use Rattle.std.specs.Prelude.{map}
use Rattle.std.specs.List.{enumerate_from}
use Rattle.grid_configured.specs.Partial.{item_at, item_breaker}
use Rattle.grid_configured.proofs.level_lists.items_of.Given as goal

-- the injections so far, and behind the switches their breakers
abbrev pub invariant-loop-own : goal.invariant-loop-own
invariant-loop-own l = record {
  made : l.made ≡ map item_at (enumerate_from (length l.level.buses) (take l.own l.item-items));
  breakers : l.switches ≡ l.initial.switches ++ map (item_breaker l.level) (enumerate_from (length l.level.buses) (take l.own l.item-items));
}
