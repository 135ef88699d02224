use Rattle.std.proofs.Common.{◌≡◌, ◌≤◌, [], ◌++◌, drop, take}
use Rattle.grid_configured.specs.Checks.{bus_check, each_check}
use Rattle.grid_json.specs.Seen.{Knows}
use Rattle.grid_configured.proofs.contents.check_buses.Given as goal

-- the buses so far are known, and what is left to check
abbrev pub invariant-loop-i : goal.invariant-loop-i
invariant-loop-i l = record {
  known : Knows l.ids (l.initial.ids ++ take l.i l.buses);
  own : Knows l.own (take l.i l.buses);
  few : l.i ≤ 1024;
  left : each_check (bus_check l.initial.ids) (take l.i l.buses) l.i (drop l.i l.buses) ≡ each_check (bus_check l.initial.ids) [] 0 l.buses;
}
