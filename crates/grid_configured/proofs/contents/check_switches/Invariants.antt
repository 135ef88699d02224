use Rattle.std.proofs.Common.{◌≡◌, ◌+◌, ◌≤◌, [], ◌++◌, drop, take}
use Rattle.grid_configured.specs.Checks.{each_check, switch_check, switch_ids}
use Rattle.grid_json.specs.Seen.{Knows}
use Rattle.grid_configured.proofs.contents.check_switches.Given as goal

-- the switches so far are known, and what is left to check
abbrev pub invariant-loop-i : goal.invariant-loop-i
invariant-loop-i l = record {
  known : Knows l.ids (l.initial.ids ++ switch_ids (take l.i l.switches));
  few : l.i ≤ 4096;
  room : (l.total + l.i) ≤ 200000;
  left : each_check (switch_check l.initial.ids l.buses l.total) (take l.i l.switches) l.i (drop l.i l.switches) ≡ each_check (switch_check l.initial.ids l.buses l.total) [] 0 l.switches;
}
