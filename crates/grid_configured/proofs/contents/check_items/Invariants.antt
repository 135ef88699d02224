use Rattle.std.proofs.Common.{◌≡◌, ◌+◌, ◌≤◌, [], ◌++◌, drop, take}
use Rattle.grid_configured.specs.Checks.{each_check, item_check, item_ids}
use Rattle.grid_json.specs.Seen.{Knows}
use Rattle.grid_configured.proofs.contents.check_items.Given as goal

-- the injections so far are known, and what is left to check
abbrev pub invariant-loop-i : goal.invariant-loop-i
invariant-loop-i l = record {
  known : Knows l.ids (l.initial.ids ++ item_ids (take l.i l.items));
  nodes : (l.counts.nodes + l.i) ≤ 1024;
  edges : (l.counts.edges + l.i) ≤ 4096;
  room : (l.counts.switches + l.i) ≤ 200000;
  left : each_check (item_check l.initial.ids l.buses l.counts.nodes l.counts.edges l.counts.switches) (take l.i l.items) l.i (drop l.i l.items) ≡ each_check (item_check l.initial.ids l.buses l.counts.nodes l.counts.edges l.counts.switches) [] 0 l.items;
}
