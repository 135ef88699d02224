use Rattle.std.proofs.Common.{◌≡◌, ◌*◌, ◌≤◌, ◌∷◌, take, drop, replicate, decimal}
use Rattle.std.specs.List.{flat_map}
use Rattle.grid_report.proofs.text.put_few.Given as goal

-- there is room for the numbers that are left, and behind it stand the others
abbrev pub invariant-loop-at : goal.invariant-loop-at
invariant-loop-at l = record {
  room : 6 * l.at ≤ l.start;
  within : l.start ≤ 96;
  blank : take l.start l.bytes ≡ take l.start (replicate 96 l.separator);
  written : drop l.start l.bytes ≡ flat_map (λ n. l.separator ∷ decimal n) (drop l.at l.few);
}
