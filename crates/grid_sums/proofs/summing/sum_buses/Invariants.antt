use Rattle.std.proofs.Common.{◌≡◌, ℕ, ◌<◌, length, get_or, take}
use Rattle.std.specs.Prelude.{zip}
use Rattle.grid_level.specs.Passing.{nodes}
use Rattle.grid_watts.specs.Watts.{level_watts}
use Rattle.grid_sums.specs.Feeding.{no_sums, sums_in}
use Rattle.grid_sums.proofs.summing.sum_buses.Given as goal

abbrev pub invariant-loop-placed : goal.invariant-loop-placed
invariant-loop-placed l = record {
  long : length l.sums.items ≡ l.count;
  each : (bus : ℕ) → bus < l.count → get_or l.sums.items bus no_sums ≡ sums_in (nodes l.level) l.places (take l.placed-index (zip l.level.placed (level_watts l.powers.listed l.level))) bus;
}
