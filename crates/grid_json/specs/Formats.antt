-- The numbers of the formats of jobs.
use Rattle.std.specs.Prelude.{ℕ}
use Rattle.grid_json.specs.declared.format.Format.{Format}
use Rattle.grid_json.specs.declared.format.Format.TheVariants.{One, Two, Three, Four, Five}

abbrev pub number_of : Format → ℕ
number_of One = 1
number_of Two = 2
number_of Three = 3
number_of Four = 4
number_of Five = 5
