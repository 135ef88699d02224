use Rattle.grid_paths.proofs.PathTies.{measure_tied}
use Rattle.grid_paths.proofs.equal_measure_is_equal_path.Goals as goal

pub returns : goal.returns
returns c costs p q h = measure_tied costs p q h
