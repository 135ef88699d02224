use Rattle.grid_told_outputs.proofs.Screen.{screen_is_read_back, screen_is_told}
use Rattle.grid_told_outputs.proofs.laws.screen_is_told.Goals as goal

pub returns-clause-read : goal.returns-clause-read
returns-clause-read c = screen_is_read_back

pub returns-clause-told : goal.returns-clause-told
returns-clause-told c = screen_is_told
