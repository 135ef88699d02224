use Rattle.grid_told_forms.proofs.Rows.{buses_are_rows, numbers_are_read_back, numbers_are_told}
use Rattle.grid_told_forms.proofs.laws.numbers_are_told.Goals as goal

pub returns-clause-rows : goal.returns-clause-rows
returns-clause-rows c = buses_are_rows

pub returns-clause-read : goal.returns-clause-read
returns-clause-read c = numbers_are_read_back

pub returns-clause-told : goal.returns-clause-told
returns-clause-told c = numbers_are_told
