use Rattle.grid_told_outputs.proofs.Hvdc.{hvdc_is_read_back, hvdc_is_told}
use Rattle.grid_told_outputs.proofs.laws.hvdc_is_told.Goals as goal

pub returns-clause-read : goal.returns-clause-read
returns-clause-read c = hvdc_is_read_back

pub returns-clause-told : goal.returns-clause-told
returns-clause-told c = hvdc_is_told
