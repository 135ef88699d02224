use Rattle.grid_told.proofs.HistoryReplies.{histories_fit}
use Rattle.grid_told.proofs.laws.histories_fit.Goals as goal

pub returns : goal.returns
returns c = histories_fit
