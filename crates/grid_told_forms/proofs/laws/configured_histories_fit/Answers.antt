use Rattle.grid_told_forms.proofs.HistoryReplies.{configured_histories_fit}
use Rattle.grid_told_forms.proofs.laws.configured_histories_fit.Goals as goal

pub returns : goal.returns
returns c = configured_histories_fit
