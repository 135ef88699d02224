use Rattle.grid_screen.proofs.ContingencyLists.{two_lists}
use Rattle.grid_screen.proofs.laws.two_lists.Goals as goal

pub returns : goal.returns
returns c = two_lists
