use Rattle.grid_screen.specs.Outages.{state_without}
use Rattle.grid_screen.proofs.screened.ScreenedCase.of.Goals as goal

pub invariant_of-result : goal.invariant_of-result
unfolding state_without
invariant_of-result c = (c.requires, c.in_ok-kept.ensures, c.in_ok-before.ensures)
