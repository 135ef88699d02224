use Rattle.std.proofs.Common.{◌≡◌, take}
use Rattle.grid_states.specs.Rows.{rows_in}
use Rattle.grid_states.proofs.states.States.from_pages.Given as goal

abbrev pub invariant-loop-page : goal.invariant-loop-page
invariant-loop-page l = l.states ≡ rows_in (take l.page-index l.pages)
