use Rattle.std.proofs.Common.{sym, ap, ◌∙◌, length}
use Rattle.grid_states.specs.Rows.{Rows}
use Rattle.grid_structure.specs.Network.{Network}
use Rattle.grid_structure.specs.Sites.{levels}
use Rattle.grid_core.specs.Replies.{state_of}
use Rattle.grid_core.proofs.Ranges.{rows_of_levels}
use Rattle.grid_core.proofs.world.World.case.Goals as goal

pub collected-requires : goal.collected-requires
collected-requires c =
    let state = state_of c.args.self.now.origin c.args.self.now.steps c.args.name.now in
    ap (λ (rows : Rows). length rows.opened) (c.in_ok-states.ensures ∙ c.states_in.ensures.value) ∙ rows_of_levels state.structure state.opened c.states_in.ensures.fits.opened
    ∙ ap (λ (n : Network). length (levels n)) (sym (c.in_ok-structure.ensures ∙ c.structure.ensures ∙ c.states_in.ensures.structure))
