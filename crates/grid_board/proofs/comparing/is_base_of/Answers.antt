use Rattle.std.proofs.Common.{◌<◌, length, sym, ap, ◌∙◌, subst}
use Rattle.std.specs.Prelude.{slice_get}
use Rattle.grid_structure.specs.Network.{Network}
use Rattle.grid_structure.specs.Sites.{levels}
use Rattle.grid_core.specs.Worlds.{worker_state}
use Rattle.grid_board.proofs.Seen.{row_there}
use Rattle.grid_board.proofs.comparing.is_base_of.Goals as goal

pub is_part-requires-clause-level : goal.is_part-requires-clause-level
is_part-requires-clause-level c = subst (λ (net : Network). c.args.place < length (levels net)) (sym c.structure.ensures) c.requires.level

pub is_part-requires-clause-row : goal.is_part-requires-clause-row
is_part-requires-clause-row c =
    row_there (worker_state c.args.world.now c.args.worker) c.structure.result.now c.states.result.now (record { structure_is = c.structure.ensures ∙ c.states.ensures.structure; rows_are = c.states.ensures.value }) c.states.ensures.fits c.args.place
    (subst (λ (net : Network). c.args.place < length (levels net)) (sym c.structure.ensures) c.requires.level)

pub is_part-requires-clause-known : goal.is_part-requires-clause-known
is_part-requires-clause-known c = λ t. ap (λ (net : Network). slice_get (levels net) c.args.place) c.structure.ensures ∙ c.requires.known t

pub returns : goal.returns
returns c = c.is_part.ensures (worker_state c.args.world.now c.args.worker) (record { structure_is = c.structure.ensures ∙ c.states.ensures.structure; rows_are = c.states.ensures.value })
