use Rattle.std.proofs.Common.{◌≡◌, sym, ap, ◌∙◌, ◌<◌, length, subst, Some}
use Rattle.std.specs.Prelude.{IsTrue, slice_get}
use Rattle.grid_structure.specs.Sites.{levels}
use Rattle.grid_core.specs.History.{History, structure}
use Rattle.grid_core.specs.Worlds.{worker_live, worker_state}
use Rattle.grid_board.specs.Questions.{base_of}
use Rattle.grid_board.proofs.BaseLevels.{base_fits}
use Rattle.grid_board.proofs.Seen.{row_there}
use Rattle.grid_board.proofs.bases.base_of.Goals as goal

pub states-requires-clause-live : goal.states-requires-clause-live
states-requires-clause-live c = subst (λ (h : History). IsTrue (worker_live h c.args.worker)) (sym c.in_ok-level.ensures.same) c.requires.live

pub part_at-requires : goal.part_at-requires
part_at-requires c =
    let h = c.share_level.new.self in
    row_there (worker_state h c.args.worker) (structure h.origin h.steps) c.states.result.now (record { structure_is = c.states.ensures.structure; rows_are = c.states.ensures.value }) c.states.ensures.fits c.args.place
    (subst (λ (z : History). c.args.place < length (levels (structure z.origin z.steps))) (sym c.in_ok-level.ensures.same) c.requires.level)

pub new-requires : goal.new-requires
new-requires c =
    let h = c.share_level.new.self in
    base_fits (worker_state h c.args.worker) c.args.place c.in_ok-part.part c.states.ensures.fits
    (c.in_ok-part.ensures (worker_state h c.args.worker) (structure h.origin h.steps) (record { structure_is = c.states.ensures.structure; rows_are = c.states.ensures.value })
    (subst (λ (z : History). slice_get (levels (structure z.origin z.steps)) c.args.place ≡ Some c.in_ok-level.level) (sym c.in_ok-level.ensures.same) c.in_ok-level.ensures.level))

pub returns-clause-base : goal.returns-clause-base
returns-clause-base c =
    let h = c.share_level.new.self in
    subst (λ (z : History). base_of (worker_state z c.args.worker) c.args.place ≡ Some c.new.result) c.in_ok-level.ensures.same
    (c.in_ok-part.ensures (worker_state h c.args.worker) (structure h.origin h.steps) (record { structure_is = c.states.ensures.structure; rows_are = c.states.ensures.value })
    (subst (λ (z : History). slice_get (levels (structure z.origin z.steps)) c.args.place ≡ Some c.in_ok-level.level) (sym c.in_ok-level.ensures.same) c.in_ok-level.ensures.level)
    ∙ ap (λ b. Some b) (sym c.new.ensures))
