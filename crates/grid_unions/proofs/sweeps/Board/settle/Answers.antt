use Rattle.std.proofs.Common.{ap, ◌∙◌, not, ℕ, List, map, filter, arith}
use Rattle.std.proofs.lemmas.List.Elements.{filter_agree}
use Rattle.grid_unions.specs.Summed.{Weighted}
use Rattle.grid_unions.specs.Sweep.{pair_at}
use Rattle.grid_unions.specs.Halves.{is_gone, is_marked, with_joined}
use Rattle.grid_unions.proofs.PlaceMarks.{marked_gone, cleared}
use Rattle.grid_unions.proofs.sweeps.Board.settle.Goals as goal

pub mark_gone-requires : goal.mark_gone-requires
mark_gone-requires c = λ k d lt j e less.
    let here = (c.requires.can.fitting k d lt).gone j e less in
    omega (arith, here, c.requires.long)

pub mark_gone-requires-2 : goal.mark_gone-requires-2
mark_gone-requires-2 c = λ k d lt j e less.
    let here = (c.requires.can.fitting k d lt).gone j e less in
    omega (arith, here, c.requires.long, c.mark_gone.ensures.long)

pub returns-clause-rest : goal.returns-clause-rest
returns-clause-rest c =
    let all = marked_gone c.args.changes.now c.args.self.now.marks c.mark_gone.new.marks c.requires.clear c.mark_gone.ensures.marked in
    (c.in_ok-rest.ensures).rest
    ∙ ap (λ marks. filter (is_marked marks) c.args.pending.now) c.slice.ensures
    ∙ filter_agree (is_marked c.mark_gone.new.marks) (is_gone c.args.changes.now) all c.args.pending.now

pub returns-clause-joined : goal.returns-clause-joined
returns-clause-joined c =
    let all = marked_gone c.args.changes.now c.args.self.now.marks c.mark_gone.new.marks c.requires.clear c.mark_gone.ensures.marked in
    let onto : List ℕ → Weighted = λ places. with_joined c.args.self.now.summed (map (pair_at c.args.common.now) places) in
    (c.in_ok-rest.ensures).joined
    ∙ ap (λ marks. onto (filter (λ x. not (is_marked marks x)) c.args.pending.now)) c.slice.ensures
    ∙ ap onto (filter_agree (λ x. not (is_marked c.mark_gone.new.marks x)) (λ x. not (is_gone c.args.changes.now x)) (λ x. ap not (all x)) c.args.pending.now)

pub returns-clause-clear : goal.returns-clause-clear
returns-clause-clear c =
    let all = marked_gone c.args.changes.now c.args.self.now.marks c.mark_gone.new.marks c.requires.clear c.mark_gone.ensures.marked in
    cleared c.args.changes.now c.mark_gone.new.marks c.mark_gone-2.new.marks all c.mark_gone-2.ensures.marked
