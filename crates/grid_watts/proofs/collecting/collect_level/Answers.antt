use Rattle.std.proofs.Common.{refl, sym, ap, ◌∙◌, pos}
use Rattle.std.specs.List.{slice_index_or}
use Rattle.std.proofs.lemmas.List.Sums.{fold_more}
use Rattle.grid_states.specs.Pairs.{pair}
use Rattle.grid_powers.specs.Listed.{Listed, PowerList}
use Rattle.grid_watts.specs.Nodes.{with_pair_of, with_pairs_of}
use Rattle.grid_watts.proofs.collecting.collect_level.Goals as goal

pub loop-pair-init : goal.loop-pair-init
unfolding with_pairs_of
loop-pair-init c = refl

pub loop-pair-preserved : goal.loop-pair-preserved
unfolding with_pairs_of
loop-pair-preserved c =
    let level = c.args.level.now in
    let row = c.args.row.now in
    let i = c.loop-pair.pair-index in
    let before = c.args.powers.now in
    let w = slice_index_or row i (pair 0 (pos 0)) in
    let put : PowerList → PowerList = λ z. record z { listed = with_pair_of level z.listed w } in
    let listing : Listed → PowerList = λ l. record before { listed = l } in
    c.in_ok-collect_pair.ensures ∙ ap put c.loop-pair.invariant ∙ ap listing (sym (fold_more (with_pair_of level) before.listed row i (pair 0 (pos 0)) c.loop-pair-test.true))
