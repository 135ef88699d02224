use Rattle.std.proofs.Common.{◌≡◌, ap, ◌∙◌, ◌<◌, length, arith, rules}
use Rattle.std.proofs.lemmas.Option.{slice_get_within}
use Rattle.grid_states.specs.Rows.{row_at}
use Rattle.grid_structure.specs.Sites.{levels}
use Rattle.grid_busview.specs.Views.{bus_leasts, node_buses_of}
use Rattle.grid_islands.specs.Numbering.{standing, counts_before, with_count}
use Rattle.grid_islands.specs.Kept.{kept_of}
use Rattle.grid_islands.proofs.LevelComponents.{level_exists}
use Rattle.grid_islands.proofs.LevelNumbers.{counts_none, counts_more}
use Rattle.grid_islands.proofs.kept.KeptBuses.count.Goals as goal

pub loop-place-init : goal.loop-place-init
loop-place-init c = record {
  counted = c.in_ok-counts.ensures ∙ counts_none c.args.states.now.opened (levels c.args.structure.now);
  few = omega (arith, ap (λ z. z.count) c.in_ok-counts.ensures);
}

pub buses-requires : goal.buses-requires
buses-requires c =
    let net = c.args.structure.now in
    let opened = c.args.states.now.opened in
    let k = c.loop-place.place in
    let lt : k < length (levels net) = search rules in
    let level = level_exists net k lt in
    slice_get_within c.args.self.now.levels k (kept_of level.0 (row_at opened k)) (c.requires k level.0 lt level.1)

pub loop-place-preserved : goal.loop-place-preserved
unfolding standing kept_of node_buses_of
loop-place-preserved c =
    let net = c.args.structure.now in
    let all = levels net in
    let opened = c.args.states.now.opened in
    let k = c.loop-place.place in
    let lt : k < length (levels net) = search rules in
    let level = level_exists net k lt in
    let found : c.buses.result.now ≡ node_buses_of (standing opened (k, level.0)) = c.buses.ensures (kept_of level.0 (row_at opened k)) (c.requires k level.0 lt level.1) in
    let more : c.len.result ≡ length (bus_leasts (standing opened (k, level.0))) = c.len.ensures ∙ ap (λ z. length z.leasts) found in
    record {
      counted = c.in_ok-add.ensures.added ∙ ap (λ z. with_count z c.len.result) c.loop-place.invariant.counted ∙ ap (with_count (counts_before opened all k)) more ∙ counts_more opened all k level.0 level.1;
      few = c.in_ok-add.ensures.few;
    }

pub returns-clause-value : goal.returns-clause-value
returns-clause-value c =
    let all = levels c.args.structure.now in
    let end : c.loop-place.place ≡ length all = omega (arith, c.loop-place-test.false, c.loop-place.auto.place-end, c.level_count-place-end.ensures) in
    c.loop-place.invariant.counted ∙ ap (counts_before c.args.states.now.opened all) end
