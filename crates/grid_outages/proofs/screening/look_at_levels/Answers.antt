use Rattle.std.proofs.Common.{◌≡◌, sym, ap, ap₂, ◌∙◌, [], ◌∷◌, ◌++◌, map, length, arith}
use Rattle.std.specs.List.{enumerate_from}
use Rattle.std.proofs.lemmas.List.{take_all}
use Rattle.std.proofs.lemmas.List.FromFn.{length-enumerate_from}
use Rattle.grid_groups.proofs.Steps.{map_next}
use Rattle.grid_level.specs.Passing.{positioned}
use Rattle.grid_structure.specs.Sites.{levels}
use Rattle.grid_busview.specs.Views.{node_buses_of}
use Rattle.grid_states.specs.Rows.{row_at}
use Rattle.grid_islands.proofs.LevelNumbers.{level_within, level_at}
use Rattle.grid_sums.specs.Sums.{sums_of}
use Rattle.grid_outages.specs.Changes.{level_places, level_sums}
use Rattle.grid_outages.proofs.screening.look_at_levels.Goals as goal

pub loop-place-init : goal.loop-place-init
loop-place-init c = record { places = c.empty-places.ensures; sums = c.empty-sums.ensures }

pub loop-place-preserved : goal.loop-place-preserved
loop-place-preserved c =
    let all = levels c.args.structure.now in
    let listed = c.args.powers.now.listed in
    let rows = c.args.states.now.opened in
    let k = c.loop-place.place in
    let level = c.level.result.now in
    let at = sym (level_at all k level (k, level) c.level.ensures) in
    let inside = level_within all k level c.level.ensures in
    record {
      places = c.in_ok-push.ensures.ok
          ∙ ap₂ (λ zs z. zs ++ z ∷ []) c.loop-place.invariant.places (c.in_ok-seen.ensures.places ∙ ap (λ z. (node_buses_of (positioned level z)).places) c.opened_row.ensures)
          ∙ map_next (λ at. (node_buses_of (positioned at.1 (row_at rows at.0))).places) (enumerate_from 0 all) k (k, level) inside at;
      sums = c.in_ok-push-2.ensures.ok ∙ ap₂ (λ zs z. zs ++ z ∷ []) c.loop-place.invariant.sums (c.in_ok-seen.ensures.sums ∙ ap (sums_of listed level) c.opened_row.ensures)
          ∙ map_next (λ at. sums_of listed at.1 (row_at rows at.0)) (enumerate_from 0 all) k (k, level) inside at;
    }

pub returns-clause-places : goal.returns-clause-places
unfolding level_places
returns-clause-places c =
    let all = levels c.args.structure.now in
    let end : c.loop-place.place ≡ length all = omega (arith, c.loop-place-test.false, c.loop-place.auto.place-end, c.level_count-place-end.ensures) in
    c.loop-place.invariant.places ∙ ap (map (λ at. (node_buses_of (positioned at.1 (row_at c.args.states.now.opened at.0))).places)) (take_all c.loop-place.place (enumerate_from 0 all) (omega (arith, end, length-enumerate_from 0 all)))

pub returns-clause-sums : goal.returns-clause-sums
unfolding level_sums
returns-clause-sums c =
    let all = levels c.args.structure.now in
    let end : c.loop-place.place ≡ length all = omega (arith, c.loop-place-test.false, c.loop-place.auto.place-end, c.level_count-place-end.ensures) in
    c.loop-place.invariant.sums ∙ ap (map (λ at. sums_of c.args.powers.now.listed at.1 (row_at c.args.states.now.opened at.0))) (take_all c.loop-place.place (enumerate_from 0 all) (omega (arith, end, length-enumerate_from 0 all)))
