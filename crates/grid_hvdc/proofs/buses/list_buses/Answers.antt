use Rattle.std.proofs.Common.{◌≡◌, sym, ap, ◌∙◌, subst, ◌++◌, length, map, arith}
use Rattle.std.specs.Prelude.{flat_map}
use Rattle.std.specs.List.{enumerate_from}
use Rattle.std.proofs.lemmas.List.{take_all}
use Rattle.std.proofs.lemmas.List.FromFn.{length-enumerate_from}
use Rattle.grid_level.specs.Passing.{positioned}
use Rattle.grid_structure.specs.Sites.{levels}
use Rattle.grid_busview.specs.Views.{node_buses_of, bus_leasts}
use Rattle.grid_islands.specs.Numbering.{standing, with_buses, PlacesFit}
use Rattle.grid_islands.proofs.LevelNumbers.{numbered_before, numbered_none, numbered_more, numbered_all, places_fit, level_at, level_within}
use Rattle.grid_hvdc.specs.Names.{name_at, level_names, bus_names}
use Rattle.grid_hvdc.proofs.BusNames.{gathered_next}
use Rattle.grid_hvdc.proofs.buses.list_buses.Goals as goal

pub loop-place-init : goal.loop-place-init
loop-place-init c = record {
  numbers = c.empty-numbered.ensures ∙ numbered_none c.args.states.now.opened (levels c.args.structure.now);
  names = c.empty-names.ensures;
}

pub add-requires : goal.add-requires
add-requires c = subst PlacesFit (sym c.in_ok-buses.ensures) (places_fit (positioned c.level.result.now c.opened_row.result.now))

pub loop-place-preserved : goal.loop-place-preserved
unfolding standing level_names node_buses_of
loop-place-preserved c =
    let all = levels c.args.structure.now in
    let opened = c.args.states.now.opened in
    let k = c.loop-place.place in
    let level = c.level.result.now in
    let found : c.in_ok-buses.buses ≡ node_buses_of (standing opened (k, level)) = c.in_ok-buses.ensures ∙ ap (λ z. node_buses_of (positioned level z)) c.opened_row.ensures in
    let leasts : c.slice.result.now ≡ bus_leasts (standing opened (k, level)) = c.slice.ensures ∙ ap (λ z. z.leasts) found in
    record {
      numbers = c.in_ok-add.ensures.added ∙ ap (λ z. with_buses z c.in_ok-buses.buses) c.loop-place.invariant.numbers
          ∙ ap (with_buses (numbered_before opened all k)) found ∙ numbered_more opened all k level c.level.ensures;
      names = c.in_ok-push_names.ensures ∙ ap (λ z. c.loop-place.names ++ map (name_at k) z) leasts
          ∙ gathered_next (level_names opened) (enumerate_from 0 all) k (k, level) c.loop-place.names (level_within all k level c.level.ensures) (sym (level_at all k level (k, level) c.level.ensures)) c.loop-place.invariant.names;
    }

pub returns : goal.returns
unfolding bus_names
returns c =
    let all = levels c.args.structure.now in
    let opened = c.args.states.now.opened in
    let end : c.loop-place.place ≡ length all = omega (arith, c.loop-place-test.false, c.loop-place.auto.place-end, c.level_count-place-end.ensures) in
    record {
      numbered = c.loop-place.invariant.numbers ∙ ap (numbered_before opened all) end ∙ numbered_all c.args.structure.now opened;
      names = c.loop-place.invariant.names ∙ ap (flat_map (level_names opened)) (take_all c.loop-place.place (enumerate_from 0 all) (omega (arith, end, length-enumerate_from 0 all)));
    }
