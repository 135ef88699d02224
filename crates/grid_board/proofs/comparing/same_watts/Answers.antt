use Rattle.std.proofs.Common.{◌≡◌, ◌<◌, ◌≤◌, ◌+◌, ◌++◌, ◌∷◌, [], ℕ, ℤ, pos, List, length, map, get_or, take, drop, refl, sym, ap, ◌∙◌, rules, Some, arith, of_z, w64}
use Rattle.std.specs.Prelude.{slice_get, option_map}
use Rattle.std.proofs.lemmas.List.{take_all, take_more}
use Rattle.std.proofs.lemmas.Option.{slice_get-map, slice_get_read, slice_get-get_or}
use Rattle.grid_level.specs.declared.Placed.{Placed}
use Rattle.grid_level.specs.VoltageLevel.{VoltageLevel}
use Rattle.grid_powers.specs.Listed.{Listed}
use Rattle.grid_watts.specs.Watts.{watts_at, level_watts}
use Rattle.grid_watts.proofs.RowWatts.{read_none, rises_ahead, row_ahead, values_more, read_all}
use Rattle.grid_board.proofs.ListEquality.{never, always, differ}
use Rattle.grid_board.proofs.comparing.same_watts.Goals as goal

-- the watts at a place
watts_there : (listed : Listed) (level : VoltageLevel) (ps : List Placed) (place : ℕ) (p : Placed) (found : ℤ) → ps ≡ level.placed → place < length ps → p ≡ get_or ps place p → found ≡ watts_at listed p
    → slice_get (level_watts listed level) place ≡ Some found
unfolding level_watts
watts_there listed level ps place p found same below is own =
    ap (λ (xs : List Placed). slice_get (map (watts_at listed) xs) place) (sym same) ∙ slice_get-map (watts_at listed) ps place
    ∙ ap (option_map (watts_at listed)) (slice_get_read ps (length ps) place p refl below is) ∙ ap (λ z. Some z) (sym own)

pub loop-place-init : goal.loop-place-init
loop-place-init c = λ listed is. read_none listed c.args.level.now c.placed-placed.result.now (take 0 c.args.watts.now) c.args.row.now c.placed-placed.ensures refl is

pub returns-then-found-watts : goal.returns-then-found-watts
returns-then-found-watts c = λ listed is.
    let ps = c.placed-placed.result.now in
    let ws = c.args.watts.now in
    let place = c.loop-place.place in
    let p = c.index-placed-place.result in
    let told = c.next_watts-found.ensures listed (drop (place + 1) ps) (rises_ahead c.args.level.now ps place p c.keeps.ensures.placed_rise c.placed-placed.ensures c.loop-place-test.true c.index-placed-place.is)
    (row_ahead listed ps place p (take place ws) c.loop-place.behind.now (c.loop-place.invariant listed is) c.loop-place-test.true c.index-placed-place.is) in
    let below : place < length ws = search rules in
    never (differ (level_watts listed c.args.level.now) ws place c.next_watts-found.result.0 (get_or ws place (pos 0))
    (watts_there listed c.args.level.now ps place p c.next_watts-found.result.0 c.placed-placed.ensures c.loop-place-test.true c.index-placed-place.is told.0)
    (slice_get-get_or ws place (pos 0) below) (λ e. c.if-found-watts.true (ap (λ (z : ℤ). of_z w64 z) e)))

pub loop-place-preserved : goal.loop-place-preserved
loop-place-preserved c = λ listed is.
    let ps = c.placed-placed.result.now in
    let ws = c.args.watts.now in
    let place = c.loop-place.place in
    let p = c.index-placed-place.result in
    let read = c.loop-place.invariant listed is in
    let told = c.next_watts-found.ensures listed (drop (place + 1) ps) (rises_ahead c.args.level.now ps place p c.keeps.ensures.placed_rise c.placed-placed.ensures c.loop-place-test.true c.index-placed-place.is)
    (row_ahead listed ps place p (take place ws) c.loop-place.behind.now read c.loop-place-test.true c.index-placed-place.is) in
    let below : place < length ws = search rules in
    let equal : c.next_watts-found.result.0 ≡ get_or ws place (pos 0) = search rules in
    record {
      values_are = take_more ws place (pos 0) below ∙ ap (λ w. take place ws ++ w ∷ []) (sym equal ∙ told.0)
          ∙ values_more listed ps place p (take place ws) c.loop-place.behind.now read c.loop-place-test.true c.index-placed-place.is;
      left_is = told.1;
    }

pub returns : goal.returns
returns c = λ listed is.
    let ps = c.placed-placed.result.now in
    let ws = c.args.watts.now in
    let place = c.loop-place.place in
    let past : length ps ≤ place = omega (arith, c.loop-place-test.false) in
    let beyond : length ws ≤ place = search rules in
    always (sym (read_all listed c.args.level.now ps place (take place ws) c.loop-place.behind.now c.placed-placed.ensures past (c.loop-place.invariant listed is)) ∙ take_all place ws beyond)
