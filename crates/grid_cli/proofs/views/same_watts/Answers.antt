use Rattle.std.proofs.Common.{◌≡◌, ◌≤◌, ◌+◌, ◌++◌, ◌∷◌, [], ℤ, List, length, map, take, drop, refl, sym, ap, ◌∙◌, rules, Some, arith, of_z, w64}
use Rattle.std.specs.Prelude.{slice_get, option_map}
use Rattle.std.proofs.lemmas.Bool.{eqb-true}
use Rattle.std.proofs.lemmas.List.{map_more}
use Rattle.std.proofs.lemmas.Option.{slice_get-map, slice_get_read}
use Rattle.grid_lemmas.proofs.Options.{some_is}
use Rattle.grid_level.specs.declared.Placed.{Placed}
use Rattle.grid_watts.specs.Watts.{watts_at, level_watts}
use Rattle.grid_watts.proofs.Merges.{ended}
use Rattle.grid_watts.proofs.RowWatts.{records_of_level, read_none, rises_ahead, row_ahead, values_more, read_all}
use Rattle.grid_board.proofs.ListEquality.{always, never}
use Rattle.grid_cli.proofs.views.same_watts.Goals as goal

pub returns-then-is_empty-2 : goal.returns-then-is_empty-2
returns-then-is_empty-2 c = λ listed other_listed is other_is.
    let empty = ended c.args.row.now (eqb-true _ _ (sym c.is_empty.ensures ∙ c.if-is_empty.true)) in
    let others_empty = ended c.args.others.now (eqb-true _ _ (sym c.is_empty-then-is_empty.ensures ∙ c.if-is_empty-2.true)) in
    always (sym (records_of_level listed c.args.level.now c.args.row.now empty is) ∙ records_of_level other_listed c.args.level.now c.args.others.now others_empty other_is)

pub loop-placed-init : goal.loop-placed-init
loop-placed-init c = λ listed other_listed is other_is.
    let ps = c.placed-placed-items.result.now in
    let none = map (watts_at listed) (take 0 ps) in (
      read_none listed c.args.level.now ps none c.args.row.now c.placed-placed-items.ensures refl is,
      read_none other_listed c.args.level.now ps none c.args.others.now c.placed-placed-items.ensures refl other_is,
    )

pub loop-placed-preserved : goal.loop-placed-preserved
loop-placed-preserved c = λ listed other_listed is other_is.
    let ps = c.placed-placed-items.result.now in
    let place = c.loop-placed.placed-index in
    let p = c.placed-item.result in
    let here = c.placed-item.is in
    let below = c.loop-placed-test.true in
    let before = map (watts_at listed) (take place ps) in
    let after = map (watts_at listed) (take (place + 1) ps) in
    let held = c.loop-placed.invariant listed other_listed is other_is in
    let rise = rises_ahead c.args.level.now ps place p c.keeps.ensures.placed_rise c.placed-placed-items.ensures below here in
    let told = c.next_watts-watts.ensures listed (drop (place + 1) ps) rise (row_ahead listed ps place p before c.loop-placed.behind.now held.0 below here) in
    let other_told = c.next_watts-other_watts.ensures other_listed (drop (place + 1) ps) rise (row_ahead other_listed ps place p before c.loop-placed.others_behind.now held.1 below here) in
    let watts = c.next_watts-watts.result.0 in
    let same : watts ≡ c.next_watts-other_watts.result.0 = search rules in
    let more : after ≡ before ++ watts ∷ [] = map_more (watts_at listed) ps place p below ∙ ap (λ w. before ++ w ∷ []) (ap (watts_at listed) (sym here) ∙ sym told.0) in (
      record { values_are = refl; left_is = told.1 },
      record {
        values_are = more ∙ ap (λ w. before ++ w ∷ []) (same ∙ other_told.0) ∙ values_more other_listed ps place p before c.loop-placed.others_behind.now held.1 below here;
        left_is = other_told.1;
      },
    )

pub returns-then-watts-other_watts : goal.returns-then-watts-other_watts
unfolding level_watts
returns-then-watts-other_watts c = λ listed other_listed is other_is.
    let ps = c.placed-placed-items.result.now in
    let place = c.loop-placed.placed-index in
    let p = c.placed-item.result in
    let here = c.placed-item.is in
    let below = c.loop-placed-test.true in
    let before = map (watts_at listed) (take place ps) in
    let held = c.loop-placed.invariant listed other_listed is other_is in
    let rise = rises_ahead c.args.level.now ps place p c.keeps.ensures.placed_rise c.placed-placed-items.ensures below here in
    let told = c.next_watts-watts.ensures listed (drop (place + 1) ps) rise (row_ahead listed ps place p before c.loop-placed.behind.now held.0 below here) in
    let other_told = c.next_watts-other_watts.ensures other_listed (drop (place + 1) ps) rise (row_ahead other_listed ps place p before c.loop-placed.others_behind.now held.1 below here) in
    let at : slice_get c.args.level.now.placed place ≡ Some p = ap (λ (xs : List Placed). slice_get xs place) (sym c.placed-placed-items.ensures) ∙ slice_get_read ps (length ps) place p refl below here in
    let there = λ (f : Placed → ℤ). slice_get-map f c.args.level.now.placed place ∙ ap (option_map f) at in
    never (λ e.
    let alike : watts_at listed p ≡ watts_at other_listed p =
    some_is (watts_at listed p) (watts_at other_listed p) (sym (there (watts_at listed)) ∙ ap (λ (ws : List ℤ). slice_get ws place) e ∙ there (watts_at other_listed)) in
    c.if-watts-other_watts.true (ap (λ (z : ℤ). of_z w64 z) (told.0 ∙ alike ∙ sym other_told.0)))

pub returns : goal.returns
returns c = λ listed other_listed is other_is.
    let ps = c.placed-placed-items.result.now in
    let place = c.loop-placed.placed-index in
    let before = map (watts_at listed) (take place ps) in
    let past : length ps ≤ place = omega (arith, c.loop-placed-test.false) in
    let held = c.loop-placed.invariant listed other_listed is other_is in
    always
    (sym (read_all listed c.args.level.now ps place before c.loop-placed.behind.now c.placed-placed-items.ensures past held.0)
    ∙ read_all other_listed c.args.level.now ps place before c.loop-placed.others_behind.now c.placed-placed-items.ensures past held.1)
