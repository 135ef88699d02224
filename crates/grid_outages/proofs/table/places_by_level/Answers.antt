use Rattle.std.proofs.Common.{◌≡◌, sym, ap, ◌∙◌, subst, ℕ, ◌+◌, ◌<◌, ◌++◌, [], ◌∷◌, cond, length, get_or, arith}
use Rattle.grid_outages.specs.Tables.{is_end, ends_at}
use Rattle.grid_outages.proofs.LevelPlaces.{places_to, place_more, all_rows, none_to}
use Rattle.grid_outages.proofs.table.places_by_level.Goals as goal

pub loop-place-init : goal.loop-place-init
loop-place-init c = record { long = c.in_ok-rows.ensures.long; each = λ level. c.in_ok-rows.ensures.none level ∙ sym (none_to c.args.ends.now level) }

pub loop-place-preserved : goal.loop-place-preserved
loop-place-preserved c =
    let ends = c.args.ends.now in
    let i = c.loop-place.place in
    record {
      long = c.in_ok-push_ends.ensures.long ∙ c.loop-place.invariant.long;
      each = λ level. c.in_ok-push_ends.ensures.each level ∙ ap (λ z. z ++ cond (is_end level (ends_at ends i)) (i ∷ []) []) (c.loop-place.invariant.each level) ∙ place_more ends level i;
    }

pub returns : goal.returns
returns c =
    let over : c.loop-place.place ≡ length c.args.ends.now = omega (arith, c.loop-place-test.false, c.loop-place.auto.place-end, c.in_ok-many.ensures.value) in
    c.from_vec.ensures ∙ all_rows c.args.count c.args.ends.now c.loop-place.rows.items c.loop-place.invariant.long (λ level lt. c.loop-place.invariant.each level ∙ ap (places_to c.args.ends.now level) over)
