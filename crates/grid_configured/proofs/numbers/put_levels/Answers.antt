use Rattle.std.proofs.Common.{refl, ap, ◌∙◌, sym, Some, cond}
use Rattle.std.specs.Str.{bytes_eq}
use Rattle.grid_configured.specs.Numbers.{bus_numbers, level_numbers, numbered, number_at}
use Rattle.grid_configured.proofs.NumberTables.{level_more}
use Rattle.grid_configured.proofs.numbers.put_levels.Goals as goal

pub loop-place-init : goal.loop-place-init
unfolding level_numbers numbered
loop-place-init c q = refl

pub loop-place-preserved : goal.loop-place-preserved
loop-place-preserved c q =
    let level = c.index-levels-place.result in
    c.in_ok-put_buses.ensures q
    ∙ ap (λ z. numbered (bus_numbers z) (number_at c.put.new.self q) q) c.slice.ensures
    ∙ ap (λ z. numbered (bus_numbers level.buses) z q) (c.in_ok-put.ensures q ∙ ap (λ z. cond (bytes_eq level.id q) (Some c.loop-place.place) z) (c.loop-place.invariant q))
    ∙ sym (level_more c.args.levels.now c.loop-place.place level (number_at c.args.numbers.now q) q c.loop-place-test.true c.index-levels-place.is)
