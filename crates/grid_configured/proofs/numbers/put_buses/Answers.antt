use Rattle.std.proofs.Common.{refl, ap, ◌∙◌, sym, Some, cond}
use Rattle.std.specs.Str.{bytes_eq}
use Rattle.grid_configured.specs.Numbers.{bus_numbers, numbered, number_at}
use Rattle.grid_configured.proofs.NumberTables.{bus_more}
use Rattle.grid_configured.proofs.numbers.put_buses.Goals as goal

pub loop-place-init : goal.loop-place-init
unfolding bus_numbers numbered
loop-place-init c q = refl

pub loop-place-preserved : goal.loop-place-preserved
loop-place-preserved c q =
    let bus = c.index-buses-place.result in
    c.in_ok-put.ensures q
    ∙ ap (λ z. cond (bytes_eq bus q) (Some c.loop-place.place) z) (c.loop-place.invariant q)
    ∙ sym (bus_more c.args.buses.now c.loop-place.place bus (number_at c.args.numbers.now q) q c.loop-place-test.true c.index-buses-place.is)
