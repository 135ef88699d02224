use Rattle.std.proofs.Common.{◌≡◌, ◌+◌, sym, ap, ◌∙◌, rules}
use Rattle.grid_core.specs.History.{live}
use Rattle.grid_cli.specs.Hvdc.{named_count}
use Rattle.grid_cli.proofs.ItemTexts.{next_sum}
use Rattle.grid_cli.proofs.hvdc.count_all.Goals as goal

pub loop-place-preserved : goal.loop-place-preserved
loop-place-preserved c =
    let world = c.args.world.now in
    let name = c.variant_name.result.now in
    let more : c.in-Some.sum ≡ c.loop-place.count + named_count world name = search rules in
    more ∙ ap (λ n. n + named_count world name) c.loop-place.invariant ∙ sym (next_sum (named_count world) (live world.steps) c.loop-place.place name c.variant_name.ensures)
