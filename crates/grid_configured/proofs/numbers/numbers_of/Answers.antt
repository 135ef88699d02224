use Rattle.std.proofs.Common.{◌≤◌, List, ap, ◌∙◌, sym, subst, length, arith}
use Rattle.std.specs.Prelude.{All}
use Rattle.grid_configured.specs.declared.network.ConfiguredLevel.{ConfiguredLevel}
use Rattle.grid_configured.specs.Numbers.{level_numbers, numbered, number_at}
use Rattle.grid_configured.proofs.Limits.{few_levels}
use Rattle.grid_configured.proofs.NumberTables.{small_levels, has_levels}
use Rattle.grid_configured.proofs.numbers.numbers_of.Goals as goal

pub put_levels-requires-clause-few : goal.put_levels-requires-clause-few
put_levels-requires-clause-few c = let few = few_levels c.args.network.now c.requires in let e = ap length c.slice.ensures in omega (arith, few, e)

pub put_levels-requires-clause-buses : goal.put_levels-requires-clause-buses
put_levels-requires-clause-buses c = let P : List ConfiguredLevel → Type 0 = All (λ l. length l.buses ≤ 1024) in subst P (sym c.slice.ensures) (small_levels c.args.network.now c.requires)

pub returns : goal.returns
unfolding number_at
returns c =
    has_levels c.args.network.now c.put_levels.new.numbers c.requires
    (λ q. c.in_ok-put_levels.ensures q ∙ ap (λ z. numbered (level_numbers 0 z) (number_at c.empty-numbers.result q) q) c.slice.ensures ∙ ap (λ z. numbered (level_numbers 0 c.args.network.now.levels) (number_at z q) q) c.empty-numbers.ensures)
