use Rattle.std.proofs.Common.{◌≡◌, rules, arith, ◌∙◌}
use Rattle.std.specs.Prelude.{Ok}
use Rattle.grid_level.specs.LevelEdits.{terminal_fits, refusal_of}
use Rattle.grid_level.specs.Uses.{place_among}
use Rattle.grid_level.proofs.NodeCounts.{without-with}
use Rattle.grid_level.proofs.Places.{place-le}
use Rattle.grid_level.proofs.CodePromises.{few_uses}
use Rattle.grid_level.proofs.TakenTerminals.{terminal_refused, placed_of, terminal_done, terminal_kept}
use Rattle.grid_level.proofs.Level.place_terminal.Goals as goal

pub returns-in-Err-clause-refused : goal.returns-in-Err-clause-refused
returns-in-Err-clause-refused c = λ other.
    let first : c.in-Err.fault ≡ refusal_of (terminal_fits c.args.self.now c.args.node) = search (rules, c.in-Err.ensures.refused other) in
    first ∙ terminal_refused c.args.self.now c.args.node c.args.terminal c.args.stand

pub add-requires : goal.add-requires
add-requires c = omega (arith, few_uses _ _ c.self.invariant)

pub insert-requires : goal.insert-requires
insert-requires c =
    let at : c.in-Ok.pair.1 ≡ place_among (λ p. p.node) c.in-Ok.pair.0 c.self.inside.placed.items = rw (← c.self.view_is) at c.in-Ok.ensures.place in
    omega (arith, place-le (λ p. p.node) c.in-Ok.pair.0 c.self.inside.placed.items)

pub invariant_of-self-in-Ok-insert : goal.invariant_of-self-in-Ok-insert
invariant_of-self-in-Ok-insert c =
    let fits : terminal_fits c.args.self.now c.args.node ≡ Ok c.in-Ok.pair.0 = search rules in
    rw (c.in-Ok-add.ensures.ok, c.in-Ok-insert.ensures.items)
    (terminal_kept _ _ c.args.node (placed_of c.in-Ok.pair.0 c.args.terminal c.args.stand) c.in-Ok.pair.1 c.self.invariant (rw (← c.self.view_is) at fits) (rw (← c.self.view_is) at c.in-Ok.ensures.place))

pub invariant_of-self-in-Err-insert : goal.invariant_of-self-in-Err-insert
invariant_of-self-in-Err-insert c = rw (c.take.ensures, c.in-Err-insert.ensures.items, c.in-Ok-add.ensures.ok, without-with c.in-Ok.pair.0 c.self.inside.uses) c.self.invariant

pub returns-clause-done : goal.returns-clause-done
returns-clause-done c =
    let fits : terminal_fits c.args.self.now c.args.node ≡ Ok c.in-Ok.pair.0 = search rules in
    rw (← c.self.view_is) (terminal_done _ c.args.node c.args.terminal c.args.stand c.in-Ok.pair.0 c.in-Ok.pair.1 c.insert.new.self.items (rw (← c.self.view_is) at fits) (rw (← c.self.view_is) at c.in-Ok.ensures.place) c.in-Ok-insert.ensures.items)
