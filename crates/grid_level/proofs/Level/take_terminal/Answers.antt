use Rattle.std.proofs.Common.{refl, ◌≡◌, arith, rules, ap, ◌∙◌}
use Rattle.std.specs.Prelude.{remove}
use Rattle.grid_level.specs.LevelEdits.{level_without_terminal}
use Rattle.grid_level.specs.Uses.{place_among}
use Rattle.grid_level.specs.Passing.{placed_at}
use Rattle.grid_level.proofs.TakenTerminals.{taken_there, found_at, kept_taken}
use Rattle.grid_level.proofs.Level.take_terminal.Goals as goal

pub remove-placed-requires : goal.remove-placed-requires
remove-placed-requires c =
    let t = taken_there c.args.node _ _ c.self.invariant (rw (← c.self.view_is) at c.requires) in
    let at : c.place_of-place.result ≡ place_among (λ p. p.node) c.args.node c.self.inside.placed.items = search rules in
    omega (arith, t.within)

pub invariant_of-self : goal.invariant_of-self
invariant_of-self c =
    let t = taken_there c.args.node _ _ c.self.invariant (rw (← c.self.view_is) at c.requires) in
    let at : c.place_of-place.result ≡ place_among (λ p. p.node) c.args.node c.self.inside.placed.items = search rules in
    rw (c.take.ensures, c.remove-placed.ensures.items) (kept_taken _ _ c.args.node c.place_of-place.result c.remove-placed.result c.self.invariant t at c.remove-placed.ensures.value)

pub returns-clause-item : goal.returns-clause-item
unfolding placed_at
returns-clause-item c =
    let t = taken_there c.args.node _ _ c.self.invariant (rw (← c.self.view_is) at c.requires) in
    let at : c.place_of-place.result ≡ place_among (λ p. p.node) c.args.node c.self.inside.placed.items = search rules in
    rw (← c.self.view_is) (found_at c.args.node c.self.inside.placed.items c.place_of-place.result c.remove-placed.result at t.here c.remove-placed.ensures.value)

pub returns-clause-rest : goal.returns-clause-rest
unfolding level_without_terminal
returns-clause-rest c =
    let t = taken_there c.args.node _ _ c.self.invariant (rw (← c.self.view_is) at c.requires) in
    let at : c.place_of-place.result ≡ place_among (λ p. p.node) c.args.node c.self.inside.placed.items = search rules in
    let rest = ap (remove c.self.inside.placed.items) at ∙ t.rest in
    rw (c.remove-placed.ensures.items, ← c.self.view_is, rest) refl
