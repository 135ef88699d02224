use Rattle.std.proofs.Common.{◌≡◌, sym, true, false, rules}
use Rattle.grid_level.specs.Uses.{place_among, key_here}
use Rattle.grid_level.specs.Passing.{placed_at}
use Rattle.grid_level.proofs.Terminals.{free_here}
use Rattle.grid_level.proofs.TakenTerminals.{found_at}
use Rattle.grid_level.proofs.Level.placed_at.Goals as goal

pub returns-then-not-stands_at : goal.returns-then-not-stands_at
unfolding placed_at
returns-then-not-stands_at c =
    let free : key_here (λ p. p.node) c.args.node c.self.inside.placed.items ≡ false = search rules in
    rw (← c.self.view_is) (sym (free_here c.args.node c.self.inside.placed.items c.self.invariant.within.rise free))

pub returns : goal.returns
unfolding placed_at
returns c =
    let here : key_here (λ p. p.node) c.args.node c.self.inside.placed.items ≡ true = search rules in
    let at : c.place_of-place.result ≡ place_among (λ p. p.node) c.args.node c.self.inside.placed.items = search rules in
    rw (← c.self.view_is) (sym (found_at c.args.node c.self.inside.placed.items c.place_of-place.result c.index.result.now at here c.index.ensures))
