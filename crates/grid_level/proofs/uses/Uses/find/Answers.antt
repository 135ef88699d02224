use Rattle.std.proofs.Common.{◌≡◌, true, false, rules}
use Rattle.grid_level.specs.Uses.{place_among, key_here, used_nodes}
use Rattle.grid_level.proofs.LevelReaders.{position_here, position_free}
use Rattle.grid_level.proofs.uses.Uses.find.Goals as goal

pub returns-then-stands_at-clause-value : goal.returns-then-stands_at-clause-value
unfolding used_nodes
returns-then-stands_at-clause-value c =
    let here : key_here (λ u. u.node) c.args.node c.self.inside.items.items ≡ true = search rules in
    let at : c.place_of-place.result ≡ place_among (λ u. u.node) c.args.node c.self.inside.items.items = search rules in
    rw (← c.self.view_is) (position_here (λ u. u.node) c.args.node c.self.inside.items.items c.place_of-place.result c.self.invariant at here)

pub returns-else-stands_at-clause-value : goal.returns-else-stands_at-clause-value
unfolding used_nodes
returns-else-stands_at-clause-value c =
    let free : key_here (λ u. u.node) c.args.node c.self.inside.items.items ≡ false = search rules in
    rw (← c.self.view_is) (position_free (λ u. u.node) c.args.node c.self.inside.items.items c.self.invariant free)
